-- A side's table of totals: how it is filled, and the total of any number of jobs by it. Assumes nothing.
use mathlib.Core.Path.{◌≡◌, refl, sym, ap, ◌∙◌, subst}
use mathlib.Core.List.{List}
use Prim.Native.Nat.{ℕ, suc, ◌+◌, ◌*◌, ◌-◌, ◌/◌, ◌%◌, ◌≤◌, ◌<◌}
use native.Mathlib.Nat.{mod-lt, mod-eq_of_lt, div-lt_self}
use native.Mathlib.Numerals.{add-one}
use native.Mathlib.Decide.{dec_lt}
use native.Mathlib.Omega.{arith}
use lib.ListN.{length, get_or, set, take, drop, length-set}
use lib.Seq.{get_or-set_same, get_or-set_other}
use Rattle.std.proofs.lemmas.List.{get_or-take, get_or-drop}
use Rattle.numbers.proofs.Sums.{cases, extend, sum_zero, sum_suc, sum_mono, sum_const}
use Rattle.graph.specs.Rates.{rate_of}
use Rattle.graph.proofs.Rates.{in_cycle, rate_is, place_first_turn}
use Rattle.channel.specs.Side.{Side, Sound, total, turn}
use Rattle.channel.proofs.Totals.{total_mono, total_bound, rate_cycle, turns, total_folded}
use Rattle.channels.specs.Sides.{Limited}
use Rattle.channels.specs.Tables.{Listed, Tabled}
use Rattle.channels.specs.Party.{side_of, Equipped}
use Rattle.channels.specs.declared.Party.TheInside.{Inside}

module _ (prefix cycle : List ℕ) where
  -- totals ask for no times
  abbrev timeless : Side
  timeless = record { period = 1; offset = 0; window = 1; prefix = prefix; cycle = cycle }

  entry_late : (i : ℕ) → length prefix ≤ i → i < length prefix + length cycle → get_or cycle (i - length prefix) 0 ≡ rate_of prefix cycle i
  entry_late i h l =
      rate_is prefix cycle i cycle (i - length prefix) (in_cycle prefix cycle i h) (place_first_turn (length prefix) (length cycle) i h (omega arith))

  module _ (ok : Listed prefix cycle) where
    plain : Sound timeless
    plain = record { some_tick = omega arith; fits = omega arith; some_rate = ok.some_rate }

    -- the rates of prefix and one turn are all that there are
    few_all : ((j : ℕ) → j < length prefix + length cycle → rate_of prefix cycle j ≤ 65535) → (j : ℕ) → rate_of prefix cycle j ≤ 65535
    few_all few j =
        cases (length prefix + length cycle) j
        (λ h.
        let d : ℕ = j - length prefix in
        let n : ℕ = length cycle in
        let back : d % n < n = mod-lt d {m = n} ok.some_rate in
        let e : length prefix + d ≡ j = omega arith in
        let same : rate_of prefix cycle (length prefix + d) ≡ rate_of prefix cycle (length prefix + d % n) =
        rate_cycle timeless plain d ∙ ap (λ x. get_or cycle x 0) (sym (mod-eq_of_lt back)) ∙ sym (rate_cycle timeless plain (d % n)) in
        omega (arith, same, ap (rate_of prefix cycle) e, few (length prefix + d % n) (omega arith)))
        (few j)

    module _ (sums : List ℕ) (tab : Tabled prefix cycle sums) where
      pub total_most : (m : ℕ) → total timeless m ≤ 65535 * m
      total_most m = omega (arith, total_bound timeless 65535 tab.few m)

      pub rises : get_or sums (length prefix) 0 ≤ get_or sums (length prefix + length cycle) 0
      rises =
          omega (
            arith,
            tab.at (length prefix) (omega arith),
            tab.at (length prefix + length cycle) (omega arith),
            total_mono timeless (length prefix) (length prefix + length cycle) (omega arith),
          )

      pub turn_is : get_or sums (length prefix + length cycle) 0 - get_or sums (length prefix) 0 ≡ turn timeless
      turn_is =
          let one : length prefix + 1 * length cycle ≡ length prefix + length cycle = omega arith in
          omega (
            arith,
            tab.at (length prefix) (omega arith),
            tab.at (length prefix + length cycle) (omega arith),
            ap (total timeless) one,
            turns timeless plain (length prefix) 1 (omega arith),
          )

      pub turn_most : turn timeless ≤ 65535 * length cycle
      turn_most =
          let low = sum_mono (λ i. get_or cycle i 0) (λ _. 65535) (length cycle)
          (λ j h. let k : ℕ = length prefix + j in let e : k - length prefix ≡ j = omega arith in omega (arith, tab.few k, entry_late k (omega arith) (omega arith), ap (λ x. get_or cycle x 0) e)) in
          omega (arith, low, sum_const 65535 (length cycle))

      -- past the prefix
      pub folded :
          (m : ℕ) → length prefix ≤ m
          → get_or sums (length prefix + (m - length prefix) % length cycle) 0
          + (m - length prefix) / length cycle * (get_or sums (length prefix + length cycle) 0 - get_or sums (length prefix) 0)
          ≡ total timeless m
      folded m h =
          let n : ℕ = length cycle in
          let r : ℕ = (m - length prefix) % n in
          rw turn_is
          (omega (
            arith,
            total_folded timeless plain m h,
            tab.at (length prefix + r) (omega (arith, mod-lt (m - length prefix) {m = n} ok.some_rate)),
          ))

  -- ---- filling the table: i places are filled
  pub record Filled (sums : List ℕ) (sum i : ℕ) : Type 0 where
    pub size : length sums ≡ 49
    pub within : i ≤ length prefix + length cycle
    pub is : sum ≡ total timeless i
    pub most : sum ≤ 65535 * i
    pub at : (j : ℕ) → j < suc i → get_or sums j 0 ≡ total timeless j
    pub few : (j : ℕ) → j < i → rate_of prefix cycle j ≤ 65535

  pub filled_none : (sums : List ℕ) → length sums ≡ 49 → get_or sums 0 0 ≡ 0 → Filled sums 0 0
  filled_none sums n z =
      record {
        size = n;
        within = omega arith;
        is = sym (sum_zero (rate_of prefix cycle));
        most = omega arith;
        at = λ j h. let e : j ≡ 0 = omega arith in rw e (z ∙ sym (sum_zero (rate_of prefix cycle)));
        few = λ j h. absurd (omega arith);
      }

  pub filled_more : (sums : List ℕ) (sum i r : ℕ) → Filled sums sum i → Listed prefix cycle → i < length prefix + length cycle
      → r ≡ rate_of prefix cycle i → r ≤ 65535 → Filled (set sums (i + 1) (sum + r)) (sum + r) (i + 1)
  filled_more sums sum i r f ok l e small =
      let next : sum + r ≡ total timeless (i + 1) = omega (arith, f.is, sum_suc (rate_of prefix cycle) i, ap (total timeless) (add-one i)) in
      let room : i + 1 < length sums = omega (arith, f.size, ok.prefix_most, ok.cycle_most) in
      record {
        size = length-set sums (i + 1) (sum + r) ∙ f.size;
        within = omega arith;
        is = next;
        most = omega (arith, f.most);
        at = λ j h. elim (dec_lt j (i + 1)) [
          | yes k ↦ get_or-set_other sums (i + 1) j (sum + r) 0 (λ q. omega arith) ∙ f.at j (omega arith)
          | no k ↦ let same : j ≡ i + 1 = omega arith in rw same (get_or-set_same sums (i + 1) (sum + r) 0 room ∙ next)
        ];
        few = λ j h. extend (λ k. rate_of prefix cycle k ≤ 65535) i f.few (omega arith) j (omega arith);
      }

  pub filled_all : Listed prefix cycle → (sums : List ℕ) (sum i : ℕ) → Filled sums sum i → length prefix + length cycle ≤ i → Tabled prefix cycle sums
  filled_all ok sums sum i f l =
      record {
        at = λ j h. f.at j (omega arith);
        few = few_all ok (λ j h. f.few j (omega arith));
      }

-- ---- the table of a party

pub sound : {s : Side} → Limited s → Sound s
sound l = record { some_tick = l.some_tick; fits = l.fits; some_rate = l.some_rate }

-- what is known of a party that stands for s
pub record Known (p : Inside) (s : Side) : Type 0 where
  pub period : p.period ≡ s.period
  pub prefix : p.prefix.now ≡ s.prefix
  pub cycle : p.cycle.now ≡ s.cycle
  pub limited : Limited s
  pub tabled : Tabled s.prefix s.cycle p.sums

pub known : {p : Inside} {s : Side} → side_of p ≡ s → Equipped p → Known p s
known {p} e k =
    subst (Known p) e
    record { period = refl; prefix = refl; cycle = refl; limited = k.limited; tabled = k.tabled }

pub listed : {s : Side} → Limited s → Listed s.prefix s.cycle
listed l = record { prefix_most = l.prefix_most; some_rate = l.some_rate; cycle_most = l.cycle_most }

-- past the prefix, with what a turn moves
pub folded_turn : {p : Inside} (k : Equipped p) (m : ℕ) → length p.prefix.now ≤ m
    → get_or p.sums (length p.prefix.now + (m - length p.prefix.now) % length p.cycle.now) 0
    + (m - length p.prefix.now) / length p.cycle.now * turn (side_of p)
    ≡ total (side_of p) m
folded_turn {p} k m h =
    let at : ℕ = length p.prefix.now + (m - length p.prefix.now) % length p.cycle.now in
    subst (λ x. get_or p.sums at 0 + (m - length p.prefix.now) / length p.cycle.now * x ≡ total (side_of p) m) (turn_is _ _ (listed k.limited) _ k.tabled) (folded _ _ (listed k.limited) _ k.tabled m h)

-- an entry of a part of the table
pub part_is : {p : Inside} {s : Side} → Known p s → (from n i : ℕ) → i < n → from + i ≤ length s.prefix + length s.cycle
    → get_or (take n (drop from p.sums)) i 0 ≡ total s (from + i)
part_is {p} {s} k from n i h l =
    get_or-take n (drop from p.sums) i 0 h ∙ get_or-drop from p.sums i 0 ∙ k.tabled.at (from + i) l

-- ---- the search by halves

pub mid_in : (low high : ℕ) → low < high → (low ≤ low + (high - low) / 2) × (low + (high - low) / 2 < high)
mid_in low high h = (omega arith, omega (arith, div-lt_self {n = high - low} {k = 2} (omega arith) (omega arith)))

module _ (s : Side) (have from to : ℕ) where
  -- no total below `low` is above `have`, and that with `high` is
  pub record Halved (low high : ℕ) : Type 0 where
    pub starts : from ≤ low
    pub order : low ≤ high
    pub ends : high < to
    pub none : (j : ℕ) → from ≤ j → j < low → total s (suc j) ≤ have
    pub above : have < total s (suc high)

  module _ (low high : ℕ) (now : Halved low high) (mid : ℕ) (a : low ≤ mid) (b : mid < high) where
    pub halved_low : total s (mid + 1) ≤ have → Halved (mid + 1) high
    halved_low h =
        record {
          starts = omega (arith, now.starts);
          order = omega arith;
          ends = now.ends;
          none = λ j f l. omega (arith, total_mono s (suc j) (mid + 1) (omega arith));
          above = now.above;
        }
