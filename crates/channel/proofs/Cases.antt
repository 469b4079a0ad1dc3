-- Past both prefixes a job is short somewhere exactly where one of the cases is short. Assumes nothing.
use mathlib.Core.Path.{◌≡◌, sym, ap, ◌∙◌, subst}
use mathlib.Core.Logic.{◌↔◌}
use Prim.Native.Nat.{ℕ, suc, ◌+◌, ◌*◌, ◌-◌, ◌/◌, ◌%◌, ◌≤◌, ◌<◌}
use native.Mathlib.Nat.{mod-lt, mod-le, div-add-mod', mul-pos, mul-lt-mul_of_pos_right, lt_of_mul-lt-mul_right, mul-le-mul_left, le-mul_of_pos_right, add-mul-mod_self_right}
use native.Mathlib.Omega.{arith}
use lib.ListN.{length}
use Rattle.channel.specs.Side.{Side, Sound, release, end, total, turn, span, ended, Short, first}
use Rattle.channel.specs.Channel.{Balanced}
use Rattle.channel.specs.Judge.{IsLcm}
use Rattle.channel.specs.Cases.{step, gap, Lacks, ShortCase}
use Rattle.numbers.proofs.Sums.{cases}
use Rattle.channel.proofs.Jobs.{ended_iff, ended_is}
use Rattle.channel.proofs.Totals.{turns}
use Rattle.channel.proofs.Periodic.{past}
use Rattle.channel.proofs.Common.{Common, lcm_common, lands}

-- two numbers that multiples of h make equal leave the same
same_rest : (h X Y p r : ℕ) → X + p * h ≡ Y + r * h → X % h ≡ Y % h
same_rest h X Y p r e =
    sym (add-mul-mod_self_right X p h) ∙ ap (λ x. x % h) e ∙ add-mul-mod_self_right Y r h

module _ (t g : Side) (okt : Sound t) (okg : Sound g) (bal : Balanced t g) (stock : ℕ) where
  span_pos : 0 < span g
  span_pos = mul-pos (omega arith) okg.some_rate

  -- jobs j and m, v and u turns later, at the moment when job m's successor is the next to end
  module _ (j m v u before : ℕ) (hj : length t.prefix ≤ j) (hm : length g.prefix ≤ m)
      (apart : release t j + before + v * span t ≡ end g m + u * span g)
      (next : ended g (release t (j + v * length t.cycle)) ≡ m + u * length g.cycle) where
    abbrev k : ℕ
    k = j + v * length t.cycle

    wants : total t (suc k) ≡ total t (suc j) + v * turn t
    wants = ap (total t) (omega arith) ∙ turns t okt (suc j) v (omega arith)

    has : total g (ended g (release t k)) ≡ total g m + u * turn g
    has = ap (total g) next ∙ turns g okg m u hm

    -- by balance, the turns weigh what the time between them weighs
    weight : turn g * (release t j + before) + v * turn t * span g ≡ turn g * end g m + u * turn g * span g
    weight = omega (arith, ap (λ x. turn g * x) apart, ap (λ x. v * x) bal)

    short_lacks : Short t g stock k → Lacks t g stock j m before
    short_lacks s =
        let less : stock + (total g m + u * turn g) < total t (suc j) + v * turn t = omega (arith, wants, has) in
        omega (arith, weight, mul-lt-mul_of_pos_right less span_pos)

    lacks_short : Lacks t g stock j m before → Short t g stock k
    lacks_short l =
        let less : stock + (total g m + u * turn g) < total t (suc j) + v * turn t =
        lt_of_mul-lt-mul_right (span g) (omega (arith, weight)) in
        omega (arith, wants, has)

  module _ (h : ℕ) (c : Common (span t) (span g) h) where
    -- what is left of job j's release up to a multiple of h
    rest_up : (j : ℕ) → release t j + 1 + (h - 1 - release t j % h) ≡ (release t j / h + 1) * h
    rest_up j = omega (arith, div-add-mod' (release t j) h, mod-lt (release t j) {m = h} c.some)

    -- no time before the end is less than the gap
    gap_least : (j m v u before : ℕ) → 1 ≤ before → release t j + before + v * span t ≡ end g m + u * span g → gap h t g j m ≤ before
    gap_least j m v u before some apart =
        let w : ℕ = h - 1 - release t j % h in
        let e : before - 1 + (release t j / h + 1 + v * c.p) * h ≡ end g m + w + u * c.q * h =
        omega (arith, rest_up j, ap (λ x. v * x) c.left, ap (λ x. u * x) c.right) in
        let r = same_rest h (before - 1) (end g m + w) (release t j / h + 1 + v * c.p) (u * c.q) e in
        omega (arith, r, mod-le (before - 1) h)

    -- and at some turns it is the gap
    gap_met : (j m n : ℕ) → (v u : ℕ) × (n ≤ v) × (release t j + gap h t g j m + v * span t ≡ end g m + u * span g)
    gap_met j m n =
        let w : ℕ = h - 1 - release t j % h in
        let y : ℕ = end g m + w in
        lands (span t) (span g) h span_pos c (release t j + gap h t g j m) (end g m)
        (same_rest h (release t j + gap h t g j m) (end g m) (y / h) (release t j / h + 1) (omega (arith, rest_up j, div-add-mod' y h)))
        n

    -- a short job past both prefixes makes its case short
    pub short_has_case : (k : ℕ) → first t g ≤ k → Short t g stock k
        → (a b : ℕ) × (a < length t.cycle) × (b < length g.cycle) × ShortCase h t g stock a b
    short_has_case k late s =
        let q : ℕ = ended g (release t k) in
        let over : length g.prefix < q = (ended_iff g okg (length g.prefix) (release t k)).1 (past t g okt okg k late) in
        let a : ℕ = (k - length t.prefix) % length t.cycle in
        let v : ℕ = (k - length t.prefix) / length t.cycle in
        let b : ℕ = (q - length g.prefix) % length g.cycle in
        let u : ℕ = (q - length g.prefix) / length g.cycle in
        let j : ℕ = length t.prefix + a in
        let m : ℕ = length g.prefix + b in
        let ek : j + v * length t.cycle ≡ k = omega (arith, div-add-mod' (k - length t.prefix) (length t.cycle)) in
        let eq : m + u * length g.cycle ≡ q = omega (arith, div-add-mod' (q - length g.prefix) (length g.cycle)) in
        let before : ℕ = end g q - release t k in
        let open_yet : release t k < end g q = cases (end g q) (release t k) (λ l. omega (arith, (ended_iff g okg q (release t k)).1 l)) (λ l. l) in
        let last : end g (q - 1) ≤ release t k = (ended_iff g okg (q - 1) (release t k)).0 (omega arith) in
        let one : q - 1 + 1 ≡ q = omega arith in
        let within : before ≤ g.period = omega (arith, ap (λ x. x * g.period) one) in
        let apart : release t j + before + v * span t ≡ end g m + u * span g =
        omega (arith, ap (λ x. x * t.period) ek, ap (λ x. x * g.period) eq) in
        let least : gap h t g j m ≤ before = gap_least j m v u before (omega arith) apart in
        let next : ended g (release t (j + v * length t.cycle)) ≡ m + u * length g.cycle = ap (λ x. ended g (release t x)) ek ∙ sym eq in
        let lacks : Lacks t g stock j m before = short_lacks j m v u before (omega arith) (omega arith) apart next (subst (Short t g stock) (sym ek) s) in (
          a,
          b,
          mod-lt (k - length t.prefix) okt.some_rate,
          mod-lt (q - length g.prefix) okg.some_rate,
          record { meet = omega arith; lacks = omega (arith, mul-le-mul_left (turn g) least) },
        )

    -- and a short case has short jobs, as late as wished
    pub case_short : (a b : ℕ) → ShortCase h t g stock a b → (n : ℕ) → (k : ℕ) × (n ≤ k) × Short t g stock k
    case_short a b s n =
        let j : ℕ = length t.prefix + a in
        let m : ℕ = length g.prefix + b in
        let d = gap_met j m n in
        let v : ℕ = d.0 in
        let u : ℕ = d.1 in
        let k : ℕ = j + v * length t.cycle in
        let q : ℕ = m + u * length g.cycle in
        let ends : release t k + gap h t g j m ≡ end g q = omega (arith, d.3) in
        let over : q ≤ ended g (release t k) =
        cases 1 q
        (λ l.
        let one : q - 1 + 1 ≡ q = omega arith in
        omega (arith, (ended_iff g okg (q - 1) (release t k)).1 (omega (arith, ap (λ x. x * g.period) one, s.meet))))
        (λ l. omega arith) in
        let next : ended g (release t k) ≡ q = ended_is g okg q (release t k) over (omega arith) in (
          k,
          omega (arith, d.2, le-mul_of_pos_right v okt.some_rate),
          lacks_short j m v u (gap h t g j m) (omega arith) (omega arith) d.3 next s.lacks,
        )

-- Of a balanced channel no job from `first` on is short exactly where none of the cases is.
pub cases_decide :
    (t g : Side) → Sound t → Sound g → Balanced t g → (L : ℕ) → IsLcm (span t) (span g) L → (stock : ℕ)
    → ((k : ℕ) → first t g ≤ k → ¬ Short t g stock k)
    ↔ ((a b : ℕ) → a < length t.cycle → b < length g.cycle → ¬ ShortCase (step L t g) t g stock a b)
cases_decide t g okt okg bal L l stock =
    let h : ℕ = step L t g in
    let c : Common (span t) (span g) h = lcm_common (span t) (span g) L (mul-pos (omega arith) okt.some_rate) (mul-pos (omega arith) okg.some_rate) l in (
      λ none a b _ _ s. let r = case_short t g okt okg bal stock h c a b s (first t g) in none r.0 r.1 r.2,
      λ none k late s. let r = short_has_case t g okt okg bal stock h c k late s in none r.0 r.1 r.2 r.3 r.4,
    )
