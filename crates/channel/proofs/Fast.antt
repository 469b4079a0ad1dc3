-- The search by stretches and cases says the first short job of all jobs without end, or that none is. Assumes nothing.
use mathlib.Core.Path.{◌≡◌, refl, sym, ap, ◌∙◌, subst}
use mathlib.Core.Bool.{Bool, true, false, cond, false≢true}
use mathlib.Core.Logic.{◌↔◌}
use Prim.Native.Nat.{ℕ, suc, ◌+◌, ◌*◌, ◌<◌}
use native.Mathlib.Nat.{dvd_trans, dvd-mul_right}
use native.Mathlib.Omega.{arith}
use borrow.Author.Tests.{ltb-true, ltb-false, leb-true, lt-ltb, le-ltb, le-leb}
use lib.Dec.{leb, ltb}
use lib.ListN.{length}
use Rattle.std.specs.Prelude.{Option, Some, None}
use Rattle.std.proofs.lemmas.Bool.{and_parts}
use Rattle.numbers.specs.Numbers.{least}
use Rattle.numbers.specs.Lists.{First}
use Rattle.channel.specs.Side.{Side, Sound, release, end, total, turn, span, Short, first, jobs}
use Rattle.channel.specs.Channel.{Balanced}
use Rattle.channel.specs.Judge.{IsLcm}
use Rattle.channel.specs.Cases.{step, gap, ShortCase}
use Rattle.channel.specs.Stretches.{Says, hunt, short_at, short_case, some_below, some_case, early_steps, late_steps, decide_fast}
use Rattle.numbers.proofs.Sums.{cases}
use Rattle.numbers.proofs.Least.{least_is}
use Rattle.channel.proofs.Periodic.{decided}
use Rattle.channel.proofs.Cases.{cases_decide}
use Rattle.channel.proofs.Stretches.{Found, hunt_finds, early_reach, late_reach}

-- ---- a test of each number below n

pub some_yes : (p : ℕ → Bool) (n : ℕ) → some_below p n ≡ true → (i : ℕ) × (i < n) × (p i ≡ true)
some_yes p n e = let l = ltb-true (least p n) n e in (least p n, l, (least_is p n).passes l)

pub some_no : (p : ℕ → Bool) (n : ℕ) → some_below p n ≡ false → (i : ℕ) → i < n → p i ≡ false
some_no p n e i h = (least_is p n).none_before i (omega (arith, ltb-false (least p n) n e))

pub yes_some : (p : ℕ → Bool) (n i : ℕ) → i < n → p i ≡ true → some_below p n ≡ true
yes_some p n i h e =
    lt-ltb (least p n) n
    (cases n (least p n) (λ l. absurd (false≢true (sym ((least_is p n).none_before i (omega arith)) ∙ e))) (λ l. l))

pub no_some : (p : ℕ → Bool) (n : ℕ) → ((i : ℕ) → i < n → p i ≡ false) → some_below p n ≡ false
no_some p n no_one =
    le-ltb (least p n) n
    (cases n (least p n) (λ l. l) (λ l. absurd (false≢true (sym (no_one (least p n) l) ∙ (least_is p n).passes l))))

-- ---- the cases

module _ (h : ℕ) (t g : Side) (stock : ℕ) where
  -- the two numbers that a case compares
  abbrev has : ℕ → ℕ → ℕ
  has j m = (stock + total g m) * span g + turn g * (release t j + gap h t g j m)

  abbrev wants : ℕ → ℕ → ℕ
  wants j m = total t (suc j) * span g + turn g * end g m

  pub case_yes : (a b : ℕ) → short_case h t g stock a b ≡ true → ShortCase h t g stock a b
  unfolding short_at
  case_yes a b e =
      let j : ℕ = length t.prefix + a in
      let m : ℕ = length g.prefix + b in
      let r = and_parts (leb (gap h t g j m) g.period) (ltb (has j m) (wants j m)) e in
      record { meet = leb-true (gap h t g j m) g.period r.0; lacks = ltb-true (has j m) (wants j m) r.1 }

  pub case_no : (a b : ℕ) → short_case h t g stock a b ≡ false → ¬ ShortCase h t g stock a b
  unfolding short_at
  case_no a b e s =
      let j : ℕ = length t.prefix + a in
      let m : ℕ = length g.prefix + b in
      false≢true (sym e ∙ rw (le-leb (gap h t g j m) g.period s.meet) (lt-ltb (has j m) (wants j m) s.lacks))

  pub cases_yes : some_case h t g stock ≡ true → (a b : ℕ) × (a < length t.cycle) × (b < length g.cycle) × ShortCase h t g stock a b
  unfolding some_case
  cases_yes e =
      let x = some_yes (λ a. some_below (short_case h t g stock a) (length g.cycle)) (length t.cycle) e in
      let y = some_yes (short_case h t g stock x.0) (length g.cycle) x.2 in
      (x.0, y.0, x.1, y.1, case_yes x.0 y.0 y.2)

  pub cases_no : some_case h t g stock ≡ false → (a b : ℕ) → a < length t.cycle → b < length g.cycle → ¬ ShortCase h t g stock a b
  unfolding some_case
  cases_no e a b la lb =
      case_no a b
      (some_no (short_case h t g stock a) (length g.cycle)
      (some_no (λ a. some_below (short_case h t g stock a) (length g.cycle)) (length t.cycle) e a la) b lb)

-- one answer is true of a channel
pub says_one : (t g : Side) (stock : ℕ) (r s : Option ℕ) → Says t g stock r → Says t g stock s → r ≡ s
says_one t g stock None None a b = refl
says_one t g stock None (Some k) a b = absurd (a k b.0)
says_one t g stock (Some k) None a b = absurd (b k a.0)
says_one t g stock (Some k) (Some j) a b =
    ap Some
    (cases k j
    (λ h. cases j k (λ l. omega arith) (λ l. absurd (b.1 k l a.0)))
    (λ h. absurd (a.1 j h b.0)))

module _ (t g : Side) (okt : Sound t) (okg : Sound g) (bal : Balanced t g) (L : ℕ) (l : IsLcm (span t) (span g) L) (stock : ℕ) where
  early : Found t g stock (first t g) (hunt t g stock (first t g) (early_steps t g) 0)
  early = hunt_finds t g okt okg stock (first t g) (early_steps t g) 0 (λ j h. absurd (omega arith)) (early_reach t g okt okg)

  late : Found t g stock (jobs L t g) (hunt t g stock (jobs L t g) (late_steps L t g) 0)
  late =
      hunt_finds t g okt okg stock (jobs L t g) (late_steps L t g) 0 (λ j h. absurd (omega arith))
      (late_reach t g okt okg L (dvd_trans t.period (dvd-mul_right t.period (length t.cycle)) l.left) (dvd_trans g.period (dvd-mul_right g.period (length g.cycle)) l.right))

  all_found : (r : Option ℕ) → Found t g stock (jobs L t g) r → Says t g stock r
  all_found (Some k) f = f
  all_found None f = decided t g okt okg L l.positive l.left l.right bal stock f

  -- where no case is short, those before `first` say it all
  early_found : some_case (step L t g) t g stock ≡ false → (r : Option ℕ) → Found t g stock (first t g) r → Says t g stock r
  early_found e (Some k) f = f
  early_found e None f =
      λ k. cases (first t g) k
      (λ h. (cases_decide t g okt okg bal L l stock).1 (cases_no (step L t g) t g stock e) k h)
      (λ h. f k h)

  by_cases : (b : Bool) → some_case (step L t g) t g stock ≡ b
      → Says t g stock
      (cond b (hunt t g stock (jobs L t g) (late_steps L t g) 0) (hunt t g stock (first t g) (early_steps t g) 0))
  by_cases true e = all_found (hunt t g stock (jobs L t g) (late_steps L t g) 0) late
  by_cases false e = early_found e (hunt t g stock (first t g) (early_steps t g) 0) early

  -- what is computed is true of all jobs without end
  pub fast_says : Says t g stock (decide_fast L t g stock)
  unfolding decide_fast
  fast_says = by_cases (some_case (step L t g) t g stock) refl

  -- and nothing else is
  pub says_fast : (r : Option ℕ) → Says t g stock r ↔ (decide_fast L t g stock ≡ r)
  says_fast r = (
    λ s. says_one t g stock (decide_fast L t g stock) r fast_says s,
    λ e. subst (Says t g stock) e fast_says,
  )

  -- the second search is made only where a job is short
  pub searched_short : some_case (step L t g) t g stock ≡ true → (k : ℕ) × First (Short t g stock) k
  searched_short e =
      let found : Option ℕ = hunt t g stock (jobs L t g) (late_steps L t g) 0 in
      go found (all_found found late)
    where
      go : (r : Option ℕ) → Says t g stock r → (k : ℕ) × First (Short t g stock) k
      go (Some k) f = (k, f)
      go None f =
          let s = cases_yes (step L t g) t g stock e in
          absurd ((cases_decide t g okt okg bal L l stock).0 (λ k _. f k) s.0 s.1 s.2 s.3 s.4)
