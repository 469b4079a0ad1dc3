-- The taker's jobs between two ends of the giver: some are short exactly where the last one is; and how far so many stretches go. Assumes nothing.
use mathlib.Core.Path.{◌≡◌, refl, ap}
use mathlib.Core.Bool.{Bool, true, false, cond}
use mathlib.Core.Logic.{◌↔◌}
use Prim.Native.Nat.{ℕ, zero, suc, ◌+◌, ◌-◌, ◌/◌, min, ◌≤◌, ◌<◌, ◌∣◌}
use native.Mathlib.Nat.{le-div_iff_mul-le, div-mul_cancel, div-le_of_le-mul, lt_of_mul-lt-mul_right, min-eq_left, min-eq_right}
use native.Mathlib.Omega.{arith}
use borrow.Author.Tests.{ltb-true, ltb-false, leb-true}
use lib.Dec.{leb, ltb}
use lib.ListN.{length}
use Rattle.std.specs.Prelude.{Option, Some, None}
use Rattle.numbers.specs.Numbers.{ceil, least}
use Rattle.numbers.specs.Lists.{First}
use Rattle.channel.specs.Side.{Side, Sound, release, end, total, ended, Short, first, jobs}
use Rattle.channel.specs.Stretches.{released, beyond, supply, hunt, early_steps, late_steps}
use Rattle.numbers.proofs.Sums.{cases}
use Rattle.numbers.proofs.Least.{least_is}
use Rattle.channel.proofs.Jobs.{ended_iff, ended_is, ended_mono, release_mono}
use Rattle.channel.proofs.Totals.{total_mono}

pub released_iff : (s : Side) → Sound s → (m x : ℕ) → (m < released s x) ↔ (release s m < x)
unfolding ceil
released_iff s ok m x = (
  λ h. omega (arith, (le-div_iff_mul-le {k = s.period} {x = suc m} {y = x - s.offset + (s.period - 1)} (omega arith)).0 h),
  λ h. (le-div_iff_mul-le {k = s.period} {x = suc m} {y = x - s.offset + (s.period - 1)} (omega arith)).1 (omega arith),
)

-- what a search among the first n jobs has found
abbrev pub Found : Side → Side → ℕ → ℕ → Option ℕ → Type 0
Found t g stock n (Some k) = First (Short t g stock) k
Found t g stock n None = (j : ℕ) → j < n → ¬ Short t g stock j

-- the job that so many stretches from k on lead to
pub after : Side → Side → ℕ → ℕ → ℕ
after t g zero k = k
after t g (suc steps) k = after t g steps (beyond t g k)

module _ (t g : Side) (okt : Sound t) (okg : Sound g) where
  -- job k is in its stretch
  pub goes_on : (k : ℕ) → k < beyond t g k
  goes_on k =
      let q : ℕ = ended g (release t k) in
      (released_iff t okt k (end g q)).1
      (cases (end g q) (release t k) (λ h. omega (arith, (ended_iff g okg q (release t k)).1 h)) (λ h. h))

  -- and one more of the giver's jobs has ended behind it
  one_over : (k : ℕ) → ended g (release t k) < ended g (release t (beyond t g k))
  one_over k =
      let q : ℕ = ended g (release t k) in
      let n : ℕ = beyond t g k in
      (ended_iff g okg q (release t n)).1
      (cases (end g q) (release t n) (λ h. h) (λ h. omega (arith, (released_iff t okt n (end g q)).1 h)))

  -- in a stretch the number of ended jobs stays
  pub same_ended : (k j : ℕ) → k ≤ j → j < beyond t g k → ended g (release t j) ≡ ended g (release t k)
  same_ended k j h l =
      let q : ℕ = ended g (release t k) in
      ended_is g okg q (release t j) (ended_mono g okg (release t k) (release t j) (release_mono t okt k j h)) ((released_iff t okt j (end g q)).0 l)

  module _ (stock : ℕ) where
    -- so the test of a job in a stretch is of its own total alone
    pub short_in : (k j : ℕ) → k ≤ j → j < beyond t g k → Short t g stock j ↔ (supply t g stock k < total t (suc j))
    short_in k j h l =
        let e = ap (total g) (same_ended k j h l) in
        (λ s. omega (arith, e), λ s. omega (arith, e))

    -- and some job of the stretch is short exactly where the last one is
    pub stretch :
        (k : ℕ)
        → ((j : ℕ) × (k ≤ j) × (j < beyond t g k) × Short t g stock j) ↔ (supply t g stock k < total t (beyond t g k))
    stretch k = (
      λ r. omega (arith, (short_in k r.0 r.1 r.2).0 r.3, total_mono t (suc r.0) (beyond t g k) r.2),
      λ s.
          let n : ℕ = beyond t g k in
          let e : suc (n - 1) ≡ n = omega (arith, goes_on k) in
          (n - 1, omega (arith, goes_on k), omega arith, (short_in k (n - 1) (omega (arith, goes_on k)) (omega arith)).1 (omega (arith, ap (total t) e))),
    )

    -- the first short job of a stretch
    first_in :
        (k : ℕ) → ((j : ℕ) → j < k → ¬ Short t g stock j) → supply t g stock k < total t (beyond t g k)
        → First (Short t g stock) (k + least (λ i. ltb (supply t g stock k) (total t (suc (k + i)))) (beyond t g k - k))
    first_in k before s =
        let n : ℕ = beyond t g k in
        let p : ℕ → Bool = λ i. ltb (supply t g stock k) (total t (suc (k + i))) in
        let i = least_is p (n - k) in
        let r : ℕ = least p (n - k) in
        let quiet : (j : ℕ) → j < k + r → ¬ Short t g stock j =
        λ j h. cases k j
        (λ l c.
        let e : k + (j - k) ≡ j = omega arith in
        let no_short : total t (suc (k + (j - k))) ≤ supply t g stock k = ltb-false (supply t g stock k) (total t (suc (k + (j - k)))) (i.none_before (j - k) (omega arith)) in
        omega (arith, (short_in k j l (omega (arith, i.most))).0 c, ap (λ x. total t (suc x)) e))
        (λ l. before j l) in
        let inside : r < n - k =
        cases (n - k) r
        (λ l. let f = (stretch k).1 s in absurd (quiet f.0 (omega (arith, f.2)) f.3))
        (λ l. l) in
        ((short_in k (k + r) (omega arith) (omega arith)).1 (ltb-true (supply t g stock k) (total t (suc (k + r))) (i.passes inside)), quiet)

    pub hunt_finds :
        (n steps k : ℕ) → ((j : ℕ) → j < k → ¬ Short t g stock j) → n ≤ after t g steps k
        → Found t g stock n (hunt t g stock n steps k)
    unfolding hunt after
    hunt_finds n zero k before far = λ j h. before j (omega arith)
    hunt_finds n (suc steps) k before far = go (leb n k) (ltb (supply t g stock k) (total t (beyond t g k))) refl refl (hunt_finds n steps (beyond t g k))
      where
        go :
            (a b : Bool) → leb n k ≡ a → ltb (supply t g stock k) (total t (beyond t g k)) ≡ b
            → (((j : ℕ) → j < beyond t g k → ¬ Short t g stock j) → n ≤ after t g steps (beyond t g k)
            → Found t g stock n (hunt t g stock n steps (beyond t g k)))
            → Found t g stock n
            (cond a None
            (cond b (Some (k + least (λ i. ltb (supply t g stock k) (total t (suc (k + i)))) (beyond t g k - k)))
            (hunt t g stock n steps (beyond t g k))))
        go true b ea eb rest = λ j h. before j (omega (arith, leb-true n k ea))
        go false true ea eb rest = first_in k before (ltb-true (supply t g stock k) (total t (beyond t g k)) eb)
        go false false ea eb rest =
            rest
            (λ j h. cases k j
            (λ l c. omega (arith, ltb-false (supply t g stock k) (total t (beyond t g k)) eb, (stretch k).0 (j, l, h, c)))
            (λ l. before j l))
            far

  -- ---- how far so many stretches go

  after_jobs : (steps k : ℕ) → k + steps ≤ after t g steps k
  unfolding after
  after_jobs zero k = omega arith
  after_jobs (suc steps) k = omega (arith, goes_on k, after_jobs steps (beyond t g k))

  after_ended : (steps k : ℕ) → ended g (release t k) + steps ≤ ended g (release t (after t g steps k))
  unfolding after
  after_ended zero k = omega arith
  after_ended (suc steps) k = omega (arith, one_over k, after_ended steps (beyond t g k))

  after_add : (a b k : ℕ) → after t g (a + b) k ≡ after t g b (after t g a k)
  unfolding after
  after_add zero b k = let e : 0 + b ≡ b = omega arith in rw e refl
  after_add (suc a) b k = let e : suc a + b ≡ suc (a + b) = omega arith in rw e (after_add a b (beyond t g k))

  -- one stretch more for the giver's first job behind its prefix, and one for the division
  over_reach : (end g (length g.prefix) - t.offset) / t.period + 1 ≤ after t g (length g.prefix + 2) 0
  over_reach =
      let k : ℕ = after t g (length g.prefix + 1) 0 in
      let over : end g (length g.prefix) ≤ release t k =
      (ended_iff g okg (length g.prefix) (release t k)).0 (omega (arith, after_ended (length g.prefix + 1) 0)) in
      let quotient : (end g (length g.prefix) - t.offset) / t.period ≤ k = div-le_of_le-mul t.period (omega arith) in
      let e : length g.prefix + 2 ≡ length g.prefix + 1 + 1 = omega arith in
      rw e (omega (arith, after_add (length g.prefix + 1) 1 0, after_jobs 1 k))

  -- past the jobs before `first`
  pub early_reach : first t g ≤ after t g (early_steps t g) 0
  early_reach =
      let n : ℕ = length g.prefix + 2 in
      let e : early_steps t g ≡ n + (early_steps t g - n) = omega arith in
      let further : after t g n 0 ≤ after t g (early_steps t g) 0 =
      rw e (omega (arith, after_add n (early_steps t g - n) 0, after_jobs (early_steps t g - n) (after t g n 0))) in
      omega (arith, over_reach, further, after_jobs (early_steps t g) 0)

  -- and past all that decide, where L is a multiple of both periods
  module _ (L : ℕ) (dt : t.period ∣ L) (dg : g.period ∣ L) where
    one_length : (k : ℕ) → k + L / t.period ≤ after t g (L / g.period + 1) k
    one_length k =
        let n : ℕ = L / g.period in
        let q : ℕ = ended g (release t k) in
        let to : ℕ = after t g (n + 1) k in
        let over : end g (q + n) ≤ release t to = (ended_iff g okg (q + n) (release t to)).0 (omega (arith, after_ended (n + 1) k)) in
        let here : release t k < end g q = (released_iff t okt k (end g q)).0 (goes_on k) in
        let less : k + L / t.period < to =
        lt_of_mul-lt-mul_right t.period (omega (arith, div-mul_cancel t.period dt, div-mul_cancel g.period dg)) in
        omega arith

    pub late_reach : jobs L t g ≤ after t g (late_steps L t g) 0
    late_reach =
        let k : ℕ = after t g (early_steps t g) 0 in
        let a : ℕ = L / t.period in
        let b : ℕ = L / g.period + 1 in
        let far : k + a ≤ after t g (min a b) k =
        cases a b
        (λ h. let e : min a b ≡ a = min-eq_left h in rw e (after_jobs a k))
        (λ h. let e : min a b ≡ b = min-eq_right (omega arith) in rw e (one_length k)) in
        omega (arith, early_reach, after_add (early_steps t g) (min a b) 0)
