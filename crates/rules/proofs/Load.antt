-- A load above one leaves the task of the largest priority number late, so number 12 is never given. Assumes nothing.
use mathlib.Core.Path.{◌≡◌, refl, ap}
use mathlib.Core.Bool.{cond}
use mathlib.Core.Logic.{inl}
use Prim.Native.Nat.{ℕ, zero, suc, ◌+◌, ◌*◌, ◌/◌, ◌≤◌, ◌<◌}
use native.Mathlib.Nat.{le_refl, mul-le-mul_left, mul-le-mul_right, div-mul-le_self}
use native.Mathlib.Decide.{ℕ_discrete}
use native.Mathlib.Omega.{arith}
use borrow.Author.Tests.{lt-ltb, eq-eqb, ne_eqb}
use lib.Dec.{eqb}
use Rattle.std.specs.Prelude.{Err}
use Rattle.numbers.specs.Numbers.{sum, ceil}
use Rattle.numbers.proofs.Sums.{cases, extend, sum_zero, sum_mono, sum_plus, sum_times, sum_only, ceil_enough}
use Rattle.machine.specs.Machine.{above, demand}
use Rattle.graph.specs.Model.{Graph, count, task}
use Rattle.rules.specs.Terms.{cost, machine, Usable}
use Rattle.reply.specs.declared.Refusal.TheVariants.{Late, Overloaded, SamePriority}
use Rattle.rules.specs.Rules.{load, Refuses, Replies, fails}
use Rattle.rules.proofs.Kept.{distinct}

-- a task's part of the load, over w ticks, is at most its cost for x jobs that take up w ticks
portion : (c p w x : ℕ) → w ≤ x * p → w * (c * 1_000_000 / p) ≤ 1_000_000 * (c * x)
portion c p w x h =
    let q : ℕ = c * 1_000_000 / p in
    omega (arith, mul-le-mul_right q h, mul-le-mul_left x (div-mul-le_self (c * 1_000_000) p))

largest : (f : ℕ → ℕ) (n : ℕ) → 1 ≤ n → (i : ℕ) × (i < n) × ((j : ℕ) → j < n → f j ≤ f i)
largest f zero h = absurd (omega arith)
largest f (suc zero) h = (0, le_refl 1, extend (λ j. f j ≤ f 0) 0 (λ j l. absurd (omega arith)) (le_refl (f 0)))
largest f (suc (suc n)) h =
    let (i, l, m) = largest f (suc n) (omega arith) in
    cases (f (suc n)) (f i)
    (λ k. (i, omega arith, extend (λ j. f j ≤ f i) (suc n) m k))
    (λ k. (suc n, le_refl (suc (suc n)), extend (λ j. f j ≤ f (suc n)) (suc n) (λ j x. omega (arith, m j x)) (le_refl (f (suc n)))))

module _ (g : Graph) (ok : Usable g) (i : ℕ) (l : i < count g) (last : (j : ℕ) → j < count g → ¬ (j ≡ i) → (task g j).priority < (task g i).priority) where
  -- what task j adds to the demand of i at w, i's own part among it
  abbrev others : ℕ → ℕ → ℕ
  others w j = cond (above (machine g) i j) (cost g j * ceil w (task g j).period) 0

  abbrev own : ℕ → ℕ
  own j = cond (eqb j i) (cost g i) 0

  loaded : (w j : ℕ) → w ≤ (task g i).deadline → j < count g → w * (cost g j * 1_000_000 / (task g j).period) ≤ 1_000_000 * (others w j + own j)
  loaded w j h k =
      elim (ℕ_discrete j i) [
        | yes e ↦
            let t = ok.timed i l in
            rw e
            (omega (
              arith,
              portion (cost g i) (task g i).period w 1 (omega arith),
              ap (λ b. cond b (cost g i) 0) (eq-eqb i i refl),
            ))
        | no d ↦
            let t = ok.timed j k in
            omega (
              arith,
              portion (cost g j) (task g j).period w (ceil w (task g j).period) (ceil_enough w (omega arith)),
              ap (λ b. cond b (cost g j * ceil w (task g j).period) 0) (lt-ltb (task g j).priority (task g i).priority (last j k d)),
            )
      ]

  own_once : sum own (count g) ≡ cost g i
  own_once =
      omega (arith, sum_only own i (count g) l (λ j _ d. ap (λ b. cond b (cost g i) 0) (ne_eqb j i d)), ap (λ b. cond b (cost g i) 0) (eq-eqb i i refl))

  -- so the load over w ticks is at most the demand at w
  pub load_le : (w : ℕ) → w ≤ (task g i).deadline → w * load g ≤ 1_000_000 * demand (machine g) i w
  unfolding load demand
  load_le w h =
      let part : ℕ → ℕ = λ j. cost g j * 1_000_000 / (task g j).period in
      omega (
        arith,
        sum_times w part (count g),
        sum_mono (λ j. w * part j) (λ j. 1_000_000 * (others w j + own j)) (count g) (λ j k. loaded w j h k),
        sum_times 1_000_000 (λ j. others w j + own j) (count g),
        sum_plus (others w) own (count g),
        own_once,
      )

  pub overload_late : 1_000_000 < load g → (w : ℕ) → 1 ≤ w → w ≤ (task g i).deadline → w < demand (machine g) i w
  overload_late more w p h =
      cases (demand (machine g) i w) w (λ d. absurd (omega (arith, load_le w h, mul-le-mul_left w more))) (λ d. d)

-- a load above one, under priorities that differ, leaves a task late
pub overloaded_late : (g : Graph) → Usable g → (room : ℕ) → ((i : ℕ) → ¬ Refuses g room (SamePriority i)) → Refuses g room Overloaded → (i : ℕ) × Refuses g room (Late i)
unfolding load
overloaded_late g ok room differ more =
    let part : ℕ → ℕ = λ j. cost g j * 1_000_000 / (task g j).period in
    let some_task : 1 ≤ count g = cases 1 (count g) (λ h. h) (λ h. let e : count g ≡ 0 = omega arith in absurd (omega (arith, ap (sum part) e, sum_zero part))) in
    let (i, l, m) = largest (λ j. (task g j).priority) (count g) some_task in
    let last : (j : ℕ) → j < count g → ¬ (j ≡ i) → (task g j).priority < (task g i).priority = λ j k d.
    cases (task g i).priority (task g j).priority (λ h. absurd (d (distinct g room differ j i k l (omega (arith, m j k))))) (λ h. h) in
    (i, (l, overload_late g ok i l last more))

-- number 12 is never given
pub never_overloaded : (g : Graph) → Usable g → (room : ℕ) → ¬ Replies g room (Err Overloaded)
never_overloaded g ok room (fails r h first) =
    let (i, k) = overloaded_late g ok room (λ j s. first (SamePriority j) s (inl (omega arith))) h in
    first (Late i) k (inl (omega arith))
