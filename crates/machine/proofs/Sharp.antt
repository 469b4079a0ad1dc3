-- The response rule is sharp. Where all tasks are released together and each job runs its worst, the first job of a task takes all of its
-- response time (`met`); and of two tasks the second is done at its deadline, not a tick before (`sharp`). Assumes nothing.
use mathlib.Core.Path.{◌≡◌, refl, ap, ◌∙◌}
use mathlib.Core.Bool.{Bool, true, false, cond, ◌&&◌}
use mathlib.Core.Logic.{◌⊎◌, inl, inr}
use Prim.Native.Nat.{ℕ, zero, suc, ◌+◌, ◌-◌, ◌*◌, ◌≤◌, ◌<◌, zero-le}
use native.Mathlib.Nat.{le_refl}
use native.Mathlib.Omega.{arith}
use borrow.Author.Tests.{le-ltb}
use lib.Dec.{T, leb, ltb, eqb, eqb→eq, ltb→lt}
use Rattle.numbers.specs.Numbers.{sum, ceil}
use Rattle.machine.specs.Machine.{Tasks, Mine, release, Slot, idle, job, tick, ran, Legal, above, demand, IsResponse, Tested, Served}
use Rattle.numbers.proofs.Sums.{cases, sum_suc, sum_mono, sum_plus, sum_const, sum_swap, sum_nought, sum_only, ceil_least, ceil_enough}
use Rattle.machine.proofs.Response.{tick_own, tick_of, nth_tick, first, settled, served}
use Rattle.machine.proofs.Exists.{exists}

-- ---- sums of which one term counts

one_term : (f : ℕ → ℕ) (a n v : ℕ) → ((j : ℕ) → ¬ (j ≡ a) → f j ≡ 0) → f a ≤ v → sum f n ≤ v
one_term f a n v none h =
    cases n a
    (λ l. omega (arith, sum_nought f n (λ j k. none j (λ e. omega arith))))
    (λ l. omega (arith, sum_only f a n l (λ j _ d. none j d)))

cond_le : (b : Bool) (x : ℕ) → cond b x 0 ≤ x
cond_le true x = le_refl x
cond_le false x = zero-le

unless : (b c : Bool) (x : ℕ) → c ≡ false → cond (b && c) x 0 ≡ 0
unless true c x e = ap (λ y. cond y x 0) e
unless false c x e = refl

cond_sum : (b : Bool) (w m : ℕ) (f : ℕ → ℕ) → (T b → m ≤ sum f w) → cond b m 0 ≤ sum (λ x. cond b (f x) 0) w
cond_sum true w m f h = h tt
cond_sum false w m f h = zero-le

halves : (b c : Bool) → T (b && c) → T b × T c
halves true true h = (tt, tt)
halves true false h = absurd h
halves false c h = absurd h

-- ---- what a slot counts for

-- how often a slot is one of the first n jobs of task j; the same over every task above i and its jobs released before tick w
of_task : ℕ → ℕ → Slot → ℕ
of_task j n s = sum (λ y. tick j y s) n

abbrev of_higher : Tasks → ℕ → ℕ → Slot → ℕ → ℕ
of_higher ts i w s j = cond (above ts i j) (of_task j (ceil w (ts.period j)) s) 0

of_above : Tasks → ℕ → ℕ → Slot → ℕ
of_above ts i w s = sum (of_higher ts i w s) ts.count

other_task : (j a b n : ℕ) → ¬ (j ≡ a) → of_task j n (job a b) ≡ 0
unfolding of_task
other_task j a b n d = sum_nought (λ y. tick j y (job a b)) n (λ y _. go y (tick_of j y (job a b)))
  where
    go : (y : ℕ) → (job a b ≡ job j y) ⊎ (tick j y (job a b) ≡ 0) → tick j y (job a b) ≡ 0
    go y (inl e) = absurd (d (cc))
    go y (inr e) = e

own_task : (a b n : ℕ) → of_task a n (job a b) ≤ 1
unfolding of_task
own_task a b n = one_term (λ y. tick a y (job a b)) b n 1 (λ y d. go y d (tick_of a y (job a b))) (omega (arith, tick_own a b))
  where
    go : (y : ℕ) → ¬ (y ≡ b) → (job a b ≡ job a y) ⊎ (tick a y (job a b) ≡ 0) → tick a y (job a b) ≡ 0
    go y d (inl e) = absurd (d (cc))
    go y d (inr e) = e

-- a slot counts once at most
counts_once : (ts : Tasks) (i w : ℕ) (s : Slot) → tick i 0 s + of_above ts i w s ≤ 1
unfolding of_above of_task tick
counts_once ts i w idle =
    omega (arith, sum_nought (of_higher ts i w idle) ts.count (λ j _. still (above ts i j) (ceil w (ts.period j))))
  where
    still : (b : Bool) (n : ℕ) → cond b (sum (λ y. 0) n) 0 ≡ 0
    still true n = sum_nought (λ y. 0) n (λ _ _. refl)
    still false n = refl
counts_once ts i w (job a b) = go (tick_of i 0 (job a b))
  where
    other : (j : ℕ) → ¬ (j ≡ a) → of_higher ts i w (job a b) j ≡ 0
    other j d = omega (arith, cond_le (above ts i j) (of_task j (ceil w (ts.period j)) (job a b)), other_task j a b (ceil w (ts.period j)) d)

    own : of_higher ts i w (job a b) i ≡ 0
    own = unless (eqb (ts.processor i) (ts.processor i)) (ltb (ts.priority i) (ts.priority i)) _ (le-ltb (ts.priority i) (ts.priority i) (le_refl (ts.priority i)))

    go : (job a b ≡ job i 0) ⊎ (tick i 0 (job a b) ≡ 0) → tick i 0 (job a b) + of_above ts i w (job a b) ≤ 1
    go (inl e) =
        let here : a ≡ i = cc in
        omega (arith, one_term (of_higher ts i w (job a b)) a ts.count 0 other (omega (arith, ap (of_higher ts i w (job a b)) here, own)), ap (tick i 0) e, tick_own i 0)
    go (inr z) =
        omega (
          arith,
          one_term (of_higher ts i w (job a b)) a ts.count 1 other (omega (arith, cond_le (above ts i a) (of_task a (ceil w (ts.period a)) (job a b)), own_task a b (ceil w (ts.period a)))),
        )

-- ---- the bound is met

module _ (ts : Tasks) (cpu : ℕ) (needs : ℕ → ℕ → ℕ) (runs : ℕ → Slot) (L : Legal ts cpu needs runs)
    (periods : (j : ℕ) → Mine ts cpu j → 0 < ts.period j) (together : (j : ℕ) → Mine ts cpu j → ts.offset j ≡ 0)
    (worst : (j l : ℕ) → Mine ts cpu j → needs j l ≡ ts.worst j) (i : ℕ) (m : Mine ts cpu i) where
  -- where job 0 of i runs in tick s, the jobs above it that are released by then have run in full
  module _ (s : ℕ) (e : runs s ≡ job i 0) where
    above_done : (j : ℕ) → Mine ts cpu j → ts.priority j < ts.priority i
        → ts.worst j * ceil (suc s) (ts.period j) ≤ sum (λ x. of_task j (ceil (suc s) (ts.period j)) (runs x)) (suc s)
    unfolding of_task ran
    above_done j n p =
        let w : ℕ = ceil (suc s) (ts.period j) in
        omega (
          arith,
          sum_swap (λ x y. tick j y (runs x)) (suc s) w,
          sum_const (ts.worst j) w,
          sum_mono (λ y. ts.worst j) (λ y. sum (λ x. tick j y (runs x)) (suc s)) w (λ y h. done y h),
        )
      where
        done : (y : ℕ) → y < ceil (suc s) (ts.period j) → ts.worst j ≤ ran runs j y (suc s)
        done y h =
            let soon : release ts j y < suc s = cases (suc s) (y * ts.period j) (λ x. omega (arith, ceil_least (suc s) y (periods j n) x)) (λ x. omega (arith, together j n)) in
            omega (arith, worst j y n, settled ts cpu needs runs L i s (λ a b q u. omega (arith, (first ts cpu needs runs L e).least a b u)) j y n p soon)

    all_in : ran runs i 0 (suc s) ≡ ts.worst i → demand ts i (suc s) ≤ suc s
    unfolding demand of_above ran
    all_in d =
        omega (
          arith,
          sum_const 1 (suc s),
          sum_mono (λ x. tick i 0 (runs x) + of_above ts i (suc s) (runs x)) (λ x. 1) (suc s) (λ x _. counts_once ts i (suc s) (runs x)),
          sum_plus (λ x. tick i 0 (runs x)) (λ x. of_above ts i (suc s) (runs x)) (suc s),
          sum_swap (λ x j. cond (above ts i j) (of_task j (ceil (suc s) (ts.period j)) (runs x)) 0) (suc s) ts.count,
          sum_mono (λ j. cond (above ts i j) (ts.worst j * ceil (suc s) (ts.period j)) 0) (λ j. sum (λ x. cond (above ts i j) (of_task j (ceil (suc s) (ts.period j)) (runs x)) 0) (suc s)) ts.count (λ j l. one j l),
        )
      where
        one : (j : ℕ) → j < ts.count
            → cond (above ts i j) (ts.worst j * ceil (suc s) (ts.period j)) 0 ≤ sum (λ x. cond (above ts i j) (of_task j (ceil (suc s) (ts.period j)) (runs x)) 0) (suc s)
        one j l =
            cond_sum (above ts i j) (suc s) _ (λ x. of_task j (ceil (suc s) (ts.period j)) (runs x))
            (λ b. let (p, q) = halves (eqb (ts.processor j) (ts.processor i)) (ltb (ts.priority j) (ts.priority i)) b in
            above_done j (record { counted = l; bound = eqb→eq (ts.processor j) (ts.processor i) p ∙ m.bound }) (ltb→lt (ts.priority j) (ts.priority i) q))

  -- job 0 has not run in full before its response time
  pub met : (r : ℕ) → IsResponse ts i r → (w : ℕ) → ran runs i 0 w ≡ needs i 0 → r ≤ w
  unfolding ran
  met r R w d =
      let c : ℕ = ts.worst i - 1 in
      let (s, b, e, h) = nth_tick runs i 0 c w (omega (arith, worst i 0 m, L.length i 0 m)) in
      omega (
        arith,
        R.least (suc s) (omega arith)
            (all_in s e (omega (arith, sum_suc (λ x. tick i 0 (runs x)) s, ap (tick i 0) e, tick_own i 0, worst i 0 m, L.length i 0 m))),
      )

-- ---- two tasks: periods 2 and 6, deadlines 2 and 4, worst times 1 and 2

-- the first number of task 0, the second of task 1
abbrev of_two : ℕ → ℕ → ℕ → ℕ
of_two a b i = cond (eqb i 0) a b

abbrev pub pair : Tasks
pair =
    record {
      count = 2;
      processor = λ _. 0;
      period = of_two 2 6;
      offset = λ _. 0;
      deadline = of_two 2 4;
      worst = of_two 1 2;
      priority = of_two 1 2;
    }

-- each job runs its worst
abbrev pub all_worst : Tasks → ℕ → ℕ → ℕ
all_worst ts i k = ts.worst i

-- what holds of both holds of all
both_of : (P : ℕ → Type 0) → P 0 → P 1 → (i : ℕ) → i < 2 → P i
both_of P a b zero h = a
both_of P a b (suc zero) h = b
both_of P a b (suc (suc i)) h = absurd (omega arith)

pair_demand : (w : ℕ) → demand pair 1 w ≡ 2 + (0 + 1 * ceil w 2 + 0)
unfolding demand sum
pair_demand w = refl

first_demand : (w : ℕ) → demand pair 0 w ≡ 1
unfolding demand sum
first_demand w = refl

pair_responses : (i : ℕ) → i < 2 → IsResponse pair i (of_two 1 4 i)
pair_responses =
    both_of (λ i. IsResponse pair i (of_two 1 4 i))
    (record { from_one = omega arith; to_deadline = omega arith; enough = omega (arith, first_demand 1); least = λ w h _. h })
    (record {
      from_one = omega arith;
      to_deadline = omega arith;
      enough = omega (arith, pair_demand 4, ceil_least {p = 2} 4 2 (omega arith) (omega arith));
      least = λ w _ d. omega (arith, pair_demand w, ceil_enough {p = 2} w (omega arith));
    })

pair_tested : Tested pair (of_two 1 4)
pair_tested =
    record {
      constrained = both_of (λ i. pair.deadline i ≤ pair.period i) (omega arith) (omega arith);
      distinct = λ i j l m.
          both_of (λ i. pair.priority i ≡ pair.priority j → i ≡ j)
          (both_of (λ j. 1 ≡ pair.priority j → 0 ≡ j) (λ _. refl) (λ e. omega arith) j m)
          (both_of (λ j. 2 ≡ pair.priority j → 1 ≡ j) (λ e. omega arith) (λ _. refl) j m)
          i l;
      response = pair_responses;
    }

-- Job 1 of the first task is released at tick 2. It is not served where it never runs, nor where it runs a tick too soon or a tick too long.
pub unserved :
    ¬ Served pair (all_worst pair) (λ t. idle) 1 0 1
    × ¬ Served pair (all_worst pair) (λ t. cond (eqb t 1) (job 0 1) idle) 1 0 1
    × ¬ Served pair (all_worst pair) (λ t. cond (leb 2 t) (job 0 1) idle) 1 0 1
unfolding ran sum tick
unserved = (
  λ s. let none = s.finished in omega arith,
  λ s. let soon = s.inside 1 refl in omega arith,
  λ s. let long = s.inside 3 refl in omega arith,
)

-- The second task's first job is done at tick 4, which is its response time and its deadline: less is not enough, and a tick more is too late.
pub sharp :
    (runs : ℕ → Slot) × Legal pair 0 (all_worst pair) runs
    × Served pair (all_worst pair) runs 4 1 0 × ¬ Served pair (all_worst pair) runs 3 1 0 × ¬ Served pair (all_worst pair) runs 5 1 0
sharp =
    let periods : (j : ℕ) → Mine pair 0 j → 0 < pair.period j = λ j m. both_of (λ i. 0 < pair.period i) (omega arith) (omega arith) j m.counted in
    let some_work : (i : ℕ) → Mine pair 0 i → 1 ≤ pair.worst i = λ i m. both_of (λ i. 1 ≤ pair.worst i) (omega arith) (omega arith) i m.counted in
    let (runs, L) = exists pair 0 (all_worst pair) periods (λ i k m. (some_work i m, le_refl (pair.worst i))) in
    let second : Mine pair 0 1 = record { counted = omega arith; bound = refl } in
    let sooner = met pair 0 (all_worst pair) runs L periods (λ _ _. refl) (λ _ _ _. refl) 1 second 4 (pair_responses 1 (omega arith)) 3 in (
      runs,
      L,
      served pair 0 (all_worst pair) runs L (of_two 1 4) pair_tested 1 second 0,
      λ s. let r = sooner s.finished in omega arith,
      λ s. let late = s.in_time in omega arith,
    )
