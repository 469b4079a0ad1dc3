-- Soundness of the response rule: in every legal execution each job is done within the response time of its task (`served`).
-- Assumes nothing.
use mathlib.Core.Path.{◌≡◌, refl, sym, ap, subst, ◌∙◌}
use mathlib.Core.Logic.{◌⊎◌, inl, inr}
use mathlib.Core.Bool.{Bool, true, false, cond, ◌&&◌}
use Prim.Native.Nat.{ℕ, zero, suc, ◌+◌, ◌-◌, ◌*◌, ◌≤◌, ◌<◌, zero-le}
use native.Mathlib.Nat.{le_refl, le-suc, mul-le-mul_right, lt_of_mul-lt-mul_right}
use native.Mathlib.Decide.{dec_lt}
use native.Mathlib.Omega.{arith}
use lib.Dec.{T, ltb, eqb, eqb→eq, eqb_refl, lt→ltb}
use Rattle.numbers.specs.Numbers.{sum, ceil}
use Rattle.machine.specs.Machine.{Tasks, Mine, release, Slot, idle, job, tick, ran, Unfinished, First, May, Legal, above, demand, Tested, Served}
use Rattle.numbers.proofs.Sums.{extend, sum_mono, sum_plus, sum_const, sum_swap, sum_split, sum_le, sum_at, ceil_least, ceil_enough}

-- ---- tests

both : (b c : Bool) (x : ℕ) → T b → T c → cond (b && c) x 0 ≡ x
both true true x p q = refl
both true false x p q = absurd q
both false c x p q = absurd p

eq→eqb : {a b : ℕ} → a ≡ b → T (eqb a b)
eq→eqb {a} e = subst (λ x. T (eqb a x)) e (eqb_refl a)

left : (b c : Bool) → T (b && c) → T b
left true c h = tt
left false c h = h

sum_cond : (b : Bool) (w m : ℕ) (f : ℕ → ℕ) → (T b → sum f w ≤ m) → sum (λ x. cond b (f x) 0) w ≤ cond b m 0
sum_cond true w m f h = h tt
sum_cond false w m f h = omega (arith, sum_const 0 w)

-- ---- one slot

pub tick_own : (i k : ℕ) → tick i k (job i k) ≡ 1
unfolding tick
tick_own i k = both (eqb i i) (eqb k k) 1 (eqb_refl i) (eqb_refl k)

-- a slot that counts for a job is spent on it
pub tick_of : (i k : ℕ) (s : Slot) → (s ≡ job i k) ⊎ (tick i k s ≡ 0)
unfolding tick
tick_of i k idle = inr refl
tick_of i k (job j l) = go (eqb j i) (eqb l k) (eqb→eq j i) (eqb→eq l k)
  where
    go : (b c : Bool) → (T b → j ≡ i) → (T c → l ≡ k) → (job j l ≡ job i k) ⊎ (◌≡◌ {A = ℕ} (cond (b && c) 1 0) 0)
    go true true p q = let e = p tt in let f = q tt in inl (cc)
    go true false p q = inr refl
    go false c p q = inr refl

-- the first job of task j that is released at tick a or later
first_from : Tasks → ℕ → ℕ → ℕ
first_from ts a j = ceil (a - ts.offset j) (ts.period j)

-- how often a slot is one of the ⌈ w / T_j ⌉ first jobs of task j released from tick a on; the same over every task j above i
part : Tasks → ℕ → ℕ → ℕ → Slot → ℕ
part ts a w j s = sum (λ y. tick j (first_from ts a j + y) s) (ceil w (ts.period j))

share : Tasks → ℕ → ℕ → ℕ → Slot → ℕ
share ts i a w s = sum (λ j. cond (above ts i j) (part ts a w j s) 0) ts.count

-- a job released in the w ticks from a on has its part
part_own : (ts : Tasks) (a w j l : ℕ) → 0 < ts.period j → a ≤ release ts j l → release ts j l < a + w → 1 ≤ part ts a w j (job j l)
unfolding part first_from
part_own ts a w j l z h h' =
    let o : ℕ = ceil (a - ts.offset j) (ts.period j) in
    let low : o ≤ l = ceil_least (a - ts.offset j) l z (omega arith) in
    let high : l < o + ceil w (ts.period j) = lt_of_mul-lt-mul_right (ts.period j) (omega (arith, ceil_enough (a - ts.offset j) z, ceil_enough w z)) in
    let here : o + (l - o) ≡ l = omega arith in
    omega (arith, tick_own j l, ap (λ x. tick j x (job j l)) here, sum_at (λ y. tick j (o + y) (job j l)) (l - o) (ceil w (ts.period j)) (omega arith))

-- the tick in which a job runs when it has run c ticks
pub nth_tick : (runs : ℕ → Slot) (i k c t : ℕ) → c < ran runs i k t → (s : ℕ) × (s < t) × (runs s ≡ job i k) × (ran runs i k s ≡ c)
unfolding ran sum
nth_tick runs i k c zero h = absurd (omega arith)
nth_tick runs i k c (suc t) h = go (tick_of i k (runs t)) (dec_lt c (ran runs i k t)) (nth_tick runs i k c t)
  where
    go : (runs t ≡ job i k) ⊎ (tick i k (runs t) ≡ 0) → Dec (c < ran runs i k t)
        → (c < ran runs i k t → (s : ℕ) × (s < t) × (runs s ≡ job i k) × (ran runs i k s ≡ c))
        → (s : ℕ) × (s < suc t) × (runs s ≡ job i k) × (ran runs i k s ≡ c)
    go x (yes l) rec = let (s, a, b, e) = rec l in (s, omega arith, b, e)
    go (inl e) (no l) rec = (t, le_refl (suc t), e, omega (arith, ap (tick i k) e, tick_own i k))
    go (inr e) (no l) rec = absurd (omega arith)

module _ (ts : Tasks) (cpu : ℕ) (needs : ℕ → ℕ → ℕ) (runs : ℕ → Slot) where
  -- tick t is spent on a job above i's
  abbrev Higher : ℕ → ℕ → Type 0
  Higher i t = (j : ℕ) × (l : ℕ) × (runs t ≡ job j l) × (ts.priority j < ts.priority i)

  -- every job above i's that is released before t is finished at t
  abbrev Quiet : ℕ → ℕ → Type 0
  Quiet i t = (j l : ℕ) → Mine ts cpu j → ts.priority j < ts.priority i → release ts j l < t → needs j l ≤ ran runs j l t

  -- the stretch before tick t that is spent on jobs above i's, back to a tick where none is left over
  record Busy (i t : ℕ) : Type 0 where
    start : ℕ
    early : start ≤ t
    quiet : Quiet i start
    spent : (s : ℕ) → start ≤ s → s < t → Higher i s

  module _ (L : Legal ts cpu needs runs) where
    pub first : {t i k : ℕ} → runs t ≡ job i k → First ts cpu needs runs t i k
    first {t} e = subst (May ts cpu needs runs t) e (L.choice t)

    pub ran_mono : (i k : ℕ) {t u : ℕ} → t ≤ u → ran runs i k t ≤ ran runs i k u
    unfolding ran
    ran_mono i k {t} {u} h = sum_le (λ s. tick i k (runs s)) t u h

    pub ran_le : (i k t : ℕ) → ran runs i k t ≤ needs i k
    unfolding ran sum
    ran_le i k zero = zero-le
    ran_le i k (suc t) = go (ran_le i k t) (tick_of i k (runs t))
      where
        go : ran runs i k t ≤ needs i k → (runs t ≡ job i k) ⊎ (tick i k (runs t) ≡ 0) → ran runs i k (suc t) ≤ needs i k
        go h (inl e) = omega (arith, (first e).ready.left, ap (tick i k) e, tick_own i k)
        go h (inr e) = omega arith

    -- ---- the stretch before a tick that is spent on jobs above i's

    module _ (i : ℕ) where
      pub settled : (t : ℕ) → ((j l : ℕ) → ts.priority j < ts.priority i → ¬ Unfinished ts cpu needs runs t j l) → Quiet i (suc t)
      settled t none j l m p h =
          let q : ¬ (ran runs j l t < needs j l) = λ x. none j l p (record { mine = m; released = omega arith; left = x }) in
          omega (arith, ran_mono j l (le-suc t))

      -- a tick is spent on a job above i's, or leaves none of those unfinished
      higher_or_quiet : (t : ℕ) → Higher i t ⊎ Quiet i (suc t)
      higher_or_quiet t = go (runs t) refl (L.choice t)
        where
          go : (s : Slot) → runs t ≡ s → May ts cpu needs runs t s → Higher i t ⊎ Quiet i (suc t)
          go idle e m = inr (settled t (λ j l p u. m j l u))
          go (job j l) e f = elim (dec_lt (ts.priority j) (ts.priority i)) [
            | yes h ↦ inl (j, l, e, h)
            | no h ↦ inr (settled t (λ j' l' p u. omega (arith, f.least j' l' u)))
          ]

      busy : (r : ℕ) → Busy i r
      busy zero = record { start = zero; early = zero-le; quiet = λ j l m p h. absurd (omega arith); spent = λ t h h'. absurd (omega arith) }
      busy (suc r) = go (busy r) (higher_or_quiet r)
        where
          go : Busy i r → Higher i r ⊎ Quiet i (suc r) → Busy i (suc r)
          go b (inl h) = record {
            start = b.start;
            early = omega arith;
            quiet = b.quiet;
            spent = λ t x y. extend (λ s. b.start ≤ s → Higher i s) r (λ s l g. b.spent s g l) (λ g. h) t y x;
          }
          go b (inr q) = record { start = suc r; early = le_refl (suc r); quiet = q; spent = λ t h h'. absurd (omega arith) }

    module _ (r : ℕ → ℕ) (A : Tested ts r) (i : ℕ) (m : Mine ts cpu i) where
      fits : (j : ℕ) → Mine ts cpu j → (1 ≤ r j) × (r j ≤ ts.period j)
      fits j n = omega (arith, A.response j n.counted, A.constrained j n.counted)

      -- ---- the w ticks from a on

      module _ (a w : ℕ) where
        -- one that is spent on a job above i's has its share, where none was left over at a
        higher_share : Quiet i a → (t : ℕ) → a ≤ t → t < a + w → Higher i t → 1 ≤ share ts i a w (runs t)
        unfolding share
        higher_share q t h h' (j, l, e, p) =
            let u = (first e).ready in
            let late : ¬ (release ts j l < a) = λ x. omega (arith, q j l u.mine p x, ran_mono j l h) in
            omega (
              arith,
              part_own ts a w j l (omega (arith, fits j u.mine)) (omega arith) (omega arith),
              ap (part ts a w j) e,
              both (eqb (ts.processor j) (ts.processor i)) (ltb (ts.priority j) (ts.priority i)) (part ts a w j (runs t)) (eq→eqb (u.mine.bound ∙ sym m.bound)) (lt→ltb _ _ p),
              sum_at (λ j'. cond (above ts i j') (part ts a w j' (runs t)) 0) j ts.count u.mine.counted,
            )

        -- a job has at most what it ran, a task's part at most its worst for each job, and the shares at most what the demand counts
        tick_le : (j l : ℕ) → sum (λ x. tick j l (runs (a + x))) w ≤ ran runs j l (a + w)
        unfolding ran
        tick_le j l = omega (arith, sum_split (λ s. tick j l (runs s)) a w)

        part_le : (j : ℕ) → Mine ts cpu j → sum (λ x. part ts a w j (runs (a + x))) w ≤ ts.worst j * ceil w (ts.period j)
        unfolding part
        part_le j n' =
            let n : ℕ = ceil w (ts.period j) in
            let o : ℕ = first_from ts a j in
            omega (
              arith,
              sum_swap (λ x y. tick j (o + y) (runs (a + x))) w n,
              sum_mono (λ y. sum (λ x. tick j (o + y) (runs (a + x))) w) (λ y. ts.worst j) n
                  (λ y h. omega (arith, tick_le j (o + y), ran_le j (o + y) (a + w), L.length j (o + y) n')),
              sum_const (ts.worst j) n,
            )

        share_le : ts.worst i + sum (λ x. share ts i a w (runs (a + x))) w ≤ demand ts i w
        unfolding share demand
        share_le =
            let f : ℕ → ℕ → ℕ = λ x j. cond (above ts i j) (part ts a w j (runs (a + x))) 0 in
            omega (
              arith,
              sum_swap f w ts.count,
              sum_mono (λ j. sum (λ x. f x j) w) (λ j. cond (above ts i j) (ts.worst j * ceil w (ts.period j)) 0) ts.count
                  (λ j h. sum_cond (above ts i j) w _ (λ x. part ts a w j (runs (a + x))) (λ b. part_le j (record { counted = h; bound = eqb→eq (ts.processor j) (ts.processor i) (left (eqb (ts.processor j) (ts.processor i)) (ltb (ts.priority j) (ts.priority i)) b) ∙ m.bound }))),
            )

      -- ---- job k of task i, after those before it

      Done : ℕ → Type 0
      Done k = needs i k ≤ ran runs i k (release ts i k + r i)

      module _ (k : ℕ) (before : (l : ℕ) → l < k → Done l) where
        -- until the next release no other job of i is unfinished
        only : (t l : ℕ) → release ts i k ≤ t → t < release ts i k + r i → Unfinished ts cpu needs runs t i l → l ≡ k
        unfolding Done
        only t l h h' u =
            let short = fits i m in
            let high : l < suc k = lt_of_mul-lt-mul_right (ts.period i) (omega arith) in
            let low : ¬ (l < k) = λ x.
            omega (arith, before l x, ran_mono i l {t = release ts i l + r i} {u = t} (omega (arith, mul-le-mul_right (ts.period i) x))) in
            omega arith

        -- each of the r i ticks from the busy stretch's start on is spent on a job above i's, or on the job itself while it is not done
        one_each : (b : Busy i (release ts i k)) → ran runs i k (b.start + r i) < needs i k
            → (t : ℕ) → b.start ≤ t → t < b.start + r i → 1 ≤ share ts i b.start (r i) (runs t) + tick i k (runs t)
        one_each b left_over t h h' = elim (dec_lt t (release ts i k)) [ yes x ↦ higher (b.spent t h x) | no x ↦ go (omega arith) (runs t) refl (L.choice t) ]
          where
            Used : Type 0
            Used = 1 ≤ share ts i b.start (r i) (runs t) + tick i k (runs t)

            higher : Higher i t → Used
            higher p = omega (arith, higher_share b.start (r i) b.quiet t h h' p)

            unfinished : release ts i k ≤ t → Unfinished ts cpu needs runs t i k
            unfinished x = record { mine = m; released = x; left = omega (arith, ran_mono i k {t = t} {u = b.start + r i} (omega arith)) }

            go : release ts i k ≤ t → (s : Slot) → runs t ≡ s → May ts cpu needs runs t s → Used
            go x idle e none = absurd (none i k (unfinished x))
            go x (job j l) e f = elim (dec_lt (ts.priority j) (ts.priority i)) [
              | yes p ↦ higher (j, l, e, p)
              | no p ↦
                  let same : j ≡ i = A.distinct j i f.ready.mine.counted m.counted (omega (arith, f.least i k (unfinished x))) in
                  let e' : runs t ≡ job i l = e ∙ ap (λ y. job y l) same in
                  let own : l ≡ k = only t l x (omega (arith, b.early)) (first e').ready in
                  omega (arith, tick_own i k, ap (tick i k) (e' ∙ ap (job i) own))
            ]

        done : Done k
        unfolding Done
        done =
            let b = busy i (release ts i k) in
            let a = b.start in
            let w = r i in
            elim (dec_lt (ran runs i k (a + w)) (needs i k)) [
              | yes h ↦ absurd (omega (
                arith,
                sum_const 1 w,
                sum_mono (λ x. 1) (λ x. share ts i a w (runs (a + x)) + tick i k (runs (a + x))) w (λ x l. one_each b h (a + x) (omega arith) (omega arith)),
                sum_plus (λ x. share ts i a w (runs (a + x))) (λ x. tick i k (runs (a + x))) w,
                share_le a w,
                tick_le a w i k,
                L.length i k m,
                (A.response i m.counted).enough,
              ))
              | no h ↦ omega (arith, ran_mono i k {t = a + w} {u = release ts i k + w} (omega arith))
            ]

      all_done : (k l : ℕ) → l < k → Done l
      all_done zero l h = absurd (omega arith)
      all_done (suc k) l h = extend Done k (all_done k) (done k (all_done k)) l h

      pub served : (k : ℕ) → Served ts needs runs (r i) i k
      unfolding Done
      served k =
          let d = done k (all_done k) in
          record {
            finished = omega (arith, ran_le i k (release ts i k + r i));
            inside = λ t e.
                let u = (first e).ready in
                let early : ¬ (release ts i k + r i ≤ t) = λ x. omega (arith, ran_mono i k x) in
                omega arith;
            in_time = omega (arith, (A.response i m.counted).to_deadline);
          }
