-- The promise is not empty: for every choice of lengths there is a legal execution (`exists`). Assumes nothing.
use mathlib.Core.Path.{◌≡◌, refl}
use mathlib.Core.Logic.{◌⊎◌, inl, inr}
use Prim.Native.Nat.{ℕ, zero, suc, ◌+◌, ◌≤◌, ◌<◌}
use native.Mathlib.Nat.{le_refl, le-mul_of_pos_right}
use native.Mathlib.Decide.{ℕ_discrete, dec_le, dec_lt}
use native.Mathlib.Omega.{arith}
use Rattle.numbers.specs.Numbers.{sum}
use Rattle.machine.specs.Machine.{Tasks, Mine, release, Slot, idle, job, tick, ran, Unfinished, May, Legal}
use Rattle.numbers.proofs.Sums.{extend}

-- ---- of the pairs (i, k) below (n, m) with P, one of least rank

module _ (P : ℕ → ℕ → Type 0) (rank : ℕ → ℕ) (m : ℕ) where
  -- task j has no such job, or only if its rank is at least v
  abbrev None : ℕ → Type 0
  None j = (l : ℕ) → l < m → ¬ P j l

  abbrev From : ℕ → ℕ → Type 0
  From v j = (l : ℕ) → l < m → P j l → v ≤ rank j

  abbrev Least : ℕ → Slot → Type 0
  Least n idle = (j : ℕ) → j < n → None j
  Least n (job i k) = P i k × ((j : ℕ) → j < n → From (rank i) j)

  module _ (dec : (i k : ℕ) → Dec (P i k)) where
    find : (i n : ℕ) → ((k : ℕ) × P i k) ⊎ ((k : ℕ) → k < n → ¬ P i k)
    find i zero = inr (λ k h. absurd (omega arith))
    find i (suc n) = go (find i n) (dec i n)
      where
        go : ((k : ℕ) × P i k) ⊎ ((k : ℕ) → k < n → ¬ P i k) → Dec (P i n) → ((k : ℕ) × P i k) ⊎ ((k : ℕ) → k < suc n → ¬ P i k)
        go f (yes p) = inl (n, p)
        go (inl f) (no q) = inl f
        go (inr f) (no q) = inr (extend (λ k. ¬ P i k) n f q)

    least : (n : ℕ) → (s : Slot) × Least n s
    least zero = (idle, λ j h. absurd (omega arith))
    least (suc n) = let (s, c) = least n in go s c (find n m)
      where
        go : (s : Slot) → Least n s → ((k : ℕ) × P n k) ⊎ None n → (s : Slot) × Least (suc n) s
        go idle c (inr f) = (idle, extend None n c f)
        go idle c (inl (k, p)) = (job n k, (p, extend (From (rank n)) n (λ j h l h' q. absurd (c j h l h' q)) (λ l h q. le_refl (rank n))))
        go (job i k) (p, c) (inr f) = (job i k, (p, extend (From (rank i)) n c (λ l h q. absurd (f l h q))))
        go (job i k) (p, c) (inl (l, q)) = elim (dec_le (rank i) (rank n)) [
          | yes h ↦ (job i k, (p, extend (From (rank i)) n c (λ x y z. h)))
          | no h ↦ (job n l, (q, extend (From (rank n)) n (λ j x l' y z. omega (arith, c j x l' y z)) (λ x y z. le_refl (rank n))))
        ]

-- ---- the execution

module _ (ts : Tasks) (cpu : ℕ) (needs : ℕ → ℕ → ℕ) where
  -- `Unfinished` where d j l is what job l of task j has run
  Ready : (ℕ → ℕ → ℕ) → ℕ → ℕ → ℕ → Type 0
  Ready d t j l = Mine ts cpu j × (release ts j l ≤ t) × (d j l < needs j l)

  ready : (d : ℕ → ℕ → ℕ) (t j l : ℕ) → Dec (Ready d t j l)
  unfolding Ready
  ready d t j l = go (dec_lt j ts.count) (ℕ_discrete (ts.processor j) cpu) (dec_le (release ts j l) t) (dec_lt (d j l) (needs j l))
    where
      go : Dec (j < ts.count) → Dec (ts.processor j ≡ cpu) → Dec (release ts j l ≤ t) → Dec (d j l < needs j l) → Dec (Mine ts cpu j × (release ts j l ≤ t) × (d j l < needs j l))
      go (yes a) (yes b) (yes c) (yes e) = yes (record { counted = a; bound = b }, c, e)
      go (no a) b c e = no (λ u. a u.0.counted)
      go (yes a) (no b) c e = no (λ u. b u.0.bound)
      go (yes a) (yes b) (no c) e = no (λ u. c u.1)
      go (yes a) (yes b) (yes c) (no e) = no (λ u. e u.2)

  pick : (d : ℕ → ℕ → ℕ) (t : ℕ) → (s : Slot) × Least (Ready d t) ts.priority (suc t) ts.count s
  pick d t = least (Ready d t) ts.priority (suc t) (ready d t) ts.count

  sofar : ℕ → ℕ → ℕ → ℕ
  sofar zero i k = 0
  sofar (suc t) i k = sofar t i k + tick i k (pick (sofar t) t).0

  plan : ℕ → Slot
  plan t = (pick (sofar t) t).0

  sofar_is : (t i k : ℕ) → ran plan i k t ≡ sofar t i k
  unfolding ran sum sofar plan
  sofar_is zero i k = refl
  sofar_is (suc t) i k = omega (arith, sofar_is t i k)

  module _ (periods : (j : ℕ) → Mine ts cpu j → 0 < ts.period j) where
    to_ready : (t j l : ℕ) → Unfinished ts cpu needs plan t j l → Ready (sofar t) t j l × (l < suc t)
    unfolding Ready
    to_ready t j l u = ((u.mine, u.released, omega (arith, sofar_is t j l)), omega (arith, le-mul_of_pos_right l (periods j u.mine)))

    of_ready : (t j l : ℕ) → Ready (sofar t) t j l → Unfinished ts cpu needs plan t j l
    unfolding Ready
    of_ready t j l u = record { mine = u.0; released = u.1; left = omega (arith, sofar_is t j l) }

    allowed : (t : ℕ) (s : Slot) → Least (Ready (sofar t) t) ts.priority (suc t) ts.count s → May ts cpu needs plan t s
    allowed t idle c = λ i k u. let (p, h) = to_ready t i k u in c i u.mine.counted k h p
    allowed t (job i k) (q, c) = record { ready = of_ready t i k q; least = λ j l u. let (p, h) = to_ready t j l u in omega (arith, c j u.mine.counted l h p) }

    pub exists : ((i k : ℕ) → Mine ts cpu i → (1 ≤ needs i k) × (needs i k ≤ ts.worst i)) → (runs : ℕ → Slot) × Legal ts cpu needs runs
    unfolding plan
    exists h = (plan, record { length = λ i k m. ((h i k m).0, omega (arith, (h i k m).1)); choice = λ t. allowed t (pick (sofar t) t).0 (pick (sofar t) t).1 })
