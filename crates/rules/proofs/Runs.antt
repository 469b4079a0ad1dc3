-- Demand 3 is not empty: every graph has an execution, for every choice of the jobs' lengths and every split of their tokens over the ticks in
-- which they run. Assumes nothing.
use mathlib.Core.Path.{◌≡◌, refl, ap}
use mathlib.Core.Bool.{cond}
use mathlib.Core.Logic.{◌⊎◌, inl, inr}
use Prim.Native.Nat.{ℕ, zero, suc, ◌*◌, ◌≤◌, ◌<◌}
use native.Mathlib.Omega.{arith}
use borrow.Author.Tests.{eq-eqb, ne_eqb}
use lib.Dec.{eqb}
use lib.ListN.{length}
use Rattle.numbers.specs.Numbers.{sum}
use Rattle.numbers.proofs.Sums.{sum_suc, sum_only}
use Rattle.machine.specs.Machine.{Slot, idle, job, tick, ran}
use Rattle.machine.proofs.Response.{tick_own, tick_of}
use Rattle.machine.proofs.Exists.{exists}
use Rattle.channel.specs.Side.{rate}
use Rattle.graph.specs.Model.{Rates, Graph, count, link}
use Rattle.rules.specs.Terms.{cost, machine, side, Usable}
use Rattle.rules.specs.Execution.{Moves, Execution}

-- ---- a task whose job k moves `parts k n` in the tick before which it has run n ticks

in_slot : (ℕ → Slot) → ℕ → (ℕ → ℕ → ℕ) → ℕ → Slot → ℕ
in_slot runs i parts t idle = 0
in_slot runs i parts t (job j k) = cond (eqb j i) (parts k (ran runs i k t)) 0

abbrev moves_by : (ℕ → Slot) → ℕ → (ℕ → ℕ → ℕ) → ℕ → ℕ
moves_by runs i parts t = in_slot runs i parts t (runs t)

-- the parts of each job are its tokens
abbrev pub Splits : Graph → (ℕ → ℕ → ℕ) → ℕ → Rates → (ℕ → ℕ → ℕ) → Type 0
Splits g needs i r parts = (k : ℕ) → sum (parts k) (needs i k) ≡ rate (side g i r) k

module _ (runs : ℕ → Slot) (i : ℕ) (parts : ℕ → ℕ → ℕ) where
  moves_own : (t k : ℕ) → runs t ≡ job i k → moves_by runs i parts t ≡ parts k (ran runs i k t)
  unfolding in_slot
  moves_own t k e = rw e (ap (λ b. cond b (parts k (ran runs i k t)) 0) (eq-eqb i i refl))

  still : (t : ℕ) (s : Slot) → runs t ≡ s → ((k : ℕ) → ¬ (runs t ≡ job i k)) → in_slot runs i parts t s ≡ 0
  unfolding in_slot
  still t idle e n = refl
  still t (job j k) e n = ap (λ b. cond b (parts k (ran runs i k t)) 0) (ne_eqb j i (λ q. n k (cc)))

  -- a job has moved the parts of the ticks that it has run
  moved : (k t : ℕ) → sum (λ s. tick i k (runs s) * moves_by runs i parts s) t ≡ sum (parts k) (ran runs i k t)
  unfolding sum ran
  moved k zero = refl
  moved k (suc t) = go (tick_of i k (runs t)) (moved k t)
    where
      go : (runs t ≡ job i k) ⊎ (tick i k (runs t) ≡ 0) → sum (λ s. tick i k (runs s) * moves_by runs i parts s) t ≡ sum (parts k) (ran runs i k t)
          → sum (λ s. tick i k (runs s) * moves_by runs i parts s) (suc t) ≡ sum (parts k) (ran runs i k (suc t))
      go (inl e) before =
          let one : tick i k (runs t) ≡ 1 = omega (arith, ap (tick i k) e, tick_own i k) in
          let more : ran runs i k (suc t) ≡ suc (ran runs i k t) = omega arith in
          omega (arith, ap (λ y. y * moves_by runs i parts t) one, moves_own t k e, ap (sum (parts k)) more, sum_suc (parts k) (ran runs i k t))
      go (inr z) before =
          let same : ran runs i k (suc t) ≡ ran runs i k t = omega arith in
          omega (arith, ap (λ y. y * moves_by runs i parts t) z, ap (sum (parts k)) same)

  moving : (g : Graph) (needs : ℕ → ℕ → ℕ) (r : Rates) → Splits g needs i r parts → Moves g needs runs i r (moves_by runs i parts)
  moving g needs r all =
      record {
        running = λ t n. still t (runs t) refl n;
        whole = λ k t e.
            let full : ran runs i k t ≡ needs i k = omega (arith, e) in
            omega (arith, moved k t, ap (sum (parts k)) full, all k);
      }

-- ---- executions

module _ (g : Graph) (ok : Usable g) (needs : ℕ → ℕ → ℕ) (long : (i k : ℕ) → i < count g → (1 ≤ needs i k) × (needs i k ≤ cost g i)) where
  -- job k puts `puts c k n` into channel c in the tick before which it has run n ticks, and takes `takes c k n` so
  pub splits : (puts takes : ℕ → ℕ → ℕ → ℕ)
      → ((c : ℕ) → c < length g.channels → Splits g needs (link g c).producer (link g c).production (puts c))
      → ((c : ℕ) → c < length g.channels → Splits g needs (link g c).consumer (link g c).consumption (takes c))
      → (e : Execution g) × (e.needs ≡ needs)
      × ((c t k : ℕ) → e.runs t ≡ job (link g c).producer k → e.puts c t ≡ puts c k (ran e.runs (link g c).producer k t))
      × ((c t k : ℕ) → e.runs t ≡ job (link g c).consumer k → e.takes c t ≡ takes c k (ran e.runs (link g c).consumer k t))
  splits puts takes p q =
      let (runs, legal) = exists (machine g) 0 needs (λ j m. let t = ok.timed j m.counted in omega arith) (λ i k m. long i k m.counted) in (
        record {
          needs = needs;
          runs = runs;
          legal = legal;
          puts = λ c. moves_by runs (link g c).producer (puts c);
          takes = λ c. moves_by runs (link g c).consumer (takes c);
          putting = λ c l. moving runs (link g c).producer (puts c) g needs (link g c).production (p c l);
          taking = λ c l. moving runs (link g c).consumer (takes c) g needs (link g c).consumption (q c l);
        },
        refl,
        λ c t k e. moves_own runs (link g c).producer (puts c) t k e,
        λ c t k e. moves_own runs (link g c).consumer (takes c) t k e,
      )

  -- all in the first tick
  abbrev at_first : ℕ → Rates → ℕ → ℕ → ℕ
  at_first i r k n = cond (eqb n 0) (rate (side g i r) k) 0

  first_splits : (i : ℕ) (r : Rates) → i < count g → Splits g needs i r (at_first i r)
  first_splits i r l k =
      sum_only (at_first i r k) 0 (needs i k) (omega (arith, long i k l)) (λ n _ d. ap (λ b. cond b (rate (side g i r) k) 0) (ne_eqb n 0 d))

  pub execution : (e : Execution g) × (e.needs ≡ needs)
  execution =
      let (e, n, _, _) =
      splits (λ c. at_first (link g c).producer (link g c).production) (λ c. at_first (link g c).consumer (link g c).consumption)
      (λ c l. first_splits (link g c).producer (link g c).production (ok.ends c l).producer_known)
      (λ c l. first_splits (link g c).consumer (link g c).consumption (ok.ends c l).consumer_known) in
      (e, n)
