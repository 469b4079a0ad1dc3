-- The figures of all tasks with zero behind them, and of the tasks passed, one task more. Assumes nothing.
use mathlib.Core.Path.{◌≡◌, refl, ◌∙◌}
use mathlib.Core.List.{List, ◌++◌}
use Prim.Native.Nat.{ℕ, zero, suc, ◌+◌, ◌-◌, ◌≤◌, ◌<◌}
use native.Mathlib.Omega.{arith}
use borrow.Author.Count.{below_more}
use lib.ListN.{length, get_or, set, drop, replicate}
use lib.Seq.{get_or-set_same, get_or-set_other}
use Rattle.std.proofs.lemmas.List.{length-append, length-replicate, drop-replicate, get_or_append_left, get_or-append_right}
use Rattle.machine.specs.Machine.{IsResponse}
use Rattle.graph.specs.Model.{Graph}
use Rattle.rules.specs.Terms.{machine}
use Rattle.response.specs.Response.{Figures}
use Rattle.response.proofs.Once.{in_time}

zeros : (n k : ℕ) → ◌≡◌ {A = ℕ} (get_or (replicate n 0) k 0) 0
zeros zero k = refl
zeros (suc n) zero = refl
zeros (suc n) (suc k) = zeros n k

module _ (g : Graph) (l : List ℕ) (n : ℕ) (done : (k : ℕ) → k < n → IsResponse (machine g) k (get_or l k 0)) where
  pub figured_more : (r : ℕ) → n < length l → IsResponse (machine g) n r → (k : ℕ) → k < n + 1 → IsResponse (machine g) k (get_or (set l n r) k 0)
  figured_more r h now =
      below_more (λ k. IsResponse (machine g) k (get_or (set l n r) k 0)) n
      (λ k below. rw (get_or-set_other l n k r 0 (λ q. omega arith)) (done k below))
      (rw (get_or-set_same l n r 0 h) now)

  pub figures : (m : ℕ) → n ≡ m → length l ≡ n → n ≤ 32 → Figures g m (l ++ drop n (replicate 32 0))
  figures m e size few =
      rw (← e, drop-replicate {X = ℕ} n 32 0) (record {
        size = omega (arith, length-append l (replicate (32 - n) 0), length-replicate {A = ℕ} (32 - n) 0);
        none_late = λ k h m. in_time g k _ (done k h) m;
        responses = λ k h. rw (get_or_append_left l (replicate (32 - n) 0) 0 k (omega arith)) (done k h);
        rest = λ k h. get_or-append_right l (replicate (32 - n) 0) n k 0 size h ∙ zeros (32 - n) (k - n);
      })
