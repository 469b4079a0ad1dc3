-- A graph's tasks are those of the list that it has, and a sum over a list is the sum by its places. Assumes nothing.
use mathlib.Core.Path.{◌≡◌, refl, ap}
use mathlib.Core.List.{List, [], ◌∷◌}
use Prim.Native.Nat.{ℕ, zero, suc, ◌+◌}
use native.Mathlib.Omega.{arith}
use lib.ListN.{length, get_or}
use Rattle.std.specs.Prelude.{sum_by}
use Rattle.std.proofs.lemmas.List.Sums.{sum_by-cons}
use Rattle.numbers.specs.Numbers.{sum}
use Rattle.graph.specs.declared.Task.{Task}
use Rattle.graph.specs.Model.{Graph, task, task_of}

pub task_is : {ts : List Task} (g : Graph) → g.tasks ≡ ts → (i : ℕ) → task g i ≡ task_of ts i
unfolding task
task_is g e i = ap (λ l. task_of l i) e

-- the first term before the others
sum_first : (f : ℕ → ℕ) (n : ℕ) → sum f (suc n) ≡ f 0 + sum (λ k. f (suc k)) n
unfolding sum
sum_first f zero = omega arith
sum_first f (suc n) = omega (arith, sum_first f n)

pub sum_by_places : {A : Type 0} (f : A → ℕ) (d : A) (xs : List A) → sum_by f xs ≡ sum (λ k. f (get_or xs k d)) (length xs)
unfolding sum
sum_by_places f d [] = refl
sum_by_places f d (x ∷ xs) = omega (arith, sum_by-cons f x xs, sum_by_places f d xs, sum_first (λ k. f (get_or (x ∷ xs) k d)) (length xs))
