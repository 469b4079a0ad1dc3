-- What a yes is worth. Assumes nothing.
use Rattle.std.specs.Prelude.{◌≡◌, List, ℕ, ◌≤◌, ◌<◌}
use Rattle.graph.specs.Model.{Graph, count}
use Rattle.format.specs.Reader.{Reads}
use Rattle.rules.specs.Terms.{cost}
use Rattle.rules.specs.Execution.{Execution, Kept}

-- the file reads as the graph g, and as no other
pub record ReadsOnly (file : List ℕ) (g : Graph) : Type 0 where
  pub reads : Reads file g
  pub only : (h : Graph) → Reads file h → h ≡ g

-- The graph has n tasks, every execution of it keeps what the report says, and there is one for every choice of running times from 1 to each task's cost.
pub record Worth (g : Graph) (n : ℕ) (report : List ℕ) : Type 0 where
  pub tasks : count g ≡ n
  pub kept : (e : Execution g) → Kept g report e
  pub runs : (needs : ℕ → ℕ → ℕ) → ((i k : ℕ) → i < count g → (1 ≤ needs i k) × (needs i k ≤ cost g i)) → (e : Execution g) × (e.needs ≡ needs)
