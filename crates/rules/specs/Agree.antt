-- Graphs that agree on some tasks. Assumes nothing.
use Rattle.std.specs.Prelude.{◌≡◌, ℕ, ◌≤◌, ◌<◌}
use Rattle.graph.specs.Model.{Graph, count, task}
use Rattle.rules.specs.Terms.{cost}

-- Task i of g and task j of h are alike in all that a response time can depend on; their offsets may differ.
pub record Alike (g : Graph) (i : ℕ) (h : Graph) (j : ℕ) : Type 0 where
  pub period : (task g i).period ≡ (task h j).period
  pub deadline : (task g i).deadline ≡ (task h j).deadline
  pub cost : cost g i ≡ cost h j
  pub priority : (task g i).priority ≡ (task h j).priority

-- each task of g whose priority number is at most n is one of h, at any place
abbrev pub Shares : ℕ → Graph → Graph → Type 0
Shares n g h = (i : ℕ) → i < count g → (task g i).priority ≤ n → (j : ℕ) × (j < count h) × Alike g i h j
