-- A task's share of the load. Assumes nothing.
use Rattle.std.specs.Prelude.{ℕ, ◌*◌, ◌/◌}
use Rattle.graph.specs.declared.Task.{Task}
use Rattle.rules.specs.Terms.{cost_of}

-- a task's share of the load in millionths: ⌊ C × 1,000,000 / T ⌋
unfoldable pub share : Task → ℕ
share t = cost_of t * 1_000_000 / t.period
