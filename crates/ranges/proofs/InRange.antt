-- A record's fields are in range behind a graph where they keep the plain inequalities. A task's number is a byte. Assumes nothing.
use Rattle.std.proofs.Common.{ℕ, ◌<◌, ◌≤◌, ◌↔◌, length, arith}
use Rattle.graph.specs.declared.Task.{Task}
use Rattle.graph.specs.declared.Relation.{Relation}
use Rattle.graph.specs.Model.{Graph, million, bare}
use Rattle.format.specs.Record.{task, channel, relation}
use Rattle.format.specs.Reader.{ranges, InRange}
use Rattle.format.specs.Ranges.{TaskRange, RelationRange}
use Rattle.format.proofs.Ranges.{task_in, in_task, head_in, relation_in, in_phase}

module _ (g : Graph) where
  pub task_ranges : (t : Task) → TaskRange t ↔ InRange g (task t)
  task_ranges t = (in_task g t, task_in g t)

  pub channel_ranges : (p c i s : ℕ) → p < 256 → c < 256
      → ((p < length g.tasks) × (c < length g.tasks) × (i ≤ million) × (s ≤ million)) ↔ InRange g (channel p c i s)
  unfolding ranges
  channel_ranges p c i s a b = (
    λ h. omega arith,
    head_in g (bare p c i s),
  )

  pub relation_ranges : (r : Relation) → r.p < 256 → r.q < 256 → RelationRange (length g.tasks) r ↔ InRange g (relation r)
  unfolding ranges
  relation_ranges r a b = (
    λ h. ((omega arith, omega arith), ((omega arith, omega arith), ((omega arith, omega arith), (in_phase r.phi h.phi, ((omega arith, omega arith), tt))))),
    relation_in g r,
  )
