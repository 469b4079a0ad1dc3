-- The two equations of a relation over plain numbers, and the graphs that a test of the relations is handed. Assumes nothing.
use Rattle.std.specs.Prelude.{◌≡◌, List, ◌*◌, ◌≤◌, pos, nat_abs, ◌-ℤ◌, ◌*ℤ◌}
use Rattle.graph.specs.declared.Task.{Task}
use Rattle.graph.specs.declared.Relation.{Relation}
use Rattle.graph.specs.Model.{Graph, million}
use Rattle.relations.specs.declared.Times.{Times}

-- d × T_p = n × T_q, and n × (O_q − O_p) = φ × T_p
abbrev pub Equations : Times → Times → Relation → Type 0
Equations p q r = (r.d * p.period ≡ r.n * q.period) × (pos r.n *ℤ (pos q.offset -ℤ pos p.offset) ≡ r.phi *ℤ pos p.period)

-- periods, offsets, n, φ and d in range
pub record Small (p q : Times) (r : Relation) : Type 0 where
  pub p_period : p.period ≤ million
  pub p_offset : p.offset ≤ million
  pub q_period : q.period ≤ million
  pub q_offset : q.offset ≤ million
  pub n : r.n ≤ million
  pub phi : nat_abs r.phi ≤ million
  pub d : r.d ≤ million

-- P holds of every graph that has these tasks and relations
abbrev pub Both : List Task → List Relation → (Graph → Type 0) → Type 0
Both ts rs P = (g : Graph) → g.tasks ≡ ts → g.relations ≡ rs → P g
