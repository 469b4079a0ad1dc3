-- The ranges and counts of a graph as plain inequalities. Assumes nothing.
use Rattle.std.specs.Prelude.{ℕ, ◌≤◌, ◌<◌, nat_abs, length}
use Rattle.numbers.specs.Lists.{All}
use Rattle.graph.specs.declared.Task.{Task}
use Rattle.graph.specs.declared.Relation.{Relation}
use Rattle.graph.specs.Model.{Rates, Link, Graph, max_tasks, max_channels, max_relations, max_prefix, max_cycle, million}

-- the ranges of a task's fields
pub record TaskRange (t : Task) : Type 0 where
  pub some_period : 1 ≤ t.period
  pub period : t.period ≤ million
  pub offset : t.offset ≤ million
  pub some_deadline : 1 ≤ t.deadline
  pub deadline : t.deadline ≤ t.period
  pub some_worst : 1 ≤ t.worst
  pub worst : t.worst ≤ t.deadline
  pub some_priority : 1 ≤ t.priority
  pub priority : t.priority ≤ 255

-- any tokens: 65,535 is the most that their two bytes hold
abbrev pub Tokens : ℕ → Type 0
Tokens x = x ≤ 65535

-- the counts and tokens of a side's rates
pub record RatesRange (r : Rates) : Type 0 where
  pub prefix : length r.prefix ≤ max_prefix
  pub some_entry : 1 ≤ length r.cycle
  pub cycle : length r.cycle ≤ max_cycle
  pub prefix_tokens : All Tokens r.prefix
  pub cycle_tokens : All Tokens r.cycle

-- the ranges of a channel's fields and rates, among so many tasks
pub record LinkRange (count : ℕ) (c : Link) : Type 0 where
  pub producer : c.producer < count
  pub consumer : c.consumer < count
  pub initial : c.initial ≤ million
  pub size : c.size ≤ million
  pub production : RatesRange c.production
  pub consumption : RatesRange c.consumption

-- the ranges of a relation's fields, among so many tasks
pub record RelationRange (count : ℕ) (r : Relation) : Type 0 where
  pub p : r.p < count
  pub q : r.q < count
  pub some_n : 1 ≤ r.n
  pub n : r.n ≤ million
  pub phi : nat_abs r.phi ≤ million
  pub some_d : 1 ≤ r.d
  pub d : r.d ≤ million

-- all counts and fields of the graph are in range, with a task and an entry in every cycle
pub record Ranged (g : Graph) : Type 0 where
  pub some_task : 1 ≤ length g.tasks
  pub few_tasks : length g.tasks ≤ max_tasks
  pub few_channels : length g.channels ≤ max_channels
  pub few_relations : length g.relations ≤ max_relations
  pub tasks : All TaskRange g.tasks
  pub channels : All (LinkRange (length g.tasks)) g.channels
  pub relations : All (RelationRange (length g.tasks)) g.relations
