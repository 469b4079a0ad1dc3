-- A graph as the rules speak of it: lists of tasks, channels and relations. Assumes nothing.
use Rattle.std.specs.Prelude.{List, [], ℕ, pos, length, get_or}
use Rattle.graph.specs.declared.Task.{Task}
use Rattle.graph.specs.declared.Relation.{Relation}

-- the rates of one side of a channel: the prefix first, then the cycle over and over
pub record Rates : Type 0 where
  pub prefix : List ℕ
  pub cycle : List ℕ

-- a channel: the numbers of its two tasks, the initial fill, the size, and the rates of both sides
pub record Link : Type 0 where
  pub producer : ℕ
  pub consumer : ℕ
  pub initial : ℕ
  pub size : ℕ
  pub production : Rates
  pub consumption : Rates

-- a graph: its tasks, channels and relations in file order
pub record Graph : Type 0 where
  pub tasks : List Task
  pub channels : List Link
  pub relations : List Relation

-- the graph of nothing
abbrev pub empty : Graph
empty = record { tasks = []; channels = []; relations = [] }

-- ---- the limits

-- at most so many tasks
abbrev pub max_tasks : ℕ
max_tasks = 32

-- at most so many channels
abbrev pub max_channels : ℕ
max_channels = 64

-- at most so many relations
abbrev pub max_relations : ℕ
max_relations = 64

-- at most so many entries in a prefix
abbrev pub max_prefix : ℕ
max_prefix = 16

-- at most so many entries in a cycle
abbrev pub max_cycle : ℕ
max_cycle = 32

-- the largest period, offset, initial, size, n, d and φ
abbrev pub million : ℕ
million = 1000000

-- ---- what stands past the end of a list: all zero

-- no task
abbrev pub no_task : Task
no_task = record { period = 0; offset = 0; deadline = 0; worst = 0; priority = 0 }

-- no rates
abbrev pub no_rates : Rates
no_rates = record { prefix = []; cycle = [] }

-- a channel that has no rates yet
abbrev pub bare : ℕ → ℕ → ℕ → ℕ → Link
bare producer consumer initial size =
    record { producer = producer; consumer = consumer; initial = initial; size = size; production = no_rates; consumption = no_rates }

-- no relation
abbrev pub no_relation : Relation
no_relation = record { p = 0; q = 0; n = 0; phi = pos 0; d = 0 }

-- ---- the entries by their numbers

-- how many tasks there are
abbrev pub count : Graph → ℕ
count g = length g.tasks

-- task i of a list
abbrev pub task_of : List Task → ℕ → Task
task_of ts i = get_or ts i no_task

-- task i of a graph
unfoldable pub task : Graph → ℕ → Task
task g i = task_of g.tasks i

-- channel c of a graph
unfoldable pub link : Graph → ℕ → Link
link g c = get_or g.channels c (bare 0 0 0 0)

-- relation r of a graph
unfoldable pub relation : Graph → ℕ → Relation
relation g r = get_or g.relations r no_relation
