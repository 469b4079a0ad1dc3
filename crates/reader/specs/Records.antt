-- How a graph in memory grows by a record, and how the records of a file end. Assumes nothing.
use Rattle.std.specs.Prelude.{◌≡◌, List, [], ℕ, ◌+◌, ◌≤◌, ◌<◌, length, slice_set, Result, Ok, Err}
use Rattle.reply.specs.declared.Refusal.{Refusal}
use Rattle.graph.specs.Model.{Rates, Graph}
use Rattle.graph.specs.Memory.{Memory, MemoryRates, laid_rates, laid}
use Rattle.format.specs.Growth.{part_of, push_part}
use Rattle.format.specs.Record.{rate}
use Rattle.format.specs.Reader.{State, Test, unknown, cut, down, range, full, add, count, limit, Answer, reply, Ends, Answers, Leads}
use Rattle.record.specs.declared.Test.{Test as Named}
use Rattle.record.specs.declared.Test.TheVariants.{Unknown, Cut, Down, Range, Full}
use Rattle.record.specs.declared.Record.{Record}
use Rattle.record.specs.declared.Record.TheVariants.{Task, Channel, Rate, Relation}
use Rattle.record.specs.Fields.{said}

-- the item behind the others, where a place is left; otherwise all is as it was
abbrev pub Appends : {T : Type 0} → List T → ℕ → T → List T → ℕ → Result (Unit {0}) Named → Type 0
Appends xs n x ys k (Ok u) = (n < length xs) × (ys ≡ slice_set xs n x) × (k ≡ n + 1)
Appends xs n x ys k (Err t) = (t ≡ Full) × (length xs ≤ n) × (ys ≡ xs) × (k ≡ n)

-- the rates have grown by an entry of a part, or the part is full and they are as before
abbrev pub Pushes : Rates → ℕ → ℕ → MemoryRates → Result (Unit {0}) Named → Type 0
Pushes r part x s (Ok u) = (length (part_of r part) < limit (rate 0 0 part x)) × (s ≡ laid_rates (push_part r part x))
Pushes r part x s (Err t) = (t ≡ Full) × (limit (rate 0 0 part x) ≤ length (part_of r part)) × (s ≡ laid_rates r)

-- a rate names a channel of the graph
abbrev pub Names : Graph → Record → Type 0
Names g (Task t) = Unit {0}
Names g (Channel h) = Unit {0}
Names g (Rate e) = e.channel < length g.channels
Names g (Relation l) = Unit {0}

-- the graph has grown by the record, or the record's list is full and the graph is as before
abbrev pub Stores : Graph → Record → Memory → Result (Unit {0}) Named → Type 0
Stores g r m (Ok u) = (count g (said r) < limit (said r)) × (m ≡ laid (add g (said r)))
Stores g r m (Err t) = (t ≡ Full) × (limit (said r) ≤ count g (said r)) × (m ≡ laid g)

-- good records have led to a state, and its graph is laid out in memory
pub record Stands (file : List ℕ) (m : Memory) (floor at : ℕ) : Type 0 where
  pub state : State
  pub leads : Leads file state at
  pub floors : state.floor ≡ floor
  pub laid_out : m ≡ laid state.graph

-- the test that a name stands for
abbrev pub test_of : Named → Test
test_of Unknown = unknown
test_of Cut = cut
test_of Down = down
test_of Range = range
test_of Full = full

-- All the file is good records, that lead to a state: the answer to nothing more is the answer to the file.
pub record AllRead (file : List ℕ) (m : Memory) : Type 0 where
  pub state : State
  pub at : ℕ
  pub so : (a : Answer) → Ends state at [] a → Answers file a
  pub laid_out : m ≡ laid state.graph

-- the reader refuses the file
abbrev pub Refused : List ℕ → Refusal → Type 0
Refused file r = (a : Answer) × Answers file a × (reply a ≡ Err r)

-- what the records of the file make, or the refusal where a test stops one
abbrev pub Ended : List ℕ → Result Memory Refusal → Type 0
Ended file (Ok m) = AllRead file m
Ended file (Err r) = Refused file r
