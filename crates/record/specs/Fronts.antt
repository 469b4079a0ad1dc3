-- What the tests of one record say of it, behind the counts of what is read. Assumes nothing.
use Rattle.std.specs.Prelude.{Bool, IsTrue, ◌↔◌, ◌≡◌, ◌⊎◌, List, ℕ, suc, ◌≤◌, ◌<◌, length, get_or, take, drop, Result, Ok, Err, Option, None, Some}
use Rattle.format.specs.Record.{Kind, kind_of, size, Record, task, channel, rate, relation, decode, rank}
use Rattle.format.specs.Reader.{State, InRange, count, limit}
use Rattle.record.specs.declared.Counts.{Counts}
use Rattle.record.specs.declared.Test.{Test}
use Rattle.record.specs.declared.Test.TheVariants.{Unknown, Cut, Down, Range, Full}
use Rattle.record.specs.declared.Record.{Record as Read}
use Rattle.record.specs.Fields.{said}

-- the counts are those of the state: its floor, and how many records of each kind it has
pub record Behind (s : State) (behind : Counts) : Type 0 where
  pub floors : s.floor ≡ behind.floor
  pub tasks : length s.graph.tasks ≡ behind.tasks
  pub channels : length s.graph.channels ≡ behind.channels
  pub relations : length s.graph.relations ≡ behind.relations

-- the count of the record's sort is below its limit; of a rate this is still to come
abbrev pub Room : State → Record → Type 0
Room s (task t) = count s.graph (task t) < limit (task t)
Room s (channel p c i n) = count s.graph (channel p c i n) < limit (channel p c i n)
Room s (rate c d p x) = Unit {0}
Room s (relation l) = count s.graph (relation l) < limit (relation l)

-- whichever answer a test gives, it says whether P holds
abbrev pub Tests : (Bool → Type 0) → Type 0 → Type 0
Tests Gives P = (b : Bool) → Gives b → (IsTrue b ↔ P)

-- the record r, whose kind and length are right, as the other tests judge it
abbrev pub Judges : State → Record → Result Read Test → Type 0
Judges s r (Err Unknown) = ⊥
Judges s r (Err Cut) = ⊥
Judges s r (Err Down) = rank r < s.floor
Judges s r (Err Range) = (s.floor ≤ rank r) × ¬ InRange s.graph r
Judges s r (Err Full) = (s.floor ≤ rank r) × InRange s.graph r × (limit r ≤ count s.graph r)
Judges s r (Ok x) = (r ≡ said x) × (s.floor ≤ rank r) × InRange s.graph r × Room s r

-- what stands at a kind byte with these bytes behind it: the first test that fires, or the record
abbrev pub TellsOf : State → Option Kind → List ℕ → Result Read Test → Type 0
TellsOf s None bs f = f ≡ Err Unknown
TellsOf s (Some k) bs f = ((length bs < size k) × (f ≡ Err Cut)) ⊎ ((size k ≤ length bs) × Judges s (decode k (take (size k) bs)) f)

-- what stands at byte `at` of the file
abbrev pub Tells : List ℕ → State → ℕ → Result Read Test → Type 0
Tells file s at f = TellsOf s (kind_of (get_or file at 0)) (drop (suc at) file) f
