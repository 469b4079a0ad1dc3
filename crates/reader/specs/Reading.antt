-- What reading a file gives. Assumes nothing.
use Rattle.std.specs.Prelude.{◌≡◌, List, ℕ, Option, None, Some, Result, Ok, Err}
use Rattle.numbers.specs.Lists.{First}
use Rattle.reply.specs.declared.Refusal.{Refusal}
use Rattle.graph.specs.Model.{Graph}
use Rattle.graph.specs.Memory.{Memory, laid}
use Rattle.format.specs.Reader.{Hollow, Answer, reply, graph_of, Answers, Reads}
use Rattle.reader.specs.declared.Reading.{Reading}
use Rattle.reader.specs.Records.{Refused}

-- no cycle is without entries, or the one at place i is the first
abbrev pub FirstHollow : Graph → Option ℕ → Type 0
FirstHollow g None = (i : ℕ) → ¬ Hollow g i
FirstHollow g (Some i) = First (Hollow g) i

-- the graph that the file reads as, laid out in memory, or the reader's refusal
abbrev pub Parses : List ℕ → Result Memory Refusal → Type 0
Parses file (Ok m) = (g : Graph) × Reads file g × (m ≡ laid g)
Parses file (Err r) = Refused file r

-- the answer to the file: its reply, and its graph laid out in memory
pub record Gives (file : List ℕ) (r : Reading) : Type 0 where
  pub answer : Answer
  pub means : Answers file answer
  pub reply : r.reply ≡ reply answer
  pub graph : r.graph ≡ laid (graph_of answer)
