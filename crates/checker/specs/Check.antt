-- What a check says, and what it leaves in the report. Assumes nothing.
use Rattle.std.specs.Prelude.{◌≡◌, Err, List, [], ◌++◌, ℕ, length, drop}
use Rattle.reply.specs.declared.Refusal.TheVariants.{NoFile}
use Rattle.reply.specs.Reply.{Reply}
use Rattle.graph.specs.Model.{Graph}
use Rattle.graph.specs.Memory.{Memory, view}
use Rattle.formed.specs.Formed.{ReadsAs}
use Rattle.rules.specs.Rules.{Answers}
use Rattle.rules.specs.Files.{FileAnswers}

-- the figures stand in the first places, and later places stay
abbrev pub Written : List ℕ → List ℕ → List ℕ → Type 0
Written figures before after = after ≡ figures ++ drop (length figures) before

-- the reply to the lists of a graph, and the report after
pub record Judges (g : Graph) (before : List ℕ) (r : Reply) (after : List ℕ) : Type 0 where
  pub figures : List ℕ
  pub answers : Answers g (length before) r figures
  pub report : Written figures before after

-- A file and a report before: the reply to the file, and the report after.
pub record ChecksFile (file before : List ℕ) (r : Reply) (after : List ℕ) : Type 0 where
  pub figures : List ℕ
  pub answers : FileAnswers file (length before) r figures
  pub report : Written figures before after

-- The answer to a graph in memory: 18 where no file reads as it, and otherwise the answer to its lists.
pub data MemoryAnswers (g : Memory) (room : ℕ) : Reply → List ℕ → Type 0 where
  no_file : ((file : List ℕ) → ¬ ReadsAs file g) → MemoryAnswers g room (Err NoFile) []
  judged : {r : Reply} {l : List ℕ} (file : List ℕ) → ReadsAs file g → Answers (view g) room r l → MemoryAnswers g room r l

-- A graph in memory and a report before: the reply to the graph, and the report after.
pub record ChecksGraph (g : Memory) (before : List ℕ) (r : Reply) (after : List ℕ) : Type 0 where
  pub figures : List ℕ
  pub answers : MemoryAnswers g (length before) r figures
  pub report : Written figures before after
