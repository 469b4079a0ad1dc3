-- What the writer does with a graph in memory and an output. Assumes nothing.
use Rattle.std.specs.Prelude.{List, ◌++◌, ℕ, ◌≤◌, ◌<◌, length, drop, Result, Ok, Err}
use Rattle.reply.specs.declared.Refusal.{Refusal}
use Rattle.reply.specs.declared.Refusal.TheVariants.{NoFile, ShortOutput}
use Rattle.graph.specs.Memory.{Memory}
use Rattle.formed.specs.Formed.{ReadsAs}

-- What each reply says of the output before and after. There is no other reply.
pub data Writes (g : Memory) (out : List ℕ) : Result ℕ Refusal → List ℕ → Type 0 where
  no_file : ((file : List ℕ) → ¬ ReadsAs file g) → Writes g out (Err NoFile) out
  short : (file : List ℕ) → ReadsAs file g → length out < length file → Writes g out (Err (ShortOutput (length file))) out
  wrote : (file : List ℕ) → ReadsAs file g → length file ≤ length out → Writes g out (Ok g.ntasks) (file ++ drop (length file) out)
