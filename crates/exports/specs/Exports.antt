-- What each exported function does: the number that it hands back, place and job, and every lent byte. Assumes nothing.
use Rattle.std.specs.Prelude.{◌≡◌, Result, Ok, Err, List, ℕ}
use Rattle.reply.specs.declared.Refusal.{Refusal}
use Rattle.reply.specs.Reply.{Reply, numbered, three}
use Rattle.graph.specs.Memory.{Memory}
use Rattle.reader.specs.declared.Reading.{Reading}
use Rattle.reader.specs.Reading.{Gives, Parses}
use Rattle.writer.specs.Writing.{Writes}
use Rattle.checker.specs.Check.{ChecksFile}

-- A file is checked: the numbers of the checker's reply, and the report after.
pub record Checked (file before : List ℕ) (no place job : ℕ) (after : List ℕ) : Type 0 where
  pub reply : Reply
  pub checks : ChecksFile file before reply after
  pub numbers : numbered reply ≡ three no place job

-- What was read is written back: the reader's refusal and an untouched output, or what the writer does with the graph.
abbrev pub Rewrites : Result Memory Refusal → List ℕ → Reply → List ℕ → Type 0
Rewrites (Ok g) before reply after = Writes g before reply after
Rewrites (Err r) before reply after = (reply ≡ Err r) × (after ≡ before)

-- A file is read and written back: the numbers of the reply, and the output after.
pub record Rewritten (file before : List ℕ) (no place job : ℕ) (after : List ℕ) : Type 0 where
  pub parsed : Result Memory Refusal
  pub parses : Parses file parsed
  pub reply : Reply
  pub rewrites : Rewrites parsed before reply after
  pub numbers : numbered reply ≡ three no place job

-- A file is read: the numbers of the reader's reply.
pub record Read (file : List ℕ) (no place job : ℕ) : Type 0 where
  pub reading : Reading
  pub gives : Gives file reading
  pub numbers : numbered reading.reply ≡ three no place job
