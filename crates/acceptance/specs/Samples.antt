-- A sample through the checker's contract. Assumes nothing.
use Rattle.std.specs.Prelude.{◌≡◌, List, ◌++◌, length, drop, ℕ}
use Rattle.reply.specs.Reply.{Reply, numbered}
use Rattle.checker.specs.Check.{ChecksFile}
use Rattle.samples.specs.Samples.{Sample}

-- the report with the sample's figures in its first places, and the rest kept
abbrev pub reported : Sample → List ℕ → List ℕ
reported s before = s.figures ++ drop (length s.figures) before

-- Whatever reply and report the contract of `check_file` allows for the sample's file are the sample's; and it allows them.
pub record Exactly (s : Sample) (before : List ℕ) : Type 0 where
  pub only : (r : Reply) (after : List ℕ) → ChecksFile s.file before r after → (numbered r ≡ s.numbers) × (after ≡ reported s before)
  pub some : (r : Reply) × ChecksFile s.file before r (reported s before)
