-- The lines that the program prints, as bytes. Assumes nothing.
use Rattle.std.specs.Prelude.{◌≡◌, Ok, Err, List, [], ◌∷◌, ◌++◌, ℕ, suc, ◌≤◌, length, take, drop, replicate}
use Rattle.std.specs.Fmt.{decimal}
use Rattle.reply.specs.declared.Numbers.{Numbers}
use Rattle.reply.specs.Reply.{Reply, numbered}
use Rattle.checker.specs.Check.{ChecksFile}

-- the byte of a space
abbrev pub space : ℕ
space = 0x20

-- the byte of a line feed
abbrev pub feed : ℕ
feed = 0x0a

-- a number in decimal and the byte behind it
abbrev pub word : ℕ → ℕ → List ℕ
word n end = decimal n ++ (end ∷ [])

-- the first line: number, place and job
abbrev pub reply_line : Numbers → List ℕ
reply_line x = word x.number space ++ (word x.place space ++ word x.job feed)

-- one line for each figure: its index, from i on, and the figure
unfoldable pub figure_lines : ℕ → List ℕ → List ℕ
figure_lines i [] = []
figure_lines i (x ∷ xs) = (word i space ++ word x feed) ++ figure_lines (suc i) xs

-- all lines
abbrev pub lines : Numbers → List ℕ → List ℕ
lines x figures = reply_line x ++ figure_lines 0 figures

-- how many figures are shown: one for each task of an accepted graph, and none of a refused one
abbrev pub shown : Reply → ℕ
shown (Ok n) = n
shown (Err r) = 0

-- The text for a file: the lines of a reply and a report that `check_file`'s contract allows, where the report held 32 zeros before.
pub record Prints (file printed : List ℕ) : Type 0 where
  pub reply : Reply
  pub report : List ℕ
  pub checks : ChecksFile file (replicate 32 0) reply report
  pub text : printed ≡ lines (numbered reply) (take (shown reply) report)

-- The text stands in the first n bytes of the output, and the rest is kept.
pub record Printed (file before after : List ℕ) (n : ℕ) : Type 0 where
  pub inside : n ≤ length after
  pub front : n ≡ length (take n after)
  pub prints : Prints file (take n after)
  pub rest : drop n after ≡ drop n before
