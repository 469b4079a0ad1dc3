-- The samples through the program's lines: one statement over the one table. Assumes nothing.
use mathlib.Core.Path.{◌≡◌, refl, sym, ap, ap₂, subst, ◌∙◌}
use mathlib.Core.Logic.{◌↔◌}
use mathlib.Core.List.{List, ◌++◌}
use Prim.Native.Nat.{ℕ}
use native.Mathlib.Omega.{arith}
use lib.Chars.{codes}
use lib.ListN.{length, drop, replicate}
use Rattle.std.proofs.lemmas.Fmt.{decimal_digit}
use Rattle.numbers.specs.Numbers.{from}
use Rattle.numbers.specs.Lists.{All}
use Rattle.numbers.proofs.Lists.{all_map}
use Rattle.reply.specs.Reply.{numbered}
use Rattle.rules.specs.Files.{FileAnswers}
use Rattle.rules.proofs.Files.{file_determined}
use Rattle.samples.specs.Samples.{Sample, A, starred, samples, Right}
use Rattle.samples.proofs.Samples.{samples_right}
use Rattle.checker.specs.Check.{ChecksFile}
use Rattle.lines.specs.Lines.{figure_lines, lines, Prints}
use Rattle.lines.proofs.Determined.{lines_are, text_is}

-- the text of a sample
abbrev TextOf : Sample → Type 0
TextOf s = s.room ≡ 32 → (text : List ℕ) → Prints s.file text ↔ (text ≡ lines s.numbers s.figures)

text_of : (s : Sample) → Right s → TextOf s
text_of s a e text = (only, some)
  where
    answers : FileAnswers s.file 32 a.reply s.figures
    answers = subst (λ n. FileAnswers s.file n a.reply s.figures) e a.answers

    only : Prints s.file text → text ≡ lines s.numbers s.figures
    only p =
        let (same, figures) = file_determined s.file 32 p.reply a.reply p.checks.figures s.figures p.checks.answers answers in
        text_is s.file text p ∙ ap₂ (λ r l. lines (numbered r) l) same figures ∙ ap (λ x. lines x s.figures) a.numbers

    checks : ChecksFile s.file (replicate 32 0) a.reply (s.figures ++ drop (length s.figures) (replicate 32 0))
    checks = record { figures = s.figures; answers = answers; report = refl }

    some : text ≡ lines s.numbers s.figures → Prints s.file text
    some t =
        record {
          reply = a.reply;
          report = _;
          checks = checks;
          text = t ∙ ap (λ x. lines x s.figures) (sym a.numbers) ∙ sym (lines_are s.file a.reply _ checks);
        }

-- For every sample with the program's room: just the line of its numbers and a line for each of its figures are printed.
pub samples_printed : All TextOf samples
samples_printed = all_map Right TextOf text_of samples samples_right

-- for A exactly three lines
pub a_printed : (text : List ℕ) → Prints A text ↔ (text ≡ codes "0 2 0\n0 1\n1 3\n")
unfolding samples starred figure_lines from
a_printed text =
    let e = simp (decimal_digit 0 (omega arith), decimal_digit 1 (omega arith), decimal_digit 2 (omega arith), decimal_digit 3 (omega arith)) at (samples_printed.1.1.1.0 refl text) in
    e
