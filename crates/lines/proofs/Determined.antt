-- One text to one file, and every byte of the output. Assumes nothing.
use mathlib.Core.Path.{◌≡◌, sym, ap, ap₂, ◌∙◌}
use mathlib.Core.Bool.{cond}
use mathlib.Core.List.{List, ◌++◌}
use Prim.Native.Nat.{ℕ}
use native.Mathlib.Omega.{arith}
use borrow.Author.Tests.{ne_eqb}
use lib.Dec.{eqb}
use lib.ListN.{length, take, drop, replicate, take-append-drop}
use lib.Seq.{take_at}
use Rattle.std.specs.Prelude.{Err}
use Rattle.reply.specs.Reply.{Reply, numbered, number}
use Rattle.graph.specs.Model.{Graph, count}
use Rattle.format.specs.Reader as files
use Rattle.rules.specs.Rules.{Replies, passes, fails}
use Rattle.rules.specs.Files.{Judged}
use Rattle.rules.proofs.Find.{known}
use Rattle.rules.proofs.Files.{file_determined}
use Rattle.checker.specs.Check.{ChecksFile}
use Rattle.lines.specs.Lines.{lines, shown, Prints, Printed}

-- ---- what is shown of the report is the figures

graph_shown : (g : Graph) (room : ℕ) {r : Reply} (l : List ℕ) → Replies g room r → length l ≡ cond (eqb (number r) 0) (count g) 0 → shown r ≡ length l
graph_shown g room l (passes a) e = sym e
graph_shown g room l (fails r h k) e = sym (e ∙ ap (λ b. cond b (count g) 0) (ne_eqb (number (Err r)) 0 (λ z. omega (arith, known g room r h))))

figures_shown : (file before after : List ℕ) (r : Reply) (c : ChecksFile file before r after) → shown r ≡ length c.figures
figures_shown file before after r c = go c.answers.read c.answers.judged
  where
    go : (a : files.Answer) → Judged a (length before) r c.figures → shown r ≡ length c.figures
    go (files.taken g) j = graph_shown g (length before) c.figures j.replies j.reports.size
    go (files.stopped t p) j = ap shown j.0 ∙ sym (ap length j.1)
    go files.no_task j = ap shown j.0 ∙ sym (ap length j.1)
    go (files.no_entry p) j = ap shown j.0 ∙ sym (ap length j.1)

-- the lines are those of the reply and the figures
pub lines_are : (file : List ℕ) (r : Reply) (report : List ℕ) (c : ChecksFile file (replicate 32 0) r report)
    → lines (numbered r) (take (shown r) report) ≡ lines (numbered r) c.figures
lines_are file r report c =
    ap (lines (numbered r))
    (ap (take (shown r)) c.report
    ∙ take_at c.figures (drop (length c.figures) (replicate 32 0)) (shown r) (sym (figures_shown file (replicate 32 0) report r c)))

pub text_is : (file text : List ℕ) (p : Prints file text) → text ≡ lines (numbered p.reply) p.checks.figures
text_is file text p = p.text ∙ lines_are file p.reply p.report p.checks

-- ---- and there is one

pub prints_determined : (file a b : List ℕ) → Prints file a → Prints file b → a ≡ b
prints_determined file a b p q =
    let (e, f) = file_determined file 32 p.reply q.reply p.checks.figures q.checks.figures p.checks.answers q.checks.answers in
    text_is file a p ∙ ap₂ (λ r l. lines (numbered r) l) e f ∙ sym (text_is file b q)

pub printed_determined : (file before : List ℕ) (after other : List ℕ) (n m : ℕ) → Printed file before after n → Printed file before other m → (after ≡ other) × (n ≡ m)
printed_determined file before after other n m p q =
    let e : take n after ≡ take m other = prints_determined file (take n after) (take m other) p.prints q.prints in
    let k : n ≡ m = p.front ∙ ap length e ∙ sym q.front in (
      sym (take-append-drop n after)
          ∙ ap₂ (λ x y. x ++ y) e (p.rest ∙ ap (λ i. drop i before) k ∙ sym q.rest)
          ∙ take-append-drop m other,
      k,
    )
