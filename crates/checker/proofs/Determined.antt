-- One reply and one report to one input. Assumes nothing.
use mathlib.Core.Path.{◌≡◌, refl, sym, ap, ◌∙◌}
use mathlib.Core.List.{List, ◌++◌}
use Prim.Native.Nat.{ℕ}
use lib.ListN.{length, drop}
use Rattle.reply.specs.Reply.{Reply}
use Rattle.graph.specs.Memory.{Memory, view}
use Rattle.rules.proofs.Files.{file_determined}
use Rattle.rules.proofs.Report.{answer_determined}
use Rattle.checker.specs.Check.{Written, ChecksFile, MemoryAnswers, no_file, judged, ChecksGraph}

-- the same figures leave the same report
same_report : (before l m after after' : List ℕ) → l ≡ m → Written l before after → Written m before after' → after ≡ after'
same_report before l m after after' e w v = w ∙ ap (λ x. x ++ drop (length x) before) e ∙ sym v

pub file_check_determined : (file before : List ℕ) (r s : Reply) (after after' : List ℕ) → ChecksFile file before r after → ChecksFile file before s after' → (r ≡ s) × (after ≡ after')
file_check_determined file before r s after after' x y =
    let (e, f) = file_determined file (length before) r s x.figures y.figures x.answers y.answers in
    (e, same_report before x.figures y.figures after after' f x.report y.report)

memory_determined : (g : Memory) (room : ℕ) (r s : Reply) (l m : List ℕ) → MemoryAnswers g room r l → MemoryAnswers g room s m → (r ≡ s) × (l ≡ m)
memory_determined g room r s l m (no_file a) (no_file b) = (refl, refl)
memory_determined g room r s l m (no_file a) (judged file w b) = absurd (a file w)
memory_determined g room r s l m (judged file w a) (no_file b) = absurd (b file w)
memory_determined g room r s l m (judged file w a) (judged other v b) = answer_determined (view g) room r s l m a b

pub graph_check_determined : (g : Memory) (before : List ℕ) (r s : Reply) (after after' : List ℕ) → ChecksGraph g before r after → ChecksGraph g before s after' → (r ≡ s) × (after ≡ after')
graph_check_determined g before r s after after' x y =
    let (e, f) = memory_determined g (length before) r s x.figures y.figures x.answers y.answers in
    (e, same_report before x.figures y.figures after after' f x.report y.report)
