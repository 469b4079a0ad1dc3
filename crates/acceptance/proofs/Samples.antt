-- The samples through the checker's contract: one statement over the one table. Assumes nothing.
use mathlib.Core.Path.{◌≡◌, refl, sym, ap, subst, ◌∙◌}
use mathlib.Core.List.{List, ◌++◌}
use Prim.Native.Nat.{ℕ}
use lib.ListN.{length, drop}
use Rattle.numbers.specs.Lists.{All}
use Rattle.numbers.proofs.Lists.{all_map}
use Rattle.reply.specs.Reply.{numbered}
use Rattle.rules.specs.Files.{FileAnswers}
use Rattle.rules.proofs.Files.{file_determined}
use Rattle.samples.specs.Samples.{Sample, samples, Right}
use Rattle.samples.proofs.Samples.{samples_right}
use Rattle.acceptance.specs.Samples.{Exactly}

-- a sample's answer is the only one that the contract leaves
checked : (s : Sample) → Right s → (before : List ℕ) → length before ≡ s.room → Exactly s before
checked s a before e =
    let answers : FileAnswers s.file (length before) a.reply s.figures = subst (λ n. FileAnswers s.file n a.reply s.figures) (sym e) a.answers in
    record {
      only = λ r after c.
          let (same, figures) = file_determined s.file (length before) r a.reply c.figures s.figures c.answers answers in
          (ap numbered same ∙ a.numbers, c.report ∙ ap (λ l. l ++ drop (length l) before) figures);
      some = (a.reply, record { figures = s.figures; answers = answers; report = refl });
    }

-- For every sample and every report with its room: the sample's numbers, its figures in the first places, and the rest of the report kept.
pub samples_checked : All (λ s. (before : List ℕ) → length before ≡ s.room → Exactly s before) samples
samples_checked = all_map Right (λ s. (before : List ℕ) → length before ≡ s.room → Exactly s before) checked samples samples_right
