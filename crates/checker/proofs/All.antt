-- All tests one behind the other, on a well-formed graph. Assumes nothing.
use mathlib.Core.Path.{◌≡◌, refl, sym, ap, subst, ◌∙◌}
use mathlib.Core.List.{List, [], ◌++◌}
use Prim.Native.Nat.{ℕ, ◌≤◌}
use native.Mathlib.Omega.{arith}
use lib.ListN.{length, take, drop}
use lib.Seq.{length-take-le, get_or-take}
use Rattle.std.specs.Prelude.{Some, Ok, Err}
use Rattle.reply.specs.declared.Refusal.{Refusal}
use Rattle.reply.specs.declared.Refusal.TheVariants.{ShortReport}
use Rattle.reply.specs.Reply.{Reply}
use Rattle.graph.specs.Model.{Graph, count}
use Rattle.graph.specs.Memory.{Memory, view}
use Rattle.format.specs.Writer.{bytes}
use Rattle.numbers.proofs.Sums.{cases}
use Rattle.rules.specs.Stages.{Earliest, Upto}
use Rattle.rules.specs.Rules.{Answers}
use Rattle.rules.proofs.Find.{later_finds}
use Rattle.rules.proofs.Report.{refused_answers, accepted_answers}
use Rattle.formed.specs.Formed.{WellFormed}
use Rattle.formed.proofs.Exact.{well_reads}
use Rattle.checker.specs.Outcome.{Tested}
use Rattle.checker.specs.Check.{Judges, MemoryAnswers, judged}

module _ (g : Graph) where
  -- a refusal stops the tests
  pub stops : {room : ℕ} (k : ℕ) → k ≤ 14 → (r : Refusal) → Earliest g room (Upto k) (Some r) → Tested g room (Err r)
  stops {room} k h r f = record { earliest = later_finds g room k 14 r h f; times = tt }

  -- and leaves the report as it was
  pub refuses : (before : List ℕ) (r : Refusal) → Tested g (length before) (Err r) → Judges g before (Err r) before
  refuses before r t = record { figures = []; answers = refused_answers g (length before) r t.earliest; report = refl }

  -- where nothing refuses, the report has room
  pub roomy : (room : ℕ) (l : List ℕ) → Tested g room (Ok l) → count g ≤ room
  roomy room l t = cases (count g) room (λ h. h) (λ h. absurd (t.earliest (ShortReport (count g)) (omega arith) (refl, h)))

  -- and the figures stand in its first places
  pub accepts : (before after l : List ℕ) (n : ℕ) → n ≡ count g → Tested g (length before) (Ok l) → n ≤ length l
      → after ≡ take n l ++ drop n before → Judges g before (Ok n) after
  accepts before after l n counts t fits e =
      let size : length (take n l) ≡ n = length-take-le n l fits in
      record {
        figures = take n l;
        answers =
            subst (λ k. Answers g (length before) (Ok k) (take n l)) (sym counts)
            (accepted_answers g (length before) (take n l) t.earliest (size ∙ counts) (λ i h. rw (get_or-take n l i 0 (omega (arith, counts))) (t.times i h)));
        report = e ∙ ap (λ k. take n l ++ drop k before) (sym size);
      }

-- a well-formed graph has a file
pub well_judged : {m : Memory} {room : ℕ} {r : Reply} {l : List ℕ} → WellFormed m → Answers (view m) room r l → MemoryAnswers m room r l
well_judged {m} w a = judged (bytes (view m)) (well_reads m w) a
