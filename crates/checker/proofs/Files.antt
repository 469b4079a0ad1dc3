-- From what reading a file gives to what checking it gives. Assumes nothing.
use mathlib.Core.Path.{◌≡◌, refl, sym, ap, subst, ◌∙◌}
use mathlib.Core.List.{List, []}
use Prim.Native.Nat.{ℕ, ◌≤◌}
use native.Mathlib.Omega.{arith}
use lib.ListN.{length}
use Rattle.std.specs.Prelude.{Ok, Err}
use Rattle.numbers.proofs.Sums.{cases}
use Rattle.reply.specs.declared.Refusal.{Refusal}
use Rattle.reply.specs.declared.Refusal.TheVariants.{ShortReport}
use Rattle.reply.specs.Reply.{Reply, number, place}
use Rattle.reply.proofs.Refused.{refused_number}
use Rattle.graph.specs.Model.{Graph, count}
use Rattle.graph.specs.Memory.{Memory, view}
use Rattle.graph.proofs.Laid.{view_laid}
use Rattle.format.specs.Reader as files
use Rattle.format.proofs.Formed.{reads_formed}
use Rattle.rules.specs.Rules.{Replies, passes}
use Rattle.rules.specs.Files.{Judged}
use Rattle.formed.specs.Formed.{WellFormed}
use Rattle.formed.proofs.Exact.{laid_well}
use Rattle.reader.specs.declared.Reading.{Reading}
use Rattle.reader.specs.Reading.{Gives, Parses}
use Rattle.checker.specs.Check.{Judges, ChecksFile}

-- what the reader hands over is well formed, and its judgement is the file's
module _ (file : List ℕ) (m : Memory) (p : Parses file (Ok m)) where
  pub read_well : WellFormed m
  read_well = let (g, reads, e) = p in rw e (laid_well g (reads_formed file g reads))

  pub read_judged : (before : List ℕ) (r : Reply) (after : List ℕ) → Judges (view m) before r after → ChecksFile file before r after
  read_judged before r after j =
      let (g, reads, e) = p in
      let k : Judges g before r after = subst (λ x. Judges x before r after) (ap view e ∙ view_laid g) j in
      record { figures = k.figures; answers = record { read = files.taken g; reads = reads; judged = k.answers }; report = k.report }

-- and its refusal is the file's
pub parse_refused : (file : List ℕ) (r : Refusal) → Parses file (Err r) → (before : List ℕ) → ChecksFile file before (Err r) before
parse_refused file r (a, m, e) before = go a m e
  where
    go : (a : files.Answer) → files.Answers file a → files.reply a ≡ Err r → ChecksFile file before (Err r) before
    go (files.taken g) m e = absurd (cc)
    go (files.stopped t place) m e = record { figures = []; answers = record { read = files.stopped t place; reads = m; judged = (sym e, refl) }; report = refl }
    go files.no_task m e = record { figures = []; answers = record { read = files.no_task; reads = m; judged = (sym e, refl) }; report = refl }
    go (files.no_entry place) m e = record { figures = []; answers = record { read = files.no_entry place; reads = m; judged = (sym e, refl) }; report = refl }

-- the same of what `read` hands back: where its number isn't 0, its reply is the file's, and the report stays
pub read_refused : (file : List ℕ) (r : Reading) → Gives file r → ¬ (number r.reply ≡ 0) → (before : List ℕ) → ChecksFile file before r.reply before
read_refused file r g refused before = go r.reply g.reply refused
  where
    go : (s : Reply) → s ≡ files.reply g.answer → ¬ (number s ≡ 0) → ChecksFile file before s before
    go (Ok n) e k = absurd (k refl)
    go (Err f) e k = parse_refused file f (g.answer, g.means, sym e) before

-- an accepted reply counts no more tasks than the report has places
answers_fit : (g : Graph) (room n : ℕ) → Replies g room (Ok n) → n ≤ room
answers_fit g room n (passes a) = cases (count g) room (λ h. h) (λ h. absurd (a (ShortReport (count g)) (refl, h)))

pub count_fits : (file before after : List ℕ) (n : ℕ) → ChecksFile file before (Ok n) after → n ≤ length before
count_fits file before after n c = go c.answers.read c.answers.judged
  where
    go : (a : files.Answer) → Judged a (length before) (Ok n) c.figures → n ≤ length before
    go (files.taken g) j = answers_fit g (length before) n j.replies
    go (files.stopped t p) j = absurd (cc (j.0))
    go files.no_task j = absurd (cc (j.0))
    go (files.no_entry p) j = absurd (cc (j.0))

-- the same of any reply whose number is 0
pub accepted_fits : (file before after : List ℕ) (r : Reply) → ChecksFile file before r after → number r ≡ 0 → place r ≤ length before
accepted_fits file before after (Ok n) c e = count_fits file before after n c
accepted_fits file before after (Err r) c e = absurd (omega (arith, refused_number r))
