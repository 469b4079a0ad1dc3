-- The computed report is the one that is written, and there is no other. Assumes nothing.
use mathlib.Core.Path.{◌≡◌, refl, sym, ap, ◌∙◌}
use mathlib.Core.Bool.{cond}
use mathlib.Core.List.{List, [], ◌∷◌, ◌++◌}
use Prim.Native.Nat.{ℕ, zero, suc, ◌+◌, ◌<◌}
use native.Mathlib.Omega.{arith}
use borrow.Author.Tests.{ne_eqb}
use lib.Dec.{eqb}
use lib.ListN.{length, get_or, length-append, get_or-append}
use lib.Seq.{ext_get_or, get_or-append-add}
use Rattle.std.specs.Prelude.{Option, Some, None, Ok, Err}
use Rattle.numbers.proofs.Sums.{extend}
use Rattle.graph.specs.Model.{Graph, count}
use Rattle.rules.specs.Terms.{machine, Usable, response}
use Rattle.machine.specs.Machine.{IsResponse}
use Rattle.reply.specs.declared.Refusal.{Refusal}
use Rattle.reply.specs.Reply.{Reply, number}
use Rattle.rules.specs.Rules.{Answers}
use Rattle.rules.specs.Check.{found, given, reply, listed, shown, report}
use Rattle.rules.proofs.Order.{determined}
use Rattle.rules.specs.Stages.{Upto, Earliest}
use Rattle.rules.proofs.Find.{known, given_replies}
use Rattle.rules.proofs.Tests.{figure, response_unique, finds}
use Rattle.rules.proofs.Kept.{unrefused, punctual}

length_listed : (f : ℕ → ℕ) (n : ℕ) → length (listed f n) ≡ n
unfolding listed
length_listed f zero = refl
length_listed f (suc n) = omega (arith, length-append (listed f n) (f n ∷ []), length_listed f n)

listed_at : (f : ℕ → ℕ) (n i : ℕ) → i < n → get_or (listed f n) i 0 ≡ f i
unfolding listed
listed_at f zero i h = absurd (omega arith)
listed_at f (suc n) i h =
    extend (λ x. get_or (listed f n ++ (f n ∷ [])) x 0 ≡ f x) n
    (λ x l. get_or-append (listed f n) (f n ∷ []) 0 x (omega (arith, length_listed f n)) ∙ listed_at f n x l)
    (let e : length (listed f n) + 0 ≡ n = omega (arith, length_listed f n) in
    ap (λ x. get_or (listed f n ++ (f n ∷ [])) x 0) (sym e) ∙ get_or-append-add (listed f n) (f n ∷ []) 0 0) i h

module _ (g : Graph) (room : ℕ) where
  -- a refusal reports nothing
  pub refused_answers : (r : Refusal) → Earliest g room (Upto 14) (Some r) → Answers g room (Err r) []
  refused_answers r f =
      record {
        replies = given_replies g room (Some r) f;
        reports = record {
          size = ap (λ b. cond b (count g) 0) (sym (ne_eqb (number (Err r)) 0 (λ e. omega (arith, known g room r f.1))));
          figures = λ i l. absurd (omega arith);
        };
      }

  -- an accepted graph reports R of every task
  pub accepted_answers : (l : List ℕ) → Earliest g room (Upto 14) None → length l ≡ count g → ((i : ℕ) → i < count g → IsResponse (machine g) i (get_or l i 0)) → Answers g room (Ok (count g)) l
  accepted_answers l f n h = record { replies = given_replies g room None f; reports = record { size = n; figures = λ i k. h i (omega arith) } }

  shown_answers : Usable g → (o : Option Refusal) → Earliest g room (Upto 14) o → Answers g room (given o (count g)) (shown o (listed (response g) (count g)))
  shown_answers ok None f =
      accepted_answers (listed (response g) (count g)) f (length_listed (response g) (count g))
      (λ i l. rw (listed_at (response g) (count g) i l) (figure g i (punctual g ok room (unrefused g room (given_replies g room None f)) i l)))
  shown_answers ok (Some r) f = refused_answers r f

  pub answers : Usable g → Answers g room (reply g room) (report g room)
  answers ok = shown_answers ok (found g room) (finds g room ok)

  -- one answer to one graph and room
  pub answer_determined : (r s : Reply) (l m : List ℕ) → Answers g room r l → Answers g room s m → (r ≡ s) × (l ≡ m)
  answer_determined r s l m a b =
      let e : r ≡ s = determined g room a.replies b.replies in
      let n : length l ≡ length m = a.reports.size ∙ ap (λ x. cond (eqb (number x) 0) (count g) 0) e ∙ sym b.reports.size in
      (e, ext_get_or 0 l m n (λ i h. response_unique (machine g) i (get_or l i 0) (get_or m i 0) (a.reports.figures i h) (b.reports.figures i (omega arith))))
