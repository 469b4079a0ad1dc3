-- `checker::time_tests` meets its contract. Assumes nothing.
use mathlib.Core.Path.{◌≡◌, subst}
use Prim.Native.Nat.{ℕ, ◌<◌}
use lib.ListN.{length}
use borrow.Author.Rules.{rules}
use Rattle.std.specs.Prelude.{Ok, Err}
use Rattle.std.proofs.lemmas.Result.{err_from_is_err_and}
use Rattle.reply.specs.declared.Refusal.TheVariants.{Late}
use Rattle.response.specs.Response.{Judged}
use Rattle.checker.proofs.Stages.{late, heavy, light}
use Rattle.checker.proofs.time_tests.Goals as goal

pub returns-in_err-figures-clause-behind : goal.returns-in_err-figures-clause-behind
returns-in_err-figures-clause-behind c =
    λ room.
    let found : (i : ℕ) × (c.respond_all.result ≡ Err i) × (c.in_err-figures.field-0.0 ≡ Late i) = search rules in
    let p = err_from_is_err_and c.from_residual.result c.from_residual.ensures.1 in
    rw (p.1, p.2, found.2) (late c.args.tasks.now room found.0 (λ g e. subst (Judged g _) found.1 (c.respond_all.ensures g e)))

pub returns-then-overloaded-clause-behind : goal.returns-then-overloaded-clause-behind
returns-then-overloaded-clause-behind c =
    λ room.
    let found : c.respond_all.result ≡ Ok c.in_ok-figures.figures = search rules in
    heavy c.args.tasks.now room (λ g e. (subst (Judged g _) found (c.respond_all.ensures g e)).none_late) c.overloaded.result c.overloaded.ensures c.if-overloaded.true

pub returns-clause-behind : goal.returns-clause-behind
returns-clause-behind c =
    λ room.
    let found : c.respond_all.result ≡ Ok c.in_ok-figures.figures = search rules in
    light c.args.tasks.now room (λ g e. (subst (Judged g _) found (c.respond_all.ensures g e)).none_late) c.overloaded.result c.overloaded.ensures c.if-overloaded.false _

pub returns-clause-times : goal.returns-clause-times
returns-clause-times c =
    λ g e i h.
    let found : c.respond_all.result ≡ Ok c.in_ok-figures.figures = search rules in
    let judged = subst (Judged g _) found (c.respond_all.ensures g e) in
    judged.responses i (subst (λ ts. i < length ts) e h)
