-- `response::respond_all` meets its contract: up to the first task that is late, the figures are response times. Assumes nothing.
use native.Mathlib.Omega.{arith}
use mathlib.Core.Path.{◌≡◌, sym, ap, subst, ◌∙◌}
use Prim.Native.Nat.{◌<◌, ◌≤◌}
use lib.ListN.{length, length-set, replicate}
use lib.Seq.{length-take-le}
use Rattle.std.proofs.lemmas.Result.{err_from_is_err_and}
use Rattle.rules.specs.Rules.{Misses}
use Rattle.response.specs.Response.{Responds}
use Rattle.response.proofs.Once.{in_time}
use Rattle.response.proofs.Figured.{figured_more, figures}
use Rattle.response.proofs.respond_all.Goals as goal

pub loop-i-init : goal.loop-i-init
loop-i-init c =
    let all : length c.list-n.result.now ≡ length c.args.tasks.now = ap length c.list-n.ensures.same in
    (length-take-le _ (replicate 32 0) (omega (arith, all, c.list-n.ensures.few)), λ g e k h. absurd (omega arith))

pub returns-in_err-figure : goal.returns-in_err-figure
returns-in_err-figure c =
    λ g e.
    let all : length c.list-n.result.now ≡ length c.args.tasks.now = ap length c.list-n.ensures.same in
    let next : c.loop-i.i < length c.loop-i.figure-items = subst (λ m. c.loop-i.i < m) (sym c.loop-i.auto.figure-items) c.loop-i-test.true in
    let p = err_from_is_err_and c.from_residual.result c.from_residual.ensures.1 in
    let here : c.in_err-figure.field-0.0 ≡ c.loop-i.i = grind (arith, c.in_err-figure.ensures) in
    let late : Misses g c.loop-i.i = subst (Responds g c.loop-i.i) c.in_err-figure.ensures.ok_part (c.respond.ensures g e) in
    rw (p.1, p.2, here) (omega (arith, all, next, c.loop-i.invariant.0), (late, λ j h m. in_time g j _ (c.loop-i.invariant.1 g e j h) m))

pub loop-i-preserved : goal.loop-i-preserved
loop-i-preserved c =
    let next : c.loop-i.i < length c.loop-i.figure-items = subst (λ m. c.loop-i.i < m) (sym c.loop-i.auto.figure-items) c.loop-i-test.true in (
      length-set _ _ _ ∙ c.loop-i.invariant.0,
      λ g e. figured_more g c.loop-i.figure-items c.loop-i.i (c.loop-i.invariant.1 g e) _ next (subst (Responds g c.loop-i.i) c.in_ok-figure.ensures.ok_part (c.respond.ensures g e)),
    )

pub returns : goal.returns
returns c =
    λ g e.
    let all : length c.list-n.result.now ≡ length c.args.tasks.now = ap length c.list-n.ensures.same in
    let done : length c.loop-i.figure-items ≤ c.loop-i.i = subst (λ m. m ≤ c.loop-i.i) (sym c.loop-i.auto.figure-items) c.loop-i-test.false in
    figures g c.loop-i.figure-items _ (λ k h. c.loop-i.invariant.1 g e k (omega (arith, done, c.loop-i.invariant.0))) _ all c.loop-i.invariant.0 (omega (arith, all, c.list-n.ensures.few))
