-- `response::rivals_of` meets its contract: each task passed that interferes is gathered. Assumes nothing.
use mathlib.Core.Path.{sym, ◌∙◌, ◌≡◌}
use Rattle.machine.specs.Machine.{above}
use Rattle.rules.specs.Given.{Of}
use Rattle.rules.specs.Terms.{machine}
use Rattle.numbers.proofs.Lists.{all_at}
use Rattle.format.specs.Ranges.{TaskRange}
use Rattle.graph.specs.Model.{no_task}
use Rattle.tasks.proofs.Given.{task_is}
use Rattle.response.proofs.Hindrance.{gathered_none, gathered_pass, gathered_more}
use Rattle.response.proofs.rivals_of.Goals.{then-interferes, else-interferes}
use Rattle.response.proofs.rivals_of.Goals as goal

pub loop-other-init : goal.loop-other-init
loop-other-init c = rw c.new-rivals.ensures (gathered_none _ _)

pub loop-other-preserved : goal.loop-other-preserved
loop-other-preserved c =
    let l = c.loop-other in
    let list = c.list-list.result.now in
    let says : Of list (λ g. c.interferes.result ≡ above (machine g) c.args.i l.other-index) =
    λ g e. c.interferes.ensures g c.args.i l.other-index (task_is g e c.args.i) (task_is g e l.other-index) in
    elim c.if-interferes.branch [
      | then-interferes w ↦
          let more = gathered_more list c.args.i l.rivals.items l.other-index l.invariant (λ g e. sym w.if-interferes.true ∙ says g e)
          (all_at TaskRange list no_task (rw (sym c.list-list.ensures.same) at c.list-list.ensures.in_range) l.other-index c.loop-other-test.true) in
          rw (w.rivals-is, w.push.ensures.items, w.cost.ensures) more
      | else-interferes w ↦
          rw w.rivals-is (gathered_pass list c.args.i l.rivals.items l.other-index l.invariant (λ g e. sym w.if-interferes.false ∙ says g e))
    ]
