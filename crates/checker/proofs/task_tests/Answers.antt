-- `checker::task_tests` meets its contract. Assumes nothing.
use Rattle.checker.proofs.Stages.{repeated, short, enough}
use Rattle.checker.proofs.task_tests.Goals as goal

pub returns-in-Some : goal.returns-in-Some
returns-in-Some c = repeated _ _ _ (rw c.list-list.ensures.same at c.in-Some.ensures)

pub returns-then-room-list : goal.returns-then-room-list
returns-then-room-list c =
    let e = c.list-list.ensures.same in
    rw e (short _ _ (rw e at c.in_default.ensures) (rw e at c.if-room-list.true))

pub returns : goal.returns
returns c =
    let e = c.list-list.ensures.same in
    enough _ _ (rw e at c.in_default.ensures) (rw e at c.if-room-list.false) _
