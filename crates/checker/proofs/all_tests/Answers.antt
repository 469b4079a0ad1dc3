-- `checker::all_tests` meets its contract: each stage behind those before it. Assumes nothing.
use mathlib.Core.Path.{sym, ◌∙◌}
use native.Mathlib.Omega.{arith}
use Rattle.std.proofs.lemmas.Result.{err_from_is_err_and}
use Rattle.rules.proofs.Find.{nothing}
use Rattle.rules.proofs.Usable.{usable}
use Rattle.checker.proofs.All.{stops}
use Rattle.checker.proofs.all_tests.Goals as goal

pub returns-in_err-task_tests : goal.returns-in_err-task_tests
returns-in_err-task_tests c =
    let g = c.args.graph.now in
    let e = sym (c.new-tasks.ensures ∙ c.tasks.ensures.list) in
    let p = err_from_is_err_and c.from_residual.result c.from_residual.ensures.1 in
    rw (p.1, p.2) (stops g 10 (omega arith) _ (c.in_err-task_tests.ensures.so g e (nothing g c.args.room)))

pub returns-in_err-relation_tests : goal.returns-in_err-relation_tests
returns-in_err-relation_tests c =
    let g = c.args.graph.now in
    let room = c.args.room in
    let e = sym (c.new-tasks.ensures ∙ c.tasks.ensures.list) in
    let a = c.in_ok-task_tests.ensures.so g e (nothing g room) in
    let p = err_from_is_err_and c.from_residual-in_err-relation_tests.result c.from_residual-in_err-relation_tests.ensures.1 in
    rw (p.1, p.2) (stops g 11 (omega arith) _ ((c.in_err-relation_tests.ensures room).so g (e, sym c.relations.ensures.list) a))

pub returns-in_err-figures : goal.returns-in_err-figures
returns-in_err-figures c =
    let g = c.args.graph.now in
    let room = c.args.room in
    let e = sym (c.new-tasks.ensures ∙ c.tasks.ensures.list) in
    let a = c.in_ok-task_tests.ensures.so g e (nothing g room) in
    let b = (c.in_ok-relation_tests.ensures room).so g (e, sym c.relations.ensures.list) a in
    let p = err_from_is_err_and c.from_residual-in_err-figures.result c.from_residual-in_err-figures.ensures.1 in
    rw (p.1, p.2) (stops g 13 (omega arith) _ ((c.in_err-figures.ensures.behind room).so g e b))

pub returns-in_err-channel_tests : goal.returns-in_err-channel_tests
returns-in_err-channel_tests c =
    let g = c.args.graph.now in
    let room = c.args.room in
    let e = sym (c.new-tasks.ensures ∙ c.tasks.ensures.list) in
    let a = c.in_ok-task_tests.ensures.so g e (nothing g room) in
    let b = (c.in_ok-relation_tests.ensures room).so g (e, sym c.relations.ensures.list) a in
    let d = (c.in_ok-figures.ensures.behind room).so g e b in
    let p = err_from_is_err_and c.from_residual-in_err-channel_tests.result c.from_residual-in_err-channel_tests.ensures.1 in
    rw (p.1, p.2)
    (stops g 14 (omega arith) _
    ((c.in_err-channel_tests.ensures room).so g (record { tasks = e; channels = sym c.channels.ensures.list; usable = usable g c.tasks.ensures.formed }) d))

pub returns : goal.returns
returns c =
    let g = c.args.graph.now in
    let room = c.args.room in
    let e = sym (c.new-tasks.ensures ∙ c.tasks.ensures.list) in
    let a = c.in_ok-task_tests.ensures.so g e (nothing g room) in
    let b = (c.in_ok-relation_tests.ensures room).so g (e, sym c.relations.ensures.list) a in
    let d = (c.in_ok-figures.ensures.behind room).so g e b in
    record {
      earliest = (c.in_ok-channel_tests.ensures room).so g (record { tasks = e; channels = sym c.channels.ensures.list; usable = usable g c.tasks.ensures.formed }) d;
      times = c.in_ok-figures.ensures.times g e;
    }
