-- `checker::judge` meets its contract: the answer of all tests, and the report. Assumes nothing.
use mathlib.Core.Path.{◌≡◌, ap}
use mathlib.Core.List.{List, ◌++◌}
use Prim.Native.Nat.{◌≤◌}
use native.Mathlib.Omega.{arith}
use borrow.Author.Rules.{rules}
use lib.ListN.{length, drop}
use lib.Seq.{length-take-le}
use Rattle.checker.proofs.All.{refuses, roomy, accepts}
use Rattle.checker.proofs.judge.Goals as goal

pub slice_bounds-copy_from_slice-end : goal.slice_bounds-copy_from_slice-end
slice_bounds-copy_from_slice-end c = omega (arith, ap length c.tasks-count.ensures.list, roomy c.args.graph.now _ _ c.in-Ok.ensures)

pub slice_bounds-copy_from_slice-end-in-Ok : goal.slice_bounds-copy_from_slice-end-in-Ok
slice_bounds-copy_from_slice-end-in-Ok c =
    let room : length c.tasks-count.result.now ≤ length c.args.report.now =
    omega (arith, ap length c.tasks-count.ensures.list, roomy c.args.graph.now _ _ c.in-Ok.ensures) in
    omega (arith, length-take-le _ _ room)

pub copy_from_slice-requires : goal.copy_from_slice-requires
copy_from_slice-requires c =
    let room : length c.tasks-count.result.now ≤ length c.args.report.now =
    omega (arith, ap length c.tasks-count.ensures.list, roomy c.args.graph.now _ _ c.in-Ok.ensures) in
    let size : length c.in-Ok.figures ≡ 32 = search rules in
    let few : length c.tasks-count.result.now ≤ length c.in-Ok.figures = omega (arith, c.tasks-count.ensures.few) in
    omega (arith, length-take-le _ _ room, length-take-le _ _ few)

pub returns-in-Ok : goal.returns-in-Ok
returns-in-Ok c =
    let size : length c.in-Ok.figures ≡ 32 = search rules in
    let few : length c.tasks-count.result.now ≤ 32 = c.tasks-count.ensures.few in
    accepts c.args.graph.now c.args.report.now _ c.in-Ok.figures _ (ap length c.tasks-count.ensures.list) c.in-Ok.ensures (omega arith)
    (ap (λ (l : List _). l ++ drop (length c.tasks-count.result.now) c.args.report.now) c.copy_from_slice.ensures.after)

pub returns-in-Err : goal.returns-in-Err
returns-in-Err c = refuses c.args.graph.now c.args.report.now c.in-Err.refusal c.in-Err.ensures
