-- `checker::check_file` meets its contract: the reader's refusal, or the judgement of the graph that it read. Assumes nothing.
use Rattle.std.proofs.lemmas.Result.{err_from_is_err_and}
use Rattle.checker.proofs.Files.{read_well, read_judged, parse_refused}
use Rattle.checker.proofs.check_file.Goals as goal

pub returns-in_err-graph : goal.returns-in_err-graph
returns-in_err-graph c =
    let p = err_from_is_err_and c.from_residual.result c.from_residual.ensures.1 in
    rw (p.1, p.2) (parse_refused c.args.file.now _ c.in_err-graph.ensures c.args.report.now)

pub new-requires : goal.new-requires
new-requires c = read_well c.args.file.now c.in_ok-graph.graph c.in_ok-graph.ensures

pub returns : goal.returns
returns c = read_judged c.args.file.now c.in_ok-graph.graph c.in_ok-graph.ensures c.args.report.now c.judge.result _ (rw c.new.ensures at c.judge.ensures)
