-- `reader::read` meets its contract: the graph of the file, or the empty one. Assumes nothing.
use Rattle.graph.specs.Memory.{laid, pad}
use Rattle.reader.proofs.Ends.{gives_graph, gives_refusal}
use Rattle.reader.proofs.read.Goals as goal

pub returns-in-Ok : goal.returns-in-Ok
returns-in-Ok c = gives_graph c.args.file.now _ c.in-Ok.ensures

pub returns-in-Err : goal.returns-in-Err
unfolding laid pad
returns-in-Err c = gives_refusal c.args.file.now _ c.in-Err.ensures
