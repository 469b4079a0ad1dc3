-- `writer::length_of` meets its contract: the length of each sort. Assumes nothing.
use native.Mathlib.Omega.{arith}
use mathlib.Core.Path.{ap}
use lib.ListN.{length, length-map}
use Rattle.graph.specs.Memory.{view_link}
use Rattle.format.proofs.Size.{bytes_length}
use Rattle.writer.proofs.Whole.{file_long}
use Rattle.writer.proofs.length_of.Goals as goal

pub overflow_mul-result-3 : goal.overflow_mul-result-3
overflow_mul-result-3 c =
    let l = file_long c.args.graph.now in
    rw c.record_length-3.ensures (omega (arith, bytes_length c.args.graph.now c.tasks.ensures.formed))

pub overflow_add-result-2 : goal.overflow_add-result-2
overflow_add-result-2 c =
    let l = file_long c.args.graph.now in
    rw (c.record_length.ensures, c.record_length-2.ensures, c.record_length-3.ensures) (omega (arith, bytes_length c.args.graph.now c.tasks.ensures.formed))

pub overflow_add-result-3 : goal.overflow_add-result-3
overflow_add-result-3 c =
    let l = file_long c.args.graph.now in
    rw (c.record_length.ensures, c.record_length-2.ensures, c.record_length-3.ensures, c.record_length-4.ensures) (omega (arith, bytes_length c.args.graph.now c.tasks.ensures.formed))

pub returns : goal.returns
returns c =
    let ts = ap length c.tasks.ensures.list in
    let cs = ap length c.channels.ensures.list in
    let rs = ap length c.relations.ensures.list in
    rw (c.record_length.ensures, c.record_length-2.ensures, c.record_length-3.ensures, c.record_length-4.ensures) (omega (arith, file_long c.args.graph.now, length-map c.channels.result.now view_link))
