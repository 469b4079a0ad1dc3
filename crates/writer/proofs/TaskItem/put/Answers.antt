-- The record of a task: field by field. Assumes nothing.
use native.Mathlib.Omega.{arith}
use Rattle.format.specs.Record.{be, join}
use Rattle.output.proofs.Parts.{wrote_then, wrote_same}
use Rattle.writer.proofs.Numbers.{one_byte, bytes_4}
use Rattle.writer.proofs.TaskItem.put.Goals as goal

pub returns : goal.returns
unfolding be join
returns c =
    wrote_then c.put.ensures
    (wrote_then (wrote_same (bytes_4 _ (omega arith) c.to_be_bytes.ensures) c.put-2.ensures)
    (wrote_then (wrote_same (bytes_4 _ (omega arith) c.to_be_bytes-2.ensures) c.put-3.ensures)
    (wrote_then (wrote_same (bytes_4 _ (omega arith) c.to_be_bytes-3.ensures) c.put-4.ensures)
    (wrote_then (wrote_same (bytes_4 _ (omega arith) c.to_be_bytes-4.ensures) c.put-5.ensures)
    (wrote_same (one_byte _) c.put-6.ensures)))))
