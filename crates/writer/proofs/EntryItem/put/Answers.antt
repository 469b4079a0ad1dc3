-- The record of a rate: field by field. Assumes nothing.
use native.Mathlib.Omega.{arith}
use Rattle.format.specs.Record.{be, join}
use Rattle.output.proofs.Parts.{wrote_then, wrote_same}
use Rattle.writer.proofs.Numbers.{three_bytes, bytes_2}
use Rattle.writer.proofs.EntryItem.put.Goals as goal

pub returns : goal.returns
unfolding be join
returns c =
    wrote_then (wrote_same (three_bytes _ _ _ _) c.put.ensures)
    (wrote_same (bytes_2 _ (omega arith) c.to_be_bytes.ensures) c.put-2.ensures)
