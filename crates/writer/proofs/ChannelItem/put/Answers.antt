-- The record of a channel: field by field. Assumes nothing.
use native.Mathlib.Omega.{arith}
use Rattle.format.specs.Record.{be, join}
use Rattle.output.proofs.Parts.{wrote_then, wrote_same}
use Rattle.writer.proofs.Numbers.{two_bytes, bytes_4}
use Rattle.writer.proofs.ChannelItem.put.Goals as goal

pub returns : goal.returns
unfolding be join
returns c =
    wrote_then (wrote_same (two_bytes _ _ _) c.put.ensures)
    (wrote_then (wrote_same (bytes_4 _ (omega arith) c.to_be_bytes.ensures) c.put-2.ensures)
    (wrote_same (bytes_4 _ (omega arith) c.to_be_bytes-2.ensures) c.put-3.ensures))
