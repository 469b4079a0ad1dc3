-- The record of a relation: field by field. Assumes nothing.
use native.Mathlib.Omega.{arith}
use mir.Syntax.{w32}
use mir.Val.{SFits}
use Rattle.format.specs.Record.{be, join}
use Rattle.output.proofs.Parts.{wrote_then, wrote_same}
use Rattle.writer.proofs.Numbers.{two_bytes, bytes_4, signed_4}
use Rattle.writer.proofs.RelationItem.put.Goals as goal

pub returns : goal.returns
unfolding be join
returns c =
    let f : SFits w32 c.args.self.now.phi = record { sfits = omega arith } in
    wrote_then (wrote_same (two_bytes _ _ _) c.put.ensures)
    (wrote_then (wrote_same (bytes_4 _ (omega arith) c.to_be_bytes.ensures) c.put-2.ensures)
    (wrote_then (wrote_same (signed_4 _ f c.cast_unsigned.ensures c.to_be_bytes-2.ensures) c.put-3.ensures)
    (wrote_same (bytes_4 _ (omega arith) c.to_be_bytes-3.ensures) c.put-4.ensures)))
