-- `writer::put_all` meets its contract: record by record. Assumes nothing.
use native.Mathlib.Omega.{arith}
use Rattle.output.proofs.Parts.{left_start, left_room, left_more, left_none}
use Rattle.writer.proofs.Rows.{from_more, from_none}
use Rattle.writer.proofs.put_all.Goals as goal

pub loop-item-init : goal.loop-item-init
loop-item-init g c = left_start c.requires

pub put-requires : goal.put-requires
put-requires g c = left_room c.loop-item.invariant (from_more g.T.Item.as_record c.args.items.now c.loop-item.item-index _ _ c.item-item.is (omega arith))

pub loop-item-preserved : goal.loop-item-preserved
loop-item-preserved g c = left_more c.loop-item.invariant (from_more g.T.Item.as_record c.args.items.now c.loop-item.item-index _ _ c.item-item.is (omega arith)) c.put.ensures

pub returns : goal.returns
returns g c = left_none c.loop-item.invariant (from_none g.T.Item.as_record c.args.items.now c.loop-item.item-index (omega arith))
