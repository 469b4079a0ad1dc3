-- `writer::put_list` meets its contract: record by record. Assumes nothing.
use mathlib.Core.Path.{refl}
use native.Mathlib.Omega.{arith}
use Rattle.format.specs.Record.{rate}
use Rattle.output.proofs.Parts.{left_start, left_room, left_more, left_none}
use Rattle.writer.proofs.Rows.{from_more, from_none}
use Rattle.writer.proofs.put_list.Goals as goal

pub loop-tokens-init : goal.loop-tokens-init
loop-tokens-init c = left_start c.requires

pub put-requires : goal.put-requires
put-requires c = left_room c.loop-tokens.invariant (from_more (rate c.args.channel c.args.side c.args.part) c.args.list.now c.loop-tokens.tokens-index _ _ refl (omega arith))

pub loop-tokens-preserved : goal.loop-tokens-preserved
loop-tokens-preserved c = left_more c.loop-tokens.invariant (from_more (rate c.args.channel c.args.side c.args.part) c.args.list.now c.loop-tokens.tokens-index _ _ refl (omega arith)) c.put.ensures

pub returns : goal.returns
returns c = left_none c.loop-tokens.invariant (from_none (rate c.args.channel c.args.side c.args.part) c.args.list.now c.loop-tokens.tokens-index (omega arith))
