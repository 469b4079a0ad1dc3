-- `writer::put_side` meets its contract: prefix and then cycle. Assumes nothing.
use Rattle.graph.specs.Memory.{view_rates}
use Rattle.output.proofs.Parts.{room_first, room_then, wrote_both}
use Rattle.writer.proofs.Links.{side_then}
use Rattle.writer.proofs.put_side.Goals as goal

pub put_list-requires : goal.put_list-requires
put_list-requires c = room_first (side_then c.args.channel c.args.side (view_rates c.args.s.now)) c.args.to.now c.requires.room

pub put_list-requires-2 : goal.put_list-requires-2
put_list-requires-2 c =
    room_then (side_then c.args.channel c.args.side (view_rates c.args.s.now)) c.args.to.now c.requires.room c.put_list.ensures

pub returns : goal.returns
returns c = wrote_both (side_then c.args.channel c.args.side (view_rates c.args.s.now)) c.put_list.ensures c.put_list-2.ensures
