-- `writer::put_rates_of` meets its contract: production and then consumption. Assumes nothing.
use Rattle.graph.specs.Memory.{view_link}
use Rattle.output.proofs.Parts.{room_first, room_then, wrote_both}
use Rattle.writer.proofs.Links.{link_then}
use Rattle.writer.proofs.put_rates_of.Goals as goal

pub put_side-requires-clause-room : goal.put_side-requires-clause-room
put_side-requires-clause-room c = room_first (link_then c.args.i (view_link c.args.c.now)) c.args.to.now c.requires.room

pub put_side-requires-2-clause-room : goal.put_side-requires-2-clause-room
put_side-requires-2-clause-room c =
    room_then (link_then c.args.i (view_link c.args.c.now)) c.args.to.now c.requires.room c.put_side.ensures

pub returns : goal.returns
returns c = wrote_both (link_then c.args.i (view_link c.args.c.now)) c.put_side.ensures c.put_side-2.ensures
