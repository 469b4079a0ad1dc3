-- `writer::put_rates` meets its contract: channel by channel. Assumes nothing.
use native.Mathlib.Omega.{arith}
use mathlib.Core.Path.{ap, sym, subst}
use mathlib.Core.List.{List}
use lib.ListN.{length}
use Rattle.graph.specs.Model.{Link}
use Rattle.format.specs.Record.{encodes}
use Rattle.format.specs.Writer.{rates_from}
use Rattle.output.specs.Cursor.{HasRoom}
use Rattle.output.proofs.Parts.{left_start, left_room, left_more, left_none, wrote_same}
use Rattle.writer.proofs.Links.{links_then, links_none}
use Rattle.writer.proofs.put_rates.Goals as goal

pub loop-i-init : goal.loop-i-init
loop-i-init c =
    left_start
    (subst (λ (cs : List Link). HasRoom c.args.to.now (length (encodes (rates_from 0 cs)))) (sym c.channels-channels.ensures.list) c.requires)

pub put_rates_of-requires-clause-room : goal.put_rates_of-requires-clause-room
put_rates_of-requires-clause-room c = left_room c.loop-i.invariant (links_then c.channels-channels.result.now c.loop-i.i _ (omega arith))

pub loop-i-preserved : goal.loop-i-preserved
loop-i-preserved c = left_more c.loop-i.invariant (links_then c.channels-channels.result.now c.loop-i.i _ (omega arith)) c.put_rates_of.ensures

pub returns : goal.returns
unfolding encodes
returns c =
    wrote_same (ap (λ (cs : List Link). encodes (rates_from 0 cs)) c.channels-channels.ensures.list)
    (left_none c.loop-i.invariant (ap encodes (links_none c.channels-channels.result.now c.loop-i.i (omega arith))))
