-- `writer::entries_of` meets its contract: channel by channel. Assumes nothing.
use native.Mathlib.Omega.{arith}
use mathlib.Core.Path.{ap}
use lib.ListN.{length}
use mathlib.Core.List.{List}
use Rattle.graph.specs.Model.{Link}
use Rattle.format.specs.Writer.{rates_from}
use Rattle.writer.proofs.Links.{links_few, links_count, links_none}
use Rattle.writer.proofs.Whole.{links_fit}
use Rattle.writer.proofs.entries_of.Goals as goal

pub overflow_add-total-in-loop-c : goal.overflow_add-total-in-loop-c
overflow_add-total-in-loop-c c =
    let n = links_count c.channels-channels.result.now (links_fit _ _ c.channels-channels.ensures.formed) c.loop-c.c-index (omega arith) in
    omega (arith, links_few 0 c.channels-channels.result.now (links_fit _ _ c.channels-channels.ensures.formed))

pub overflow_add-total-in-loop-c-3 : goal.overflow_add-total-in-loop-c-3
overflow_add-total-in-loop-c-3 c =
    let n = links_count c.channels-channels.result.now (links_fit _ _ c.channels-channels.ensures.formed) c.loop-c.c-index (omega arith) in
    omega (arith, links_few 0 c.channels-channels.result.now (links_fit _ _ c.channels-channels.ensures.formed))

pub loop-c-preserved : goal.loop-c-preserved
loop-c-preserved c =
    let n = links_count c.channels-channels.result.now (links_fit _ _ c.channels-channels.ensures.formed) c.loop-c.c-index (omega arith) in
    omega arith

pub returns : goal.returns
returns c =
    let e = ap (λ (l : List Link). length (rates_from 0 l)) c.channels-channels.ensures.list in
    omega (arith, ap length (links_none c.channels-channels.result.now c.loop-c.c-index (omega arith)))
