-- `writer::put_graph` meets its contract: sort by sort. Assumes nothing.
use mathlib.Core.Path.{refl}
use Rattle.output.proofs.Parts.{Left, left_start, left_room, left_more, left_none}
use Rattle.writer.proofs.Whole.{tasks_then, heads_then, rates_then, relations_then}
use Rattle.writer.proofs.put_graph.Goals as goal

pub put_all-requires : goal.put_all-requires
put_all-requires c =
    let g = c.args.graph.now in
    let l : Left c.args.to.now _ _ _ = left_start c.requires in
    left_room l (tasks_then g c.tasks.ensures.list)

pub put_all-requires-2 : goal.put_all-requires-2
put_all-requires-2 c =
    let g = c.args.graph.now in
    let l : Left c.args.to.now _ _ _ = left_start c.requires in
    let m = left_more l (tasks_then g c.tasks.ensures.list) c.put_all.ensures in
    left_room m (heads_then g _ c.channels.ensures.list)

pub put_rates-requires : goal.put_rates-requires
put_rates-requires c =
    let g = c.args.graph.now in
    let l : Left c.args.to.now _ _ _ = left_start c.requires in
    let m = left_more l (tasks_then g c.tasks.ensures.list) c.put_all.ensures in
    let n = left_more m (heads_then g _ c.channels.ensures.list) c.put_all-2.ensures in
    left_room n (rates_then g)

pub put_all-requires-3 : goal.put_all-requires-3
put_all-requires-3 c =
    let g = c.args.graph.now in
    let l : Left c.args.to.now _ _ _ = left_start c.requires in
    let m = left_more l (tasks_then g c.tasks.ensures.list) c.put_all.ensures in
    let n = left_more m (heads_then g _ c.channels.ensures.list) c.put_all-2.ensures in
    let o = left_more n (rates_then g) c.put_rates.ensures in
    left_room o (relations_then g c.relations.ensures.list)

pub returns : goal.returns
returns c =
    let g = c.args.graph.now in
    let l : Left c.args.to.now _ _ _ = left_start c.requires in
    let m = left_more l (tasks_then g c.tasks.ensures.list) c.put_all.ensures in
    let n = left_more m (heads_then g _ c.channels.ensures.list) c.put_all-2.ensures in
    let o = left_more n (rates_then g) c.put_rates.ensures in
    left_none (left_more o (relations_then g c.relations.ensures.list) c.put_all-3.ensures) refl
