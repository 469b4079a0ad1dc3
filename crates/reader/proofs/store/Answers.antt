-- `reader::store` meets its contract: by the record's kind. Assumes nothing.
use mathlib.Core.Path.{◌≡◌}
use native.Mathlib.Omega.{arith}
use borrow.Author.Rules.{rules}
use mathlib.Core.Path.{ap}
use mathlib.Core.List.{map}
use Prim.Native.Nat.{◌<◌}
use lib.ListN.{length, length-map}
use Rattle.graph.specs.Memory.{Memory, laid_link, zero_link, laid}
use Rattle.reader.proofs.Stored.{pad_places, stores_task, stores_channel, stores_relation, stores_production, stores_consumption}
use Rattle.reader.proofs.store.Goals as goal

pub returns-in-Task : goal.returns-in-Task
returns-in-Task c = λ g e names. rw c.in-Task.is (stores_task c.args.graph.now g e _ c.in-Task.task _ _ c.append.ensures)

pub returns-in-Channel : goal.returns-in-Channel
returns-in-Channel c =
    λ g e names. rw c.in-Channel.is (stores_channel c.args.graph.now g e _ c.in-Channel.head _ _ (rw c.bare.ensures at c.append-in-Channel.ensures))

pub returns-in-Relation : goal.returns-in-Relation
returns-in-Relation c =
    λ g e names. rw c.in-Relation.is (stores_relation c.args.graph.now g e _ c.in-Relation.relation _ _ c.append-in-Relation.ensures)

pub bounds-graph-from : goal.bounds-graph-from
unfolding laid
bounds-graph-from c =
    let (g, e, names) = c.requires in
    let full : length c.args.graph.now.channels ≡ 64 = search rules in
    let h : c.in-Rate.entry.channel < length g.channels = rw c.in-Rate.is at names in
    let p = pad_places 64 zero_link (map laid_link g.channels) in
    omega (arith, length-map g.channels laid_link, ap (λ (n : Memory). length n.channels) e)

pub returns-in-0 : goal.returns-in-0
returns-in-0 c =
    λ g e names.
    rw c.in-Rate.is (stores_production c.args.graph.now g e c.in-Rate.entry (rw c.in-Rate.is at names) c.from.result c.from.ensures _ c.push.new.side c.push.result c.in-0.is c.push.ensures)

pub returns-in_default : goal.returns-in_default
returns-in_default c =
    λ g e names.
    rw c.in-Rate.is (stores_consumption c.args.graph.now g e c.in-Rate.entry (rw c.in-Rate.is at names) c.from.result c.from.ensures _ c.push-in_default.new.side c.push-in_default.result (λ z. absurd (omega arith)) c.push-in_default.ensures)
