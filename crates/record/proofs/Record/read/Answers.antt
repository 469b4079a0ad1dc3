-- `Record::read` meets its contract: field by field the record is the one that the body holds, and its tests are the rules'. Assumes nothing.
use mathlib.Core.Path.{◌≡◌, ap, subst, ◌∙◌}
use native.Mathlib.Omega.{arith}
use borrow.Author.Rules.{rules}
use mir.Facts.{to_z-of_z}
use mir.Syntax.{w32}
use Rattle.format.specs.Record.{unwrap}
use lib.ListN.{length}
use Rattle.ranges.proofs.InRange.{task_ranges, channel_ranges, relation_ranges}
use Rattle.format.specs.Reader.{count, limit}
use Rattle.record.specs.Fronts.{Judges}
use Rattle.record.proofs.Fields.{number_one, two, four, a_task_is, a_channel_is, a_rate_is, a_relation_is, as_unwrap}
use Rattle.record.proofs.Fronts.{through, rate_ranges, below}
use Rattle.record.proofs.Record.read.Goals as goal

pub returns-in-Task : goal.returns-in-Task
unfolding count limit
returns-in-Task c =
    let bs = c.args.bytes.now in
    let l : length bs ≡ 17 = rw c.in-Task.is at c.requires in
    λ s b.
    rw c.in-Task.is (subst (λ r. Judges s r c.tested.result) (a_task_is bs _ (four bs 0 c.from_be_bytes.ensures c.bytes_at.ensures (omega arith)) (four bs 4 c.from_be_bytes-in-Task.ensures c.bytes_at-in-Task.ensures (omega arith)) (four bs 8 c.from_be_bytes-in-Task-2.ensures c.bytes_at-in-Task-2.ensures (omega arith)) (four bs 12 c.from_be_bytes-in-Task-3.ensures c.bytes_at-in-Task-3.ensures (omega arith)) (number_one bs 16 (omega arith)))
    (c.tested.ensures s b.floors (λ v p. through (search rules) (task_ranges s.graph _)) (λ v p. through (search rules) (below c.args.behind.now.tasks 32 b.tasks))))

pub returns-in-Channel : goal.returns-in-Channel
unfolding count limit
returns-in-Channel c =
    let bs = c.args.bytes.now in
    let l : length bs ≡ 10 = rw c.in-Channel.is at c.requires in
    let f = c.type_inv.bytes in
    λ s b.
    rw c.in-Channel.is (subst (λ r. Judges s r c.tested-in-Channel.result) (a_channel_is bs _ _ _ _ (number_one bs 0 (omega arith)) (number_one bs 1 (omega arith)) (four bs 2 c.from_be_bytes-in-Channel.ensures c.bytes_at-in-Channel.ensures (omega arith)) (four bs 6 c.from_be_bytes-in-Channel-2.ensures c.bytes_at-in-Channel-2.ensures (omega arith)))
    (c.tested-in-Channel.ensures s b.floors (λ v p. through (rw b.tasks (search rules)) (channel_ranges s.graph _ _ _ _ (omega (arith, f 0)) (omega (arith, f 1)))) (λ v p. through (search rules) (below c.args.behind.now.channels 64 b.channels))))

pub returns-in-Rate : goal.returns-in-Rate
returns-in-Rate c =
    let bs = c.args.bytes.now in
    let l : length bs ≡ 5 = rw c.in-Rate.is at c.requires in
    let f = c.type_inv.bytes in
    λ s b.
    rw c.in-Rate.is (subst (λ r. Judges s r c.tested-in-Rate.result) (a_rate_is bs _ _ _ _ (number_one bs 0 (omega arith)) (number_one bs 1 (omega arith)) (number_one bs 2 (omega arith)) (two bs 3 c.from_be_bytes-in-Rate.ensures c.bytes_at-in-Rate.ensures (omega arith)))
    (c.tested-in-Rate.ensures s b.floors (λ v p. through (search rules) (rate_ranges s.graph _ _ b.channels (omega (arith, f 0)) (omega arith))) (λ v p. search rules)))

pub returns-in-Relation : goal.returns-in-Relation
unfolding count limit
returns-in-Relation c =
    let bs = c.args.bytes.now in
    let l : length bs ≡ 14 = rw c.in-Relation.is at c.requires in
    let f = c.type_inv.bytes in
    let z = c.cast_signed in
    λ s b.
    rw c.in-Relation.is (subst (λ r. Judges s r c.tested-in-Relation.result)
    (a_relation_is bs _ (number_one bs 0 (omega arith)) (number_one bs 1 (omega arith)) (four bs 2 c.from_be_bytes-in-Relation.ensures c.bytes_at-in-Relation.ensures (omega arith)) (to_z-of_z {w = w32} {z = z.result} (record { sfits = z.type_inv }) ∙ z.ensures ∙ as_unwrap _ ∙ ap unwrap (four bs 6 c.from_be_bytes-in-Relation-2.ensures c.bytes_at-in-Relation-2.ensures (omega arith))) (four bs 10 c.from_be_bytes-in-Relation-3.ensures c.bytes_at-in-Relation-3.ensures (omega arith)))
    (c.tested-in-Relation.ensures s b.floors (λ v p. through (rw b.tasks (search rules)) (relation_ranges s.graph _ (omega (arith, f 0)) (omega (arith, f 1)))) (λ v p. through (search rules) (below c.args.behind.now.relations 64 b.relations))))
