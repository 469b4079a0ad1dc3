-- `relations::false_relation` meets its contract: the first relation that doesn't hold. Assumes nothing.
use Rattle.std.proofs.Common.{rules, tests}
use Rattle.std.proofs.lemmas.Iterator.{IsFirst-from_position, YieldsList-from_slice}
use Rattle.std.proofs.iter.Serving.{serving}
use Rattle.rules.specs.Rules.{Holds}
use Rattle.relations.proofs.Lookup.{each, first_fails}
use Rattle.relations.proofs.false_relation.Goals as goal

pub position-requires-clause-callable : goal.position-requires-clause-callable
position-requires-clause-callable c = let all = each _ _ c.requires in grind (serving, all)

pub returns : goal.returns
returns c =
    λ g e f. first_fails g f c.position.result
    (IsFirst-from_position _ _ c.position.result (λ r. ¬ Holds g r) (Holds g) c.position.ensures.ran (YieldsList-from_slice c.args.relations.now c.iter.ensures.rest) (λ x q k. search (rules, tests)) (λ x q k. (search rules, search (rules, tests))))
