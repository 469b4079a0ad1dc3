-- `Formed::relations` meets its contract. Assumes nothing.
use Rattle.std.proofs.Common.{length, take, ap, subst}
use Rattle.numbers.specs.Lists.{All}
use Rattle.graph.specs.Model.{Graph}
use Rattle.graph.specs.Memory.{view}
use Rattle.format.specs.Ranges.{RelationRange}
use Rattle.format.proofs.Ranges.{formed_ranged}
use Rattle.formed.proofs.Counts.{counts}
use Rattle.formed.proofs.wellformed.Formed.relations.Goals as goal

pub shared_ref_as_front-result : goal.shared_ref_as_front-result
shared_ref_as_front-result c = (counts _ c.self.invariant).few_relations

pub returns-clause-list : goal.returns-clause-list
unfolding view
returns-clause-list c = ap (λ (m : Graph). m.relations) c.self.view_is

pub returns-clause-few : goal.returns-clause-few
unfolding view
returns-clause-few c = (formed_ranged _ c.self.invariant.formed).few_relations

pub returns-clause-in_range : goal.returns-clause-in_range
unfolding view
returns-clause-in_range c =
    let g = c.self.inside.graph.now in
    subst (λ (m : Graph). All (RelationRange (length m.tasks)) (take g.nrelations g.relations)) c.self.view_is (formed_ranged _ c.self.invariant.formed).relations
