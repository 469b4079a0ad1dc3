-- `Formed::channels` meets its contract. Assumes nothing.
use Rattle.std.proofs.Common.{length, take, ap, subst, arith}
use Rattle.std.proofs.lemmas.List.{length-map}
use Rattle.numbers.specs.Lists.{All}
use Rattle.graph.specs.Model.{Graph}
use Rattle.graph.specs.Memory.{view, view_link}
use Rattle.formed.specs.Formed.{ChannelFormed}
use Rattle.format.proofs.Ranges.{formed_ranged}
use Rattle.formed.proofs.Counts.{counts, channels_formed}
use Rattle.formed.proofs.wellformed.Formed.channels.Goals as goal

pub shared_ref_as_front-result : goal.shared_ref_as_front-result
shared_ref_as_front-result c = (counts _ c.self.invariant).few_channels

pub returns-clause-list : goal.returns-clause-list
unfolding view
returns-clause-list c = ap (λ (m : Graph). m.channels) c.self.view_is

pub returns-clause-few : goal.returns-clause-few
unfolding view
returns-clause-few c =
    let g = c.self.inside.graph.now in
    omega (arith, length-map (take g.nchannels g.channels) view_link, (formed_ranged _ c.self.invariant.formed).few_channels)

pub returns-clause-formed : goal.returns-clause-formed
returns-clause-formed c =
    let g = c.self.inside.graph.now in
    subst (λ (m : Graph). All (ChannelFormed (length m.tasks)) (take g.nchannels g.channels)) c.self.view_is (channels_formed g c.self.invariant)
