-- What the loop of `channels::common` keeps, and what falls. Assumes nothing.
use Rattle.channels.proofs.Multiples.{Reduced}
use Rattle.channels.proofs.common.Given as goal

abbrev pub invariant-loop-rest : goal.invariant-loop-rest
invariant-loop-rest l = Reduced l.a l.b l.x l.y l.rest

abbrev pub decreases-loop-rest : goal.decreases-loop-rest
decreases-loop-rest l = l.y
