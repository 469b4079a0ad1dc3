-- What the loop of `channels::Party::first_short` keeps, and what falls. Assumes nothing.
use Prim.Native.Nat.{◌-◌}
use Rattle.channels.proofs.Stretching.{Stood}
use Rattle.channels.proofs.Party.first_short.Given as goal

abbrev pub invariant-loop-k : goal.invariant-loop-k
invariant-loop-k l = Stood l.self l.giver l.stock l.end l.ended l.k

abbrev pub decreases-loop-k : goal.decreases-loop-k
decreases-loop-k l = l.jobs - l.k
