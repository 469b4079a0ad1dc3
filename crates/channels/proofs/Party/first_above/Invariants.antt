-- What the loop of `channels::Party::first_above` keeps, and what falls. Assumes nothing.
use Prim.Native.Nat.{◌-◌}
use Rattle.channels.proofs.Tables.{Halved}
use Rattle.channels.proofs.Party.first_above.Given as goal

abbrev pub invariant-loop-low : goal.invariant-loop-low
invariant-loop-low l = Halved l.self l.have l.from l.to l.low l.high

abbrev pub decreases-loop-low : goal.decreases-loop-low
decreases-loop-low l = l.high - l.low
