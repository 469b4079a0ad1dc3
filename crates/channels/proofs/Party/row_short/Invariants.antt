-- What the loop of `channels::Party::row_short` keeps. Assumes nothing.
use Rattle.channels.proofs.Casing.{Rowed}
use Rattle.channels.proofs.Party.row_short.Given as goal

abbrev pub invariant-loop-sum : goal.invariant-loop-sum
invariant-loop-sum l = Rowed l.self l.stock l.step l.tick l.wants l.end l.rest l.sum-index
