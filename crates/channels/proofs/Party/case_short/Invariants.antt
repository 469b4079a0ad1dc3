-- What the loop of `channels::Party::case_short` keeps. Assumes nothing.
use Rattle.channels.proofs.Casing.{Ranked}
use Rattle.channels.proofs.Party.case_short.Given as goal

abbrev pub invariant-loop-wants : goal.invariant-loop-wants
invariant-loop-wants l = Ranked l.self l.giver l.stock l.step l.tick l.wants-index
