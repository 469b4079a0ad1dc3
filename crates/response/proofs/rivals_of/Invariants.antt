-- What is gathered of the tasks passed. Assumes nothing.
use Rattle.response.proofs.Hindrance.{Gathered}
use Rattle.response.proofs.rivals_of.Given as goal

abbrev pub invariant-loop-other : goal.invariant-loop-other
invariant-loop-other l = Gathered l.list l.i l.rivals.items l.other-index
