-- What the loop of `channels::totals` keeps. Assumes nothing.
use Rattle.channels.proofs.Tables.{Filled}
use Rattle.channels.proofs.totals.Given as goal

abbrev pub invariant-loop-job : goal.invariant-loop-job
invariant-loop-job l = Filled l.prefix l.cycle l.sums l.sum l.job
