-- `channels::Party::first_above` meets its contract. Assumes nothing.
use native.Mathlib.Omega.{arith}
use Rattle.channels.proofs.Tables.{mid_in, halved_low}
use Rattle.channels.proofs.Party.first_above.Goals as goal

pub loop-low-preserved : goal.loop-low-preserved
loop-low-preserved c =
    let l = c.loop-low in
    let inside = mid_in l.low l.high c.loop-low-test.true in
    halved_low _ _ _ _ _ _ l.invariant _ inside.0 inside.1 (omega (arith, c.total.ensures.is))
