-- `channels::Party::turn` meets its contract. Assumes nothing.
use native.Mathlib.Omega.{arith}
use Rattle.channels.proofs.Tables.{listed, rises, turn_is, turn_most}
use Rattle.channels.proofs.Party.turn.Goals as goal

pub overflow_sub-result : goal.overflow_sub-result
overflow_sub-result c = let k = c.self.invariant in rises _ _ (listed k.limited) _ k.tabled

pub returns : goal.returns
returns c =
    let k = c.self.invariant in
    let is = turn_is _ _ (listed k.limited) _ k.tabled in
    rw (← c.self.view_is)
    record { is = is; most = omega (arith, is, turn_most _ _ (listed k.limited) _ k.tabled, k.limited.cycle_most) }
