-- `channels::Party::total` meets its contract. Assumes nothing.
use native.Mathlib.Omega.{arith}
use Rattle.channels.proofs.Tables.{listed, total_most, folded_turn}
use Rattle.channels.proofs.Party.total.Goals as goal

pub returns-then-m-all : goal.returns-then-m-all
returns-then-m-all c =
    let a = c.args in
    let k = c.self.invariant in
    rw (← c.self.view_is)
    record {
      is = k.tabled.at a.m (omega arith);
      most = omega (arith, k.tabled.at a.m (omega arith), total_most _ _ (listed k.limited) _ k.tabled a.m);
    }

pub overflow_add-result : goal.overflow_add-result
overflow_add-result c =
    let k = c.self.invariant in
    rw (c.turn.ensures.is, ← c.self.view_is)
    (omega (arith, folded_turn k c.args.m (omega arith), total_most _ _ (listed k.limited) _ k.tabled c.args.m))

pub returns : goal.returns
returns c =
    let k = c.self.invariant in
    let is = folded_turn k c.args.m (omega arith) in
    rw (c.turn.ensures.is, ← c.self.view_is)
    record { is = is; most = omega (arith, is, total_most _ _ (listed k.limited) _ k.tabled c.args.m) }
