-- `channels::Party::passed` meets its contract. Assumes nothing.
use mathlib.Core.Path.{sym}
use native.Mathlib.Nat.{div-eq_of_lt-le}
use native.Mathlib.Omega.{arith}
use Rattle.channels.proofs.Party.passed.Goals as goal

pub returns-then-tick-first : goal.returns-then-tick-first
returns-then-tick-first c =
    rw (← c.self.view_is) (sym (div-eq_of_lt-le {k = 0} c.self.inside.period (omega arith) (omega arith)))

pub returns-then-tick-first-2 : goal.returns-then-tick-first-2
returns-then-tick-first-2 c =
    rw (← c.self.view_is) (sym (div-eq_of_lt-le {k = 1} c.self.inside.period (omega arith) (omega arith)))
