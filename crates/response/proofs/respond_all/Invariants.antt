-- The figures of the tasks passed are their response times. Assumes nothing.
use mathlib.Core.Path.{◌≡◌}
use lib.ListN.{length, get_or}
use Prim.Native.Nat.{ℕ, ◌<◌}
use Rattle.machine.specs.Machine.{IsResponse}
use Rattle.rules.specs.Given.{Of}
use Rattle.rules.specs.Terms.{machine}
use Rattle.response.proofs.respond_all.Given as goal

abbrev pub invariant-loop-i : goal.invariant-loop-i
invariant-loop-i l = (length l.figure-items ≡ l.n) × Of l.tasks (λ g. (k : ℕ) → k < l.i → IsResponse (machine g) k (get_or l.figure-items k 0))
