-- What the loop of `reader::hollow` keeps: no cycle of the channels before i is without entries. Assumes nothing.
use mathlib.Core.Path.{◌≡◌}
use mathlib.Core.List.{map}
use Prim.Native.Nat.{ℕ, ◌*◌, ◌<◌}
use Rattle.graph.specs.Model.{Graph}
use Rattle.graph.specs.Memory.{laid_link}
use Rattle.format.specs.Reader.{Hollow}
use Rattle.reader.proofs.hollow.Given as goal

abbrev pub invariant-loop-i : goal.invariant-loop-i
invariant-loop-i l = (g : Graph) → l.channels ≡ map laid_link g.channels → (j : ℕ) → j < 2 * l.i → ¬ Hollow g j
