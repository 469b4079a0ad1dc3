-- `formed::formed` meets its contract: its counts and its places are what makes a graph well formed. Assumes nothing.
use Rattle.std.proofs.Common.{arith, ◌↔◌, IsTrue}
use Rattle.std.proofs.lemmas.Grind.{common_steps}
use Rattle.formed.proofs.Whole.{Told, well_told}
use Rattle.formed.proofs.formed.Goals as goal

pub returns-then-places-2 : goal.returns-then-places-2
returns-then-places-2 c =
    let h : IsTrue c.places-then-places-2.result ↔ Told c.args.graph.now = grind (arith, common_steps) in
    well_told c.args.graph.now h

pub returns-else-places-2 : goal.returns-else-places-2
returns-else-places-2 c =
    let h : IsTrue c.if-places.value ↔ Told c.args.graph.now = grind (arith, common_steps) in
    well_told c.args.graph.now h
