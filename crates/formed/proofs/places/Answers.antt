-- `formed::places` meets its contract: both halves pass their tests. Assumes nothing.
use Rattle.std.proofs.Common.{arith, ◌↔◌, ◌≡◌, IsTrue, All, take, drop}
use Rattle.std.proofs.lemmas.Grind.{common_steps}
use Rattle.formed.proofs.Parts.{places_told}
use Rattle.formed.proofs.places.Goals as goal

pub returns-then-all : goal.returns-then-all
returns-then-all g c =
    let xs = c.args.items.now in
    let P = g.T.Entry.Fits c.args.count in
    let z = g.T.Entry.NONE in
    let n = c.args.n in
    let law = g.met.T.Entry.eq_is_same in
    let h : IsTrue c.all-then-all.result ↔ (All (g.T.Entry.Fits c.args.count) (take c.args.n c.args.items.now) × All (λ x. x ≡ g.T.Entry.NONE) (drop c.args.n c.args.items.now)) = grind (arith, common_steps) in
    places_told P z n xs c.requires h
