-- `formed::side_formed` meets its contract: its parts are what makes a side formed. Assumes nothing.
use Rattle.std.proofs.Common.{rules, arith, ◌↔◌, IsTrue}
use Rattle.std.proofs.lemmas.Grind.{common_steps}
use Rattle.formed.proofs.Parts.{SideParts, side_told}
use Rattle.formed.proofs.side_formed.Goals as goal

pub returns-then-zeros : goal.returns-then-zeros
returns-then-zeros c =
    let h : IsTrue c.zeros-then-zeros.result ↔ SideParts c.args.s.now = grind (arith, common_steps) in
    side_told c.args.s.now (search rules) (search rules) (λ i h. search rules) (λ i h. search rules) h

pub returns-else-zeros : goal.returns-else-zeros
returns-else-zeros c =
    let h : IsTrue c.if-contains.value ↔ SideParts c.args.s.now = grind (arith, common_steps) in
    side_told c.args.s.now (search rules) (search rules) (λ i h. search rules) (λ i h. search rules) h
