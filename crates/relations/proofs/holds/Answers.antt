-- `relations::holds` meets its contract: both numbers find their tasks, and the equations over them are the relation's. Assumes nothing.
use mathlib.Core.Path.{sym, ◌∙◌}
use Rattle.relations.proofs.Lookup.{finds, equations_hold}
use Rattle.relations.proofs.holds.Goals as goal

pub returns : goal.returns
returns c =
    λ g e.
    let same = c.list-list.ensures.same in
    let r = c.args.relation.now in
    let found = c.in-Some-Some in
    let first = finds c.list-list.result.now r.p found.p (rw same c.requires.p) (rw (sym c.from.ensures) found.ensures) in
    let second = finds c.list-list.result.now r.q found.q (rw same c.requires.q) (rw (sym c.from-2.ensures) found.ensures') in
    let k = equations_hold c.list-list.result.now found.p found.q r first second g (e ∙ sym same) in
    (λ t. k.0 (c.equations.ensures.0 t), λ h. c.equations.ensures.1 (k.1 h))
