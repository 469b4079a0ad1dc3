-- `relations::equations` meets its contract: where the machine's products are equal, the whole numbers' are. Assumes nothing.
use Rattle.std.proofs.Common.{eq-eqb, eqb-true, rules}
use Rattle.relations.proofs.Signed.{same_products}
use Rattle.relations.proofs.equations.Goals as goal

pub returns-then-from-n : goal.returns-then-from-n
returns-then-from-n c =
    let a = c.args in
    let s = c.requires in
    let same = same_products a.relation.now.n a.q.offset a.p.offset a.p.period a.relation.now.phi s.n s.q_offset s.p_offset s.p_period s.phi c.from-n.ensures c.from.ensures c.from-2.ensures c.from-3.ensures c.from-4.ensures in
    (λ e. (search rules, same.0 (eqb-true _ _ e)), λ e. eq-eqb _ _ (same.1 e.1))
