-- `response::respond` meets its contract: its demand is that of task i. Assumes nothing.
use native.Mathlib.Omega.{arith}
use mathlib.Core.Path.{◌≡◌, sym, ap, ◌∙◌, subst}
use Prim.Native.Nat.{ℕ, ◌+◌}
use Rattle.std.specs.Prelude.{sum_by}
use Rattle.graph.specs.Model.{task, task_of}
use Rattle.graph.specs.declared.Task.{Task}
use Rattle.rules.specs.Terms.{cost_of}
use Rattle.tasks.proofs.Given.{task_is}
use Rattle.response.specs.Rivals.{asked, Searched}
use Rattle.response.proofs.Hindrance.{responds}
use Rattle.response.proofs.respond.Goals as goal

pub returns : goal.returns
returns c =
    λ g e.
    let mine : task_of c.list.result.now c.args.i ≡ task g c.args.i = sym (task_is g (e ∙ sym c.list.ensures.same) c.args.i) in
    let d : ℕ → ℕ = λ w. c.cost.result + sum_by (asked w) c.rivals_of-rivals.result in
    responds g c.args.i d
    (λ w. omega (arith, c.cost.ensures, ap cost_of mine, c.rivals_of-rivals.ensures g e w))
    c.search.result (subst (λ (t : Task). Searched d t.deadline c.search.result) mine c.search.ensures)
