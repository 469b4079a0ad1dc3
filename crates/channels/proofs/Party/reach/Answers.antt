-- `channels::Party::reach` meets its contract. Assumes nothing.
use mathlib.Core.Path.{◌≡◌, ap₂, ◌∙◌}
use Prim.Native.Nat.{◌+◌, ◌*◌, ◌/◌}
use native.Mathlib.Omega.{arith}
use Rattle.channel.specs.Side.{jobs}
use Rattle.channel.specs.Stretches.{some_case}
use Rattle.channels.proofs.Tables.{Known, known}
use Rattle.channels.proofs.Deciding.{product_most, some_step, step_most, reach_all, reach_first}
use Rattle.channels.proofs.Party.reach.Goals as goal
use Rattle.channels.proofs.Party.reach.Goals.{After-giver}

module _ (c : After-giver) where
  taker : Known c.self.inside c.args.self.now
  taker = known c.self.view_is c.self.invariant

  giver : Known c.giver.inside c.args.giver.now
  giver = known c.giver.view_is c.giver.invariant

  -- so many decide
  all_is : c.first-first.result + c.args.length / c.self.inside.period ≡ jobs c.args.length c.args.self.now c.args.giver.now
  all_is = ap₂ (λ x y. x + c.args.length / y) c.first-first.ensures.is taker.period

pub returns-then-all-cases : goal.returns-then-all-cases
returns-then-all-cases c =
    let p = (goal.at.returns-then-all-cases c).After-giver in
    reach_all _ _ (taker p).limited (giver p).limited _ c.requires _ _ (all_is p)

pub overflow_mul-step : goal.overflow_mul-step
overflow_mul-step c =
    let p = (goal.at.overflow_mul-step c).After-giver in
    rw (c.span.ensures, c.span-2.ensures) (omega (arith, product_most _ _ (taker p).limited (giver p).limited _ c.requires))

pub case_short-requires : goal.case_short-requires
case_short-requires c =
    let p = (goal.at.case_short-requires c).After-giver in
    rw (c.span.ensures, c.span-2.ensures)
    record {
      some_step = some_step _ _ (taker p).limited (giver p).limited _ c.requires;
      step_most = step_most _ _ (taker p).limited (giver p).limited _ c.requires;
    }

pub returns-then-case_short : goal.returns-then-case_short
returns-then-case_short c =
    let p = (goal.at.returns-then-case_short c).After-giver in
    reach_all _ _ (taker p).limited (giver p).limited _ c.requires _ _ (all_is p)

pub returns-else-case_short : goal.returns-else-case_short
returns-else-case_short c =
    let p = (goal.at.returns-else-case_short c).After-giver in
    reach_first _ _ (taker p).limited (giver p).limited _ c.requires _ _
    (c.case_short.ensures ∙ ap₂ (λ x y. some_case (x * y / c.args.length) c.args.self.now c.args.giver.now c.args.stock) c.span.ensures c.span-2.ensures)
    c.if-case_short.false _ c.first-first.ensures.is
