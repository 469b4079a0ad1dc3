-- `channels::Party::case_short` meets its contract: the taker's places before this one are tested. Assumes nothing.
use mathlib.Core.Path.{◌≡◌, ap, ◌∙◌}
use Prim.Native.Nat.{ℕ, ◌+◌, ◌-◌, ◌<◌}
use native.Mathlib.Omega.{arith}
use borrow.Author.Rules.{rules}
use lib.ListN.{length, get_or, take, drop}
use Rattle.std.proofs.lemmas.List.{length-take, length-drop}
use Rattle.channel.specs.Side as side
use Rattle.channel.specs.Stretches.{some_case}
use Rattle.channels.proofs.Tables.{Known, known, part_is}
use Rattle.channels.proofs.Casing.{tick_small, wants_small, rank_found, rank_more, rank_none}
use Rattle.channels.proofs.Party.case_short.Goals as goal
use Rattle.channels.proofs.Party.case_short.Goals.{In-loop-wants}

-- the taker's total up to this place of its cycle
module _ (c : In-loop-wants) where
  taker : Known c.self.inside c.args.self.now
  taker = known c.self.view_is c.self.invariant

  abbrev first : ℕ
  first = length c.self.inside.prefix.now + 1

  abbrev places : ℕ
  places = length c.self.inside.prefix.now + length c.self.inside.cycle.now + 1 - first

  abbrev wants : ℕ
  wants = get_or (take places (drop first c.self.inside.sums)) c.loop-wants.wants-index 0

  less : c.loop-wants.wants-index < length c.args.self.now.cycle
  less = omega (arith, c.loop-wants-test.true, length-take places (drop first c.self.inside.sums), ap length taker.cycle)

  is : wants ≡ side.total c.args.self.now (length c.args.self.now.prefix + 1 + c.loop-wants.wants-index)
  is =
      part_is taker _ _ _ (omega (arith, less, ap length taker.cycle)) (omega (arith, less, ap length taker.prefix))
      ∙ ap (λ x. side.total c.args.self.now (length x + 1 + c.loop-wants.wants-index)) taker.prefix

pub row_short-requires : goal.row_short-requires
row_short-requires c =
    let p = (goal.at.row_short-requires c).In-loop-wants in
    record {
      some_step = c.requires.some_step;
      step_most = c.requires.step_most;
      tick_most = omega (arith, tick_small _ _ _ _ _ _ c.loop-wants.invariant (taker p).limited (taker p).tabled.few (less p) _ (is p));
      wants_most = wants_small _ _ _ _ _ _ c.loop-wants.invariant (taker p).limited (taker p).tabled.few (less p) _ (is p);
    }

pub returns-then-row_short : goal.returns-then-row_short
unfolding some_case
returns-then-row_short c =
    let p = (goal.at.returns-then-row_short c).In-loop-wants in
    rank_found _ _ _ _ _ _ c.loop-wants.invariant _ (is p) (less p) _ c.row_short.ensures c.if-row_short.true

pub loop-wants-preserved : goal.loop-wants-preserved
loop-wants-preserved c =
    let p = (goal.at.loop-wants-preserved c).In-loop-wants in
    rw (taker p).period (rank_more _ _ _ _ _ _ c.loop-wants.invariant _ (is p) _ c.row_short.ensures c.if-row_short.false)

pub returns : goal.returns
unfolding some_case
returns c =
    let k = known c.self.view_is c.self.invariant in
    let n : length c.self.inside.sums ≡ 49 = search rules in
    let first : ℕ = length c.self.inside.prefix.now + 1 in
    rank_none _ _ _ _ _ _ c.loop-wants.invariant
    (omega (
      arith,
      c.loop-wants-test.false,
      length-take (length c.self.inside.prefix.now + length c.self.inside.cycle.now + 1 - first) (drop first c.self.inside.sums),
      length-drop first c.self.inside.sums,
      ap length k.cycle,
      ap length k.prefix,
      k.limited.prefix_most,
      k.limited.cycle_most,
    ))
