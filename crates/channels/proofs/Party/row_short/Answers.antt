-- `channels::Party::row_short` meets its contract: the places before this one are tested. Assumes nothing.
use mathlib.Core.Path.{◌≡◌, ap, ◌∙◌}
use mathlib.Core.Bool.{false}
use Prim.Native.Nat.{ℕ, ◌+◌, ◌-◌, ◌<◌}
use native.Mathlib.Omega.{arith}
use borrow.Author.Rules.{rules}
use lib.ListN.{length, get_or, take, drop}
use Rattle.std.proofs.lemmas.List.{length-take, length-drop}
use Rattle.channel.specs.Side as side
use Rattle.channel.specs.Stretches.{short_at}
use Rattle.channels.proofs.Tables.{Known, known, part_is}
use Rattle.channels.proofs.Casing.{Row, Tested, tested, row_more, row_none}
use Rattle.channels.proofs.Party.row_short.Goals as goal
use Rattle.channels.proofs.Party.row_short.Goals.{In-loop-sum, else-before-self-via-then-before-self+else-has-span, else-before-self-via-else-before-self}

-- the giver's total at this place of its cycle, and what is known there
module _ (c : In-loop-sum) where
  giver : Known c.self.inside c.args.self.now
  giver = known c.self.view_is c.self.invariant

  row : Row c.args.step c.args.tick c.args.wants
  row = record { some_step = c.requires.some_step; step_most = c.requires.step_most; tick_most = c.requires.tick_most; wants_most = c.requires.wants_most }

  abbrev first : ℕ
  first = length c.self.inside.prefix.now

  abbrev places : ℕ
  places = first + length c.self.inside.cycle.now - first

  abbrev sum : ℕ
  sum = get_or (take places (drop first c.self.inside.sums)) c.loop-sum.sum-index 0

  less : c.loop-sum.sum-index < length c.args.self.now.cycle
  less = omega (arith, c.loop-sum-test.true, length-take places (drop first c.self.inside.sums), ap length giver.cycle)

  is : sum ≡ side.total c.args.self.now (length c.args.self.now.prefix + c.loop-sum.sum-index)
  is =
      part_is giver _ _ _ (omega (arith, less, ap length giver.cycle)) (omega (arith, less, ap length giver.prefix))
      ∙ ap (λ x. side.total c.args.self.now (length x + c.loop-sum.sum-index)) giver.prefix

  known_here : Tested c.args.self.now c.args.stock c.args.step c.args.tick c.args.wants c.loop-sum.end c.loop-sum.rest c.loop-sum.sum-index sum
  known_here =
      tested _ _ _ _ _ row _ _ _ c.loop-sum.invariant giver.limited giver.tabled.few
      (omega (arith, c.turn-turn.ensures.is, c.turn-turn.ensures.most)) (omega arith) less sum is

pub overflow_add-has : goal.overflow_add-has
overflow_add-has c = rw c.from.ensures (omega (arith, (known_here ((goal.at.overflow_add-has c).In-loop-sum)).has_small))

pub overflow_mul-has : goal.overflow_mul-has
overflow_mul-has c =
    rw (c.from.ensures, c.span-span.ensures) (omega (arith, (known_here ((goal.at.overflow_mul-has c).In-loop-sum)).has_fits))

pub overflow_add-has-then-before-self : goal.overflow_add-has-then-before-self
overflow_add-has-then-before-self c =
    let k = known_here ((goal.at.overflow_add-has-then-before-self c).In-loop-sum) in
    rw (c.from.ensures, c.span-span.ensures, c.turn-turn.ensures.is) (omega (arith, k.has_fits, k.time_fits))

pub overflow_add-wants : goal.overflow_add-wants
overflow_add-wants c =
    let k = known_here ((goal.at.overflow_add-wants c).In-loop-sum) in
    rw (c.span-span.ensures, c.turn-turn.ensures.is) (omega (arith, k.wants_fits, k.last_fits))

pub returns-then-has-span : goal.returns-then-has-span
returns-then-has-span c =
    let p = (goal.at.returns-then-has-span c).In-loop-sum in
    (known_here p).found (omega (arith, c.if-before-self.true, (giver p).period)) (rw (c.from.ensures, c.span-span.ensures, c.turn-turn.ensures.is) at c.if-has-span.true)

pub loop-sum-preserved : goal.loop-sum-preserved
loop-sum-preserved c =
    let p = (goal.at.loop-sum-preserved c).In-loop-sum in
    let none : short_at c.args.step c.args.self.now c.args.stock c.args.tick c.args.wants c.loop-sum.sum-index ≡ false =
    elim c.else-before-self.branch [
      | else-before-self-via-then-before-self+else-has-span w ↦
          (known_here p).not_lacking (omega (arith, w.if-before-self.true, (giver p).period)) (rw (c.from.ensures, c.span-span.ensures, c.turn-turn.ensures.is) at w.if-has-span.false)
      | else-before-self-via-else-before-self w ↦ (known_here p).not_late (omega (arith, w.if-before-self.false, (giver p).period))
    ] in
    rw (c.around-rest.ensures, (giver p).period) (row_more _ _ _ _ _ (row p) _ _ _ c.loop-sum.invariant none)

pub returns : goal.returns
returns c =
    let k = known c.self.view_is c.self.invariant in
    let n : length c.self.inside.sums ≡ 49 = search rules in
    let first : ℕ = length c.self.inside.prefix.now in
    row_none _ _ _ _ _ _ _ _ c.loop-sum.invariant
    (omega (
      arith,
      c.loop-sum-test.false,
      length-take (first + length c.self.inside.cycle.now - first) (drop first c.self.inside.sums),
      length-drop first c.self.inside.sums,
      ap length k.cycle,
      ap length k.prefix,
      k.limited.prefix_most,
      k.limited.cycle_most,
    ))
