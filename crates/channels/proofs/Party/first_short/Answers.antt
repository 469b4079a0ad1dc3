-- `channels::Party::first_short` meets its contract: no job below k is short, and the giver's jobs that are counted have ended. Assumes nothing.
use mathlib.Core.Path.{◌≡◌, ap, ap₂, ◌∙◌}
use Prim.Native.Nat.{◌+◌, ◌*◌, ◌-◌, ◌≤◌}
use native.Mathlib.Omega.{arith}
use Rattle.channel.specs.Side as side
use Rattle.channels.specs.Answers.{passed_of}
use Rattle.channels.proofs.Tables.{Known, known}
use Rattle.channels.proofs.Stretching.{Searchable, release_most, ended_most, end_most, first_here, stood_on, counted, counted_next}
use Rattle.channels.proofs.Party.first_short.Goals as goal
use Rattle.channels.proofs.Party.first_short.Goals.{After-passed-more, After-from}

-- behind the first count: the giver's jobs that have ended by k's release
module _ (c : After-passed-more) where
  taker : Known c.self.inside c.args.self.now
  taker = known c.self.view_is c.self.invariant

  giver : Known c.giver.inside c.args.giver.now
  giver = known c.giver.view_is c.giver.invariant

  fit : Searchable c.args.self.now c.args.giver.now c.args.jobs
  fit = record { taker = taker.limited; giver = giver.limited; jobs_most = c.requires }

  soon : side.release c.args.self.now c.loop-k.k ≤ 2_179_666_000_000
  soon = release_most _ _ _ fit c.loop-k.k c.loop-k-test.true

  is_q : c.loop-k.ended + c.passed-more.result ≡ passed_of (c.args.giver.now.offset + c.args.giver.now.window) c.args.giver.now.period (side.release c.args.self.now c.loop-k.k)
  is_q =
      counted _ _ _ fit c.loop-k.k c.loop-k-test.true _ _ _ c.loop-k.invariant _
      (c.passed-more.ensures ∙ ap (λ y. passed_of c.loop-k.end c.args.giver.now.period y) c.release-release.ensures)

  few : c.loop-k.ended + c.passed-more.result ≤ 2_179_666_000_000
  few = ended_most _ _ _ fit c.loop-k.k c.loop-k-test.true _ is_q

  -- the next end
  ends : c.loop-k.end + c.passed-more.result * c.giver.inside.period ≡ side.end c.args.giver.now (c.loop-k.ended + c.passed-more.result)
  ends = rw giver.period (omega (arith, c.loop-k.invariant.ends))

  ends_most : c.loop-k.end + c.passed-more.result * c.giver.inside.period ≤ 2_179_670_000_000
  ends_most = omega (arith, ends, end_most _ _ _ fit c.loop-k.k c.loop-k-test.true _ is_q)

pub passed-requires : goal.passed-requires
passed-requires c =
    let p = (goal.at.passed-requires c).After-passed-more in
    record {
      first_near = omega (arith, c.release-release.ensures, soon p, c.self.invariant.limited.period_most);
      tick_near = omega (arith, ends_most p);
    }

pub total-requires : goal.total-requires
total-requires c = omega (arith, few ((goal.at.total-requires c).After-passed-more))

-- behind the second: the taker's jobs that are released before the next end
module _ (c : After-from) where
  abbrev before : After-passed-more
  before = (goal.at.total-requires c).After-passed-more

  is_n :
      c.loop-k.k + 1 + c.passed.result
      ≡ passed_of c.args.self.now.offset c.args.self.now.period (side.end c.args.giver.now (c.loop-k.ended + c.passed-more.result) - 1)
  is_n =
      counted_next _ _ _ (fit before) c.loop-k.k c.loop-k-test.true _ (is_q before) _
      (c.passed.ensures
      ∙ ap₂ (λ x y. passed_of (x + y) c.args.self.now.period (c.loop-k.end + c.passed-more.result * c.giver.inside.period - 1)) c.release-release.ensures (taker before).period
      ∙ ap (λ z. passed_of (side.release c.args.self.now c.loop-k.k + c.args.self.now.period) c.args.self.now.period (z - 1)) (ends before))

pub returns-then-have-total : goal.returns-then-have-total
returns-then-have-total c =
    let p = (goal.at.returns-then-have-total c).After-from in
    first_here _ _ _ (fit (before p)) c.loop-k.k c.loop-k-test.true _ (is_q (before p)) _ (is_n p)
    _ _ (ap₂ (λ x y. x + y) c.from.ensures c.total.ensures.is) c.loop-k.invariant.quiet _ c.first_above.ensures

pub loop-k-preserved : goal.loop-k-preserved
loop-k-preserved c =
    let p = (goal.at.loop-k-preserved c).After-from in
    stood_on _ _ _ (fit (before p)) c.loop-k.k c.loop-k-test.true _ (is_q (before p)) _ (is_n p)
    _ _ (ap₂ (λ x y. x + y) c.from.ensures c.total.ensures.is) c.loop-k.invariant.quiet _ (ends (before p)) (omega (arith, c.if-have-total.false, c.total-in-loop-k.ensures.is))
