-- The tests of one channel, put together. Assumes nothing.
use mathlib.Core.Path.{◌≡◌, sym, subst, ◌∙◌}
use mathlib.Core.Bool.{Bool, true, false}
use Prim.Native.Nat.{ℕ, ◌*◌, ◌/◌, min, ◌≤◌, ◌<◌}
use native.Mathlib.Nat.{mul-le-mul_left, le-min, min-le_left, min-le_right, div-lt_iff_lt-mul}
use native.Mathlib.Omega.{arith}
use borrow.Author.Tests.{eqb-true, eqb-false}
use lib.Dec.{eqb}
use lib.ListN.{length}
use Rattle.std.proofs.Common.{Option, Some}
use Rattle.channel.specs.Side.{Side, turn, span}
use Rattle.channel.specs.Channel.{Balanced}
use Rattle.channel.specs.Judge.{IsLcm, lcm}
use Rattle.channel.proofs.Least.{lcm_is, lcm_swap}
use Rattle.channels.specs.Sides.{Limited}
use Rattle.channels.specs.Answers.{Measured, ComesRound}
use Rattle.channels.proofs.Deciding.{span_some}

-- a length in periods is at most as many in the smaller of two
by_period : (L p least : ℕ) → 0 < least → least ≤ p → L / least ≤ 65536 → L / p ≤ 65536
by_period L p least some h few =
    let below : L < 65537 * p =
    omega (arith, (div-lt_iff_lt-mul {k = least} {x = L} {y = 65537} some).0 (omega arith), mul-le-mul_left 65537 h) in
    omega (arith, (div-lt_iff_lt-mul {k = p} {x = L} {y = 65537} (omega arith)).1 below)

-- what is measured of numbers is measured of what they are
pub measured_of : {a b least x y z : ℕ} (r : Option ℕ) → Measured a b least r → a ≡ x → b ≡ y → least ≡ z → Measured x y z r
measured_of r m ea eb el = rw (ea, eb, el) at m

module _ (p c : Side) (producer : Limited p) (consumer : Limited c) (balanced : Balanced p c) (L : ℕ) (r : Option ℕ)
    (measured : Measured (span p) (span c) (min p.period c.period) r) (some : r ≡ Some L) where
  is : (L ≡ lcm (span p) (span c)) × (lcm (span p) (span c) / min p.period c.period ≤ 65536)
  is = subst (λ x. Measured (span p) (span c) (min p.period c.period) x) some measured

  some_least : 0 < min p.period c.period
  some_least = le-min (omega arith) (omega arith)

  l_is : IsLcm (span p) (span c) L
  l_is = rw is.0 (lcm_is (span p) (span c) (span_some p producer) (span_some c consumer))

  few : (t : ℕ) → min p.period c.period ≤ t → L / t ≤ 65536
  few t h = rw is.0 (by_period (lcm (span p) (span c)) t (min p.period c.period) some_least h is.1)

  -- either side may be searched as the taker
  pub under_asks : ComesRound c p L
  under_asks =
      record { balanced = sym balanced; least = lcm_swap _ _ _ l_is; length_most = few c.period (min-le_right p.period c.period) }

  pub over_asks : ComesRound p c L
  over_asks = record { balanced = balanced; least = l_is; length_most = few p.period (min-le_left p.period c.period) }

-- the test of balance, as a comparison of numbers: where they are equal the channel is in balance, and where not, not; the contract of `balanced` says both
pub in_balance : (p c : Side) (b : Bool) → b ≡ eqb (turn p * length c.cycle * c.period) (turn c * length p.cycle * p.period) → b ≡ true → Balanced p c
in_balance p c b e t = eqb-true _ _ (sym e ∙ t)

pub off_balance : (p c : Side) (b : Bool) → b ≡ eqb (turn p * length c.cycle * c.period) (turn c * length p.cycle * p.period) → b ≡ false → ¬ Balanced p c
off_balance p c b e t = eqb-false _ _ (sym e ∙ t)
