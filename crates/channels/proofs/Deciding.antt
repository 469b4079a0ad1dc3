-- The jobs before `first` and the cases decide all. Assumes nothing.
use mathlib.Core.Path.{◌≡◌, sym, ◌∙◌}
use mathlib.Core.Bool.{Bool, false}
use Prim.Native.Nat.{ℕ, ◌*◌, ◌≤◌}
use native.Mathlib.Nat.{mul-le-mul, mul-pos}
use native.Mathlib.Omega.{arith}
use Rattle.numbers.proofs.Sums.{cases}
use Rattle.channel.specs.Side.{Side, span, first, jobs}
use Rattle.channel.specs.Cases.{step}
use Rattle.channel.specs.Stretches.{some_case}
use Rattle.channel.proofs.Periodic.{decided, jobs_few}
use Rattle.channel.proofs.Common.{Common, lcm_common, common_most}
use Rattle.channel.proofs.Cases.{cases_decide}
use Rattle.channel.proofs.Fast.{cases_no}
use Rattle.channels.specs.Sides.{Limited}
use Rattle.channels.specs.Answers.{Reaches, ComesRound}
use Rattle.channels.proofs.Tables.{sound}
use Rattle.channels.proofs.Casing.{span_most}

pub span_some : (s : Side) → Limited s → 1 ≤ span s
span_some s ok = mul-pos (omega arith) ok.some_rate

module _ (t g : Side) (taker : Limited t) (giver : Limited g) (L : ℕ) (ok : ComesRound t g L) where
  few : jobs L t g ≤ 2_179_666
  few = jobs_few t g (sound taker) (sound giver) L ok.least.positive ok.least.right giver.offset_most taker.prefix_most giver.prefix_most ok.length_most

  common : Common (span t) (span g) (step L t g)
  common = lcm_common (span t) (span g) L (span_some t taker) (span_some g giver) ok.least

  pub product_most : span t * span g ≤ 1_024_000_000_000_000
  product_most = mul-le-mul {n₁ = span t} {m₁ = span g} {n₂ = 32_000_000} {m₂ = 32_000_000} (span_most t taker) (span_most g giver)

  pub some_step : 1 ≤ step L t g
  some_step = common.some

  pub step_most : step L t g ≤ 32_000_000
  step_most = omega (arith, common_most (span t) (span g) (step L t g) (span_some t taker) common, span_most t taker)

  -- all that decide
  pub reach_all : (stock n : ℕ) → n ≡ jobs L t g → Reaches t g stock n
  reach_all stock n e =
      record {
        decides = λ f.
            decided t g (sound taker) (sound giver) L ok.least.positive ok.least.left ok.least.right ok.balanced stock
            (λ j h. f j (omega arith));
        few = omega (arith, few);
      }

  -- those before `first`, where no case is short
  pub reach_first : (stock : ℕ) (b : Bool) → b ≡ some_case (step L t g) t g stock → b ≡ false → (n : ℕ) → n ≡ first t g → Reaches t g stock n
  reach_first stock b eb no_case n e =
      record {
        decides = λ f k.
            cases (first t g) k
            (λ h.
            (cases_decide t g (sound taker) (sound giver) ok.balanced L ok.least stock).1
            (cases_no (step L t g) t g stock (sym eb ∙ no_case)) k h)
            (λ h. f k (omega arith));
        few = omega (arith, few);
      }
