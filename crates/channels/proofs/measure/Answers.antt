-- `channels::measure` meets its contract. Assumes nothing.
use mathlib.Core.Path.{◌≡◌, subst}
use Prim.Native.Nat.{ℕ, ◌*◌, ◌/◌, ◌≤◌, ◌<◌}
use native.Mathlib.Nat.{mul-le-mul, div-le_self}
use native.Mathlib.Omega.{arith}
use Rattle.channel.specs.Judge.{lcm}
use Rattle.channels.proofs.Multiples.{some_divisor, multiple}
use Rattle.channels.proofs.measure.Goals.{After-common}
use Rattle.channels.proofs.measure.Goals as goal

is : (c : After-common) → let a = c.args in a.a / c.common.result * a.b ≡ lcm a.a a.b
is c =
    multiple c.args.a c.args.b c.common.result c.requires.some_a c.requires.some_b c.common.ensures

pub nonzero_div-ticks : goal.nonzero_div-ticks
nonzero_div-ticks c =
    omega (arith, some_divisor c.args.a c.args.b c.common.result c.requires.some_a c.requires.some_b c.common.ensures)

pub overflow_mul-ticks : goal.overflow_mul-ticks
overflow_mul-ticks c =
    let q : ℕ = c.args.a / c.common.result in
    let few : q ≤ 32_000_000 = omega (arith, div-le_self c.args.a c.common.result, c.requires.a_most) in
    omega (arith, mul-le-mul {n₁ = q} {m₁ = c.args.b} {n₂ = 32_000_000} {m₂ = 32_000_000} few c.requires.b_most)

pub returns-then-ticks-least-le65536 : goal.returns-then-ticks-least-le65536
returns-then-ticks-least-le65536 c =
    let e = is ((goal.at.returns-then-ticks-least-le65536 c).After-common) in
    (e, subst (λ x. x / c.args.least ≤ 65536) e c.if-ticks-least-le65536.true)

pub returns-else-ticks-least-le65536 : goal.returns-else-ticks-least-le65536
returns-else-ticks-least-le65536 c =
    subst (λ x. 65536 < x / c.args.least) (is ((goal.at.returns-else-ticks-least-le65536 c).After-common)) c.if-ticks-least-le65536.false
