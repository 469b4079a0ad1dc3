-- The numbers of a channel in range fit 64 bits. Assumes nothing.
use Prim.Native.Nat.{ℕ, ◌*◌, ◌≤◌}
use native.Mathlib.Nat.{mul-le-mul}
use native.Mathlib.Omega.{arith}

-- a turn of at most 32 entries × a length of at most 32 × a period of at most a million: the products of the test of balance fit 64 bits, so it compares whole numbers
pub turn_times_length : (t n : ℕ) → t ≤ 65535 * 32 → n ≤ 32 → t * n ≤ 67_107_840
turn_times_length t n a b = omega (arith, mul-le-mul {n₁ = t} {n₂ = 2_097_120} {m₂ = 32} (omega arith) b)

pub times_period : (x p : ℕ) → x ≤ 67_107_840 → p ≤ 1_000_000 → x * p ≤ 67_107_840_000_000
times_period x p a b = omega (arith, mul-le-mul {n₂ = 67_107_840} {m₂ = 1_000_000} a b)
