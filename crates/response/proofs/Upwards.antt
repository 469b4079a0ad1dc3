-- What a search through 1, 2 .. up to a limit finds. Assumes nothing.
use Prim.Native.Nat.{ℕ, ◌+◌, ◌≤◌, ◌<◌}
use native.Mathlib.Omega.{arith}
use Rattle.std.specs.Prelude.{Option, Some, None, MatchOption}
use Rattle.response.specs.Rivals.{Searched}

pub searched : (d : ℕ → ℕ) (limit : ℕ) (r : Option ℕ)
    → MatchOption r ((w : ℕ) → 1 ≤ w → w < limit + 1 → w < d w) (λ r. (1 ≤ r) × (r < limit + 1) × (d r ≤ r) × ((w : ℕ) → 1 ≤ w → w < r → w < d w))
    → Searched d limit r
searched d limit None h = λ w a b. h w a (omega arith)
searched d limit (Some r) h = (h.0, (omega (arith, h.1), (h.2, h.3)))
