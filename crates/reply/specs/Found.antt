-- What a search through the items 0 … n - 1 says. Assumes nothing.
use Rattle.std.specs.Prelude.{ℕ, ◌<◌, Option, Some, None}
use Rattle.numbers.specs.Lists.{First}

-- no item has the fault P, or item i is the first that has it
abbrev pub Finds : (ℕ → Type 0) → ℕ → Option ℕ → Type 0
Finds P n None = (i : ℕ) → i < n → ¬ P i
Finds P n (Some i) = (i < n) × First P i
