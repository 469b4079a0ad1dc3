-- Rates: the list that the rate of job m stands in, its place there, and the rate. Jobs count from 0. Assumes nothing.
use Rattle.std.specs.Prelude.{cond, List, ℕ, ◌-◌, ◌%◌, ltb, eqb, length, get_or}

-- the prefix where it has an entry m, otherwise the cycle
unfoldable pub list_of : List ℕ → List ℕ → ℕ → List ℕ
list_of prefix cycle m = cond (ltb m (length prefix)) prefix cycle

-- by the lengths p and c of prefix and cycle: entry m of the prefix, otherwise (m − p) modulo c of the cycle, and 0 of an empty one
unfoldable pub place_in : ℕ → ℕ → ℕ → ℕ
place_in p c m = cond (ltb m p) m (cond (eqb c 0) 0 ((m - p) % c))

-- the same of the two lists
abbrev pub place_of : List ℕ → List ℕ → ℕ → ℕ
place_of prefix cycle m = place_in (length prefix) (length cycle) m

-- job m's rate: the entry at that place of that list, 0 where the cycle is empty
unfoldable pub rate_of : List ℕ → List ℕ → ℕ → ℕ
rate_of prefix cycle m = get_or (list_of prefix cycle m) (place_of prefix cycle m) 0
