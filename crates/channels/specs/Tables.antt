-- Totals of a side kept in a table, and what is looked up in it. Assumes nothing.
use Rattle.std.specs.Prelude.{◌≡◌, List, ℕ, suc, ◌+◌, ◌*◌, ◌≤◌, ◌<◌, length, get_or}
use Rattle.numbers.specs.Numbers.{sum}
use Rattle.graph.specs.Rates.{rate_of}
use Rattle.graph.specs.Model.{max_prefix, max_cycle, million}
use Rattle.channel.specs.Side.{Side, total}

-- the largest rate: 16 bits hold it
abbrev pub most_rate : ℕ
most_rate = 65_535

-- what prefix and one turn move at most
abbrev pub most_sum : ℕ
most_sum = most_rate * (max_prefix + max_cycle)

-- no job of prefix and one turn is released later: an offset, and a period for each
abbrev pub latest : ℕ
latest = million + (max_prefix + max_cycle) * million

-- the most that `first` can be: the giver's offset, a period for each entry of its prefix and a window, where the taker's period is one tick, and one job more
abbrev pub most_first : ℕ
most_first = million + max_prefix * million + million + 1

-- two lists of rates in range
pub record Listed (prefix cycle : List ℕ) : Type 0 where
  pub prefix_most : length prefix ≤ max_prefix
  pub some_rate : 1 ≤ length cycle
  pub cycle_most : length cycle ≤ max_cycle

-- the table has what the first i jobs move, for each i up to prefix and one turn, and no rate is above the largest
pub record Tabled (prefix cycle sums : List ℕ) : Type 0 where
  pub at : (i : ℕ) → i ≤ length prefix + length cycle → get_or sums i 0 ≡ sum (rate_of prefix cycle) i
  pub few : (j : ℕ) → rate_of prefix cycle j ≤ most_rate

-- No search comes to a tick or a job past this: at a million ticks a period, `most_jobs` jobs and the giver's next are over before it. As many of the longest periods, or of the largest rates, fit 64 bits.
abbrev pub far : ℕ
far = 3_000_000_000_000

-- the first job from `from` on with which the total is above `have`
pub record Above (s : Side) (have from to r : ℕ) : Type 0 where
  pub behind : from ≤ r
  pub before : r < to
  pub above : have < total s (suc r)
  pub none : (j : ℕ) → from ≤ j → j < r → total s (suc j) ≤ have
