-- What the parts of the judgement are asked, and what their answers mean. Assumes nothing.
use Rattle.std.specs.Prelude.{◌≡◌, ℕ, ◌+◌, ◌*◌, ◌-◌, ◌/◌, ◌≤◌, ◌<◌, Option, Some, None}
use Rattle.numbers.specs.Lists.{First}
use Rattle.graph.specs.Model.{max_prefix, max_cycle, million}
use Rattle.channel.specs.Side.{Side, span, Short}
use Rattle.channel.specs.Channel.{Balanced}
use Rattle.channel.specs.Judge.{IsLcm, lcm, longest}

-- two spans in range, and the smaller of the two periods
pub record Spans (a b least : ℕ) : Type 0 where
  pub some_a : 1 ≤ a
  pub some_b : 1 ≤ b
  pub some_least : 1 ≤ least
  pub a_most : a ≤ max_cycle * million
  pub b_most : b ≤ max_cycle * million
  pub least_most : least ≤ million

-- r is the greatest common divisor: with the least common multiple it makes the product
pub record Divisor (a b r : ℕ) : Type 0 where
  pub product : a * b ≡ lcm a b * r
  pub most : r ≤ b

-- the least common multiple of the spans, or that it is too long
abbrev pub Measured : ℕ → ℕ → ℕ → Option ℕ → Type 0
Measured a b least (Some ticks) = (ticks ≡ lcm a b) × (lcm a b / least ≤ longest)
Measured a b least None = longest < lcm a b / least

-- The most jobs that decide (`jobs_few` in channel/proofs/Periodic), so few that the totals fit 64 bits. In taker's periods: the giver's offset, its periods up to the end behind a full prefix, each at most one common length, that length, and one more.
abbrev pub most_jobs : ℕ
most_jobs = million + (max_prefix + 1) * (longest + 1) + longest + 1

-- how many of the ticks first, first + period, first + 2 × period and so on are no later than this one
abbrev pub passed_of : ℕ → ℕ → ℕ → ℕ
passed_of first period tick = (tick + period - first) / period

-- the first of the taker's jobs that is short, or that none of the first n is
abbrev pub SaysBelow : Side → Side → ℕ → ℕ → Option ℕ → Type 0
SaysBelow taker giver stock n (Some k) = First (Short taker giver stock) k
SaysBelow taker giver stock n None = (k : ℕ) → k < n → ¬ Short taker giver stock k

-- two sides in balance, and the least common multiple of their spans, which is not too long
pub record ComesRound (t g : Side) (L : ℕ) : Type 0 where
  pub balanced : Balanced t g
  pub least : IsLcm (span t) (span g) L
  pub length_most : L / t.period ≤ longest

-- so many jobs of the taker decide all: if none of them is short, no job is; and they can be searched
pub record Reaches (taker giver : Side) (stock n : ℕ) : Type 0 where
  pub decides : ((k : ℕ) → k < n → ¬ Short taker giver stock k) → (k : ℕ) → ¬ Short taker giver stock k
  pub few : n ≤ most_jobs
