-- One side of a channel, and the jobs, rates and sums of that side. Each is said once and serves producer and consumer alike. Assumes nothing.
use Rattle.std.specs.Prelude.{cond, List, ℕ, suc, ◌+◌, ◌*◌, ◌-◌, ◌/◌, max, ◌≤◌, ◌<◌, leb, length, get_or}
use Rattle.numbers.specs.Numbers.{sum}
use Rattle.graph.specs.Rates.{rate_of}

-- A task as one side of a channel sees it: when its jobs run, and the tokens that each job moves.
pub record Side : Type 0 where
  pub period : ℕ
  pub offset : ℕ
  pub window : ℕ
  pub prefix : List ℕ
  pub cycle : List ℕ

-- What a side must meet: a window has a tick and fits the period, and the cycle has an entry.
pub record Sound (s : Side) : Type 0 where
  pub some_tick : 1 ≤ s.window
  pub fits : s.window ≤ s.period
  pub some_rate : 1 ≤ length s.cycle

-- the tick in which job m is released: offset + m × period
abbrev pub release : Side → ℕ → ℕ
release s m = s.offset + m * s.period

-- the first tick behind job m's window, which is the ticks from its release up to, not including, this
abbrev pub end : Side → ℕ → ℕ
end s m = release s m + s.window

-- Job m's rate, by the lookup in prefix and cycle.
abbrev pub rate : Side → ℕ → ℕ
rate s m = rate_of s.prefix s.cycle m

-- What the first m jobs move: X of a producer, Y of a consumer.
abbrev pub total : Side → ℕ → ℕ
total s m = sum (rate s) m

-- What one turn of the cycle moves.
abbrev pub turn : Side → ℕ
turn s = sum (λ i. get_or s.cycle i 0) (length s.cycle)

-- The ticks that one turn of the cycle takes.
abbrev pub span : Side → ℕ
span s = s.period * length s.cycle

-- The number of jobs that have ended by t. A job ends later than its own number, so only jobs below t are asked.
unfoldable pub ended : Side → ℕ → ℕ
ended s t = sum (λ m. cond (leb (end s m) t) 1 0) t

-- Job k of the taker lacks tokens in the worst case: with the stock, what the giver's jobs that have ended by k's release have moved is less than what the taker's jobs up to k move.
-- Underflow at k is `Short consumer producer initial k`. Overflow at j is `Short producer consumer (size - initial) j` if initial is at most size: the producer takes room.
abbrev pub Short : Side → Side → ℕ → ℕ → Type 0
Short taker giver stock k = stock + total giver (ended giver (release taker k)) < total taker (suc k)

-- From this job of the taker on, both sides are past their prefixes: it has an entry of the cycle, and is released when the giver's first job behind the prefix has ended.
abbrev pub first : Side → Side → ℕ
first taker giver = max (length taker.prefix) ((end giver (length giver.prefix) - taker.offset) / taker.period + 1)

-- The number of jobs of the taker whose tests decide all, where L is a common multiple of the spans: those up to `first`, and one L more.
abbrev pub jobs : ℕ → Side → Side → ℕ
jobs L taker giver = first taker giver + L / taker.period
