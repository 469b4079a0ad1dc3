-- A quicker way to decide the jobs past both prefixes, no part of the rules: a few cases, one for each pair of a place in the taker's cycle and a place in the giver's. `cases_decide` (proofs/Cases) says that they decide. Assumes nothing.
use Rattle.std.specs.Prelude.{ℕ, suc, ◌+◌, ◌*◌, ◌-◌, ◌/◌, ◌%◌, ◌≤◌, ◌<◌, length}
use Rattle.channel.specs.Side.{Side, release, end, total, turn, span}

-- The greatest common divisor of the spans, L being their least common multiple.
abbrev pub step : ℕ → Side → Side → ℕ
step L taker giver = span taker * span giver / L

-- The least time, from 1 tick on, from a release of taker's job j to an end of giver's job m, if either may be put off by whole turns of its own cycle: turns change it by multiples of h, the greatest common divisor of the spans.
-- Graph A, underflow: both spans are even, h is 2; a release of the consumer and a later end of the producer are 2 apart at the least, as 14 and 16 are. With offset 7 it would be 1.
abbrev pub gap : ℕ → Side → Side → ℕ → ℕ → ℕ
gap h taker giver j m = suc ((end giver m + (h - 1 - release taker j % h)) % h)

-- Taker's job j lacks tokens, where giver's job m is the next to end, and that in `before` ticks, if either may be put off by whole turns. In balance a turn more of both weighs nothing, and a tick between them weighs turn / span of the giver; all is multiplied by that span, so that the numbers are whole.
-- Graph A, underflow: job 0 wants 3 × 4 + 2 × 4 = 20 and has (0 + 0) × 4 + 2 × (8 + 2) = 20: just enough. With offset 7 it has 2 × (7 + 1) = 16: short.
abbrev pub Lacks : Side → Side → ℕ → ℕ → ℕ → ℕ → Type 0
Lacks taker giver stock j m before =
    (stock + total giver m) * span giver + turn giver * (release taker j + before)
    < total taker (suc j) * span giver + turn giver * end giver m

-- The case of place a in the taker's cycle and place b in the giver's is short: a job of the taker at a can be released where the next end is of a job of the giver at b, and the one released latest before that end lacks tokens.
pub record ShortCase (h : ℕ) (taker giver : Side) (stock a b : ℕ) : Type 0 where
  pub meet : gap h taker giver (length taker.prefix + a) (length giver.prefix + b) ≤ giver.period
  pub lacks :
      Lacks taker giver stock (length taker.prefix + a) (length giver.prefix + b)
      (gap h taker giver (length taker.prefix + a) (length giver.prefix + b))
