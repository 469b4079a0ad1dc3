-- A channel, and what can befall it. Assumes nothing.
use Rattle.std.specs.Prelude.{◌≡◌, Bool, true, false, cond, ◌⊎◌, ℕ, suc, ◌+◌, ◌*◌, ◌≤◌, ◌<◌, ltb, length}
use Rattle.numbers.specs.Numbers.{sum}
use Rattle.channel.specs.Side.{Side, release, end, rate, total, turn, ended, Short}

-- a channel with both its sides
pub record Channel : Type 0 where
  pub producer : Side
  pub consumer : Side
  pub initial : ℕ
  pub size : ℕ

-- Balance: the sum of the production cycle × length of the consumption cycle × T_consumer is the sum of the consumption cycle × length of the production cycle × T_producer.
abbrev pub Balanced : Side → Side → Type 0
Balanced p c = turn p * length c.cycle * c.period ≡ turn c * length p.cycle * p.period

-- Underflow is broken at consumer job k: initial + X(P) < Y(k + 1), P being the number of producer jobs that have ended by k's release.
abbrev pub Underflows : Channel → ℕ → Type 0
Underflows ch k = Short ch.consumer ch.producer ch.initial k

-- Overflow is broken at producer job j: initial + X(j + 1) − Y(Q) > size, Q being the number of consumer jobs that have ended by j's release.
abbrev pub Overflows : Channel → ℕ → Type 0
Overflows ch j = ch.size + total ch.consumer (ended ch.consumer (release ch.producer j)) < ch.initial + total ch.producer (suc j)

-- The tests 13, 16 and 17 find nothing, over every job without end. Balance, test 14, follows: `passes_balanced` (proofs/Exact).
pub record Passes (ch : Channel) : Type 0 where
  pub fits : ch.initial ≤ ch.size
  pub no_underflow : (k : ℕ) → ¬ Underflows ch k
  pub no_overflow : (j : ℕ) → ¬ Overflows ch j

-- What the jobs of a side have moved at some moment inside tick t, where tokens move in parts: all of an ended job's, none of an unreleased one's, and never more than the rate.
pub record Part (s : Side) (t : ℕ) (moved : ℕ → ℕ) : Type 0 where
  pub at_most : (j : ℕ) → moved j ≤ rate s j
  pub all : (j : ℕ) → end s j ≤ t → moved j ≡ rate s j
  pub none : (j : ℕ) → t < release s j → moved j ≡ 0

-- A tick for each job, in its window.
pub record Ticks (s : Side) : Type 0 where
  pub tick : ℕ → ℕ
  pub early : (j : ℕ) → release s j ≤ tick j
  pub late : (j : ℕ) → tick j < end s j

-- A choice: the tick in which each producer job puts, the tick in which each consumer job takes, and for each tick whether the take goes first. The windows of one side do not overlap, so a tick has at most one put and one take.
pub record Choice (ch : Channel) : Type 0 where
  pub puts : Ticks ch.producer
  pub takes : Ticks ch.consumer
  pub takes_first : ℕ → Bool

-- What the jobs whose tick is below n have moved. Job j's tick is at least j, so only jobs up to n are asked.
unfoldable pub moved : (s : Side) → Ticks s → ℕ → ℕ
moved s ts n = sum (λ j. cond (ltb (ts.tick j) n) (rate s j) 0) (suc n)

-- The moments: before tick t, and in tick t after the first of its two moves. `Moment first n m` says that the puts of ticks below n and the takes of ticks below m have been made.
pub data Moment (takes_first : ℕ → Bool) : ℕ → ℕ → Type 0 where
  before : (t : ℕ) → Moment takes_first t t
  put_made : (t : ℕ) → takes_first t ≡ false → Moment takes_first (suc t) t
  take_made : (t : ℕ) → takes_first t ≡ true → Moment takes_first t (suc t)

-- At some moment the fill is below 0 or above the size. The fill is initial + put - taken; `before 0` is the moment before the first tick.
pub record Breaks (ch : Channel) (c : Choice ch) : Type 0 where
  pub puts_below : ℕ
  pub takes_below : ℕ
  pub moment : Moment c.takes_first puts_below takes_below
  pub broken :
      (ch.initial + moved ch.producer c.puts puts_below < moved ch.consumer c.takes takes_below)
      ⊎ (ch.size + moved ch.consumer c.takes takes_below < ch.initial + moved ch.producer c.puts puts_below)
