-- A channel in memory as the rule sees it, and what its judge may count on. Assumes nothing.
use Rattle.std.specs.Prelude.{ℕ, ◌≤◌, length}
use Rattle.graph.specs.declared.Task.{Task}
use Rattle.graph.specs.Model.{Rates, max_prefix, max_cycle, million}
use Rattle.graph.specs.Memory.{MemoryLink, MemoryRates, view_link}
use Rattle.channel.specs.Side.{Side}
use Rattle.channel.specs.Channel.{Channel}

-- a task as one side of a channel; the window's length is given
abbrev pub side : Task → ℕ → Rates → Side
side t window r = record { period = t.period; offset = t.offset; window = window; prefix = r.prefix; cycle = r.cycle }

-- the channel that the rule speaks of
abbrev pub joined_of : MemoryLink → Task → Task → ℕ → ℕ → Channel
joined_of c p q pwindow cwindow =
    record {
      producer = side p pwindow (view_link c).production;
      consumer = side q cwindow (view_link c).consumption;
      initial = c.initial;
      size = c.size;
    }

-- a channel of two sides
abbrev pub joined_at : Side → Side → ℕ → ℕ → Channel
joined_at producer consumer initial size = record { producer = producer; consumer = consumer; initial = initial; size = size }

-- ---- the ranges of a well-formed graph

-- a task in range, and its window: that has a tick and fits the period
pub record Timed (t : Task) (window : ℕ) : Type 0 where
  pub some_tick : 1 ≤ window
  pub fits : window ≤ t.period
  pub period_most : t.period ≤ million
  pub offset_most : t.offset ≤ million

-- the counts of a side's lists in range
pub record Rated (r : MemoryRates) : Type 0 where
  pub prefix_most : r.plen ≤ max_prefix
  pub some_rate : 1 ≤ r.clen
  pub cycle_most : r.clen ≤ max_cycle

-- a channel in memory and its two tasks in range
pub record Ready (c : MemoryLink) (p q : Task) (pwindow cwindow : ℕ) : Type 0 where
  pub producer : Timed p pwindow
  pub consumer : Timed q cwindow
  pub production : Rated c.production
  pub consumption : Rated c.consumption
  pub initial_most : c.initial ≤ million
  pub size_most : c.size ≤ million

-- a side in range
pub record Limited (s : Side) : Type 0 where
  pub some_tick : 1 ≤ s.window
  pub fits : s.window ≤ s.period
  pub some_rate : 1 ≤ length s.cycle
  pub period_most : s.period ≤ million
  pub offset_most : s.offset ≤ million
  pub prefix_most : length s.prefix ≤ max_prefix
  pub cycle_most : length s.cycle ≤ max_cycle
