-- The parts of a graph in memory, as a file has them. Assumes nothing.
use Rattle.std.specs.Prelude.{List, ◌++◌, map, ℕ, ◌≤◌, length}
use Rattle.graph.specs.Model.{Rates, max_prefix, max_cycle}
use Rattle.graph.specs.Memory.{MemoryLink, MemoryRates}
use Rattle.format.specs.Record.{Record, channel, rate}

-- the record of a channel in memory
abbrev pub head_of : MemoryLink → Record
head_of c = channel c.producer c.consumer c.initial c.size

-- the records of one side of channel i
abbrev pub side_records : ℕ → ℕ → Rates → List Record
side_records i side r = map (rate i side 0) r.prefix ++ map (rate i side 1) r.cycle

-- the counts of a side are within the limits and within its places
pub record SideFits (s : MemoryRates) : Type 0 where
  pub few : s.plen ≤ max_prefix
  pub prefix : s.plen ≤ length s.prefix
  pub short : s.clen ≤ max_cycle
  pub cycle : s.clen ≤ length s.cycle

-- the same of both sides of a channel
pub record ChannelFits (c : MemoryLink) : Type 0 where
  pub production : SideFits c.production
  pub consumption : SideFits c.consumption
