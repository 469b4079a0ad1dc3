-- The graphs in memory that some file reads as. Assumes nothing.
use Rattle.std.specs.Prelude.{◌≡◌, List, ℕ, take}
use Rattle.numbers.specs.Lists.{All}
use Rattle.graph.specs.Model.{Graph}
use Rattle.graph.specs.Memory.{Memory, MemoryLink, MemoryRates, view, view_link, view_rates, pad, laid, laid_link, laid_rates}
use Rattle.format.specs.Reader.{Reads}
use Rattle.format.specs.Writer.{Formed}
use Rattle.format.specs.Ranges.{RatesRange, LinkRange}

-- places beyond a count hold zero, and the lists are a formed graph: counts, ranges, names, cycles with entries, a task
pub record WellFormed (g : Memory) : Type 0 where
  pub padded : g ≡ laid (view g)
  pub formed : Formed (view g)

-- the file reads as this graph in memory
pub record ReadsAs (file : List ℕ) (g : Memory) : Type 0 where
  pub model : Graph
  pub reads : Reads file model
  pub same : g ≡ laid model

-- ---- the same part by part

-- a side with zeros behind its lists, and those in range
pub record SideFormed (s : MemoryRates) : Type 0 where
  pub padded : s ≡ laid_rates (view_rates s)
  pub ranged : RatesRange (view_rates s)

-- a channel with zeros behind its lists, and in range among so many tasks
pub record ChannelFormed (count : ℕ) (c : MemoryLink) : Type 0 where
  pub padded : c ≡ laid_link (view_link c)
  pub ranged : LinkRange count (view_link c)

-- an array of so many places: the first n each as P says, and zero behind them
pub record Places {A : Type 0} (P : A → Type 0) (places : ℕ) (zero : A) (n : ℕ) (xs : List A) : Type 0 where
  pub padded : xs ≡ pad places zero (take n xs)
  pub used : All P (take n xs)
