-- The file of a graph, and which graphs have one. Assumes nothing.
use Rattle.std.specs.Prelude.{Bool, ◌&&◌, is_none, List, [], ◌∷◌, ◌++◌, map, ℕ, suc, ◌≤◌, ltb, leb, length}
use Rattle.numbers.specs.Lists.{All, all}
use Rattle.graph.specs.Model.{Rates, Link, Graph, max_tasks, max_channels, max_relations, max_prefix, max_cycle}
use Rattle.format.specs.Record.{Record, task, channel, rate, relation, encodes}
use Rattle.format.specs.Reader.{holds, ranges, InRange, cycles, Whole, first_zero}

-- the record of a channel
abbrev pub head : Link → Record
head c = channel c.producer c.consumer c.initial c.size

-- the rate records of channel i, by side and part
abbrev pub rates_of : ℕ → Link → List Record
rates_of i c =
    map (rate i 0 0) c.production.prefix
    ++ (map (rate i 0 1) c.production.cycle
    ++ (map (rate i 1 0) c.consumption.prefix
    ++ map (rate i 1 1) c.consumption.cycle))

-- those of all channels from number i on
unfoldable pub rates_from : ℕ → List Link → List Record
rates_from i [] = []
rates_from i (c ∷ cs) = rates_of i c ++ rates_from (suc i) cs

-- all records in the order of a file: tasks, channels, rates, relations
unfoldable pub records : Graph → List Record
records g = map task g.tasks ++ (map head g.channels ++ (rates_from 0 g.channels ++ map relation g.relations))

-- the file of a graph
unfoldable pub bytes : Graph → List ℕ
bytes g = encodes (records g)

-- ---- the graphs that have a file

-- no list longer than its limit
pub record Few (r : Rates) : Type 0 where
  pub prefix : length r.prefix ≤ max_prefix
  pub cycle : length r.cycle ≤ max_cycle

-- the same of both sides
pub record FewRates (c : Link) : Type 0 where
  pub production : Few c.production
  pub consumption : Few c.consumption

-- no count above its limit
pub record Counts (g : Graph) : Type 0 where
  pub tasks : length g.tasks ≤ max_tasks
  pub channels : length g.channels ≤ max_channels
  pub relations : length g.relations ≤ max_relations
  pub rates : All FewRates g.channels

-- fields in range, counts within limits, a task and an entry in every cycle
pub record Formed (g : Graph) : Type 0 where
  pub in_range : All (InRange g) (records g)
  pub counts : Counts g
  pub whole : Whole g

-- `Few` as a test
abbrev pub few : Rates → Bool
few r = leb (length r.prefix) max_prefix && leb (length r.cycle) max_cycle

-- `Formed` as a test
unfoldable pub formed : Graph → Bool
formed g =
    all (λ r. all holds (ranges g r)) (records g)
    && (leb (length g.tasks) max_tasks
    && (leb (length g.channels) max_channels
    && (leb (length g.relations) max_relations
    && (all (λ c. few c.production && few c.consumption) g.channels
    && (ltb 0 (length g.tasks)
    && is_none (first_zero (cycles g.channels)))))))
