-- A graph in memory, and the lists that it stands for. Assumes nothing.
use Rattle.std.specs.Prelude.{List, ◌++◌, map, ℕ, ◌-◌, length, take, replicate}
use Rattle.graph.specs.declared.Side as side
use Rattle.graph.specs.declared.Channel as channel
use Rattle.graph.specs.declared.Graph as graph
use Rattle.graph.specs.Model.{Rates, Link, Graph, empty, max_tasks, max_channels, max_relations, max_prefix, max_cycle, no_task, bare, no_relation}

-- a graph in memory: the struct that the code has
abbrev pub Memory : Type 0
Memory = graph.Graph

-- a channel in memory
abbrev pub MemoryLink : Type 0
MemoryLink = channel.Channel

-- the rates of a side in memory
abbrev pub MemoryRates : Type 0
MemoryRates = side.Side

-- ---- from memory to lists: the first places, as many as the count says

-- the lists of a side
abbrev pub view_rates : MemoryRates → Rates
view_rates s = record { prefix = take s.plen s.prefix; cycle = take s.clen s.cycle }

-- the lists of a channel
abbrev pub view_link : MemoryLink → Link
view_link c =
    record {
      producer = c.producer;
      consumer = c.consumer;
      initial = c.initial;
      size = c.size;
      production = view_rates c.production;
      consumption = view_rates c.consumption;
    }

-- the lists of a graph
unfoldable pub view : Memory → Graph
view g =
    record {
      tasks = take g.ntasks g.tasks;
      channels = map view_link (take g.nchannels g.channels);
      relations = take g.nrelations g.relations;
    }

-- ---- from lists to memory: places beyond a count hold zero

-- n places that start with xs and hold z behind it
unfoldable pub pad : {A : Type 0} → ℕ → A → List A → List A
pad n z xs = xs ++ replicate (n - length xs) z

-- a side laid into its arrays
abbrev pub laid_rates : Rates → MemoryRates
laid_rates r = record { prefix = pad max_prefix 0 r.prefix; plen = length r.prefix; cycle = pad max_cycle 0 r.cycle; clen = length r.cycle }

-- a channel laid into memory
abbrev pub laid_link : Link → MemoryLink
laid_link c =
    record {
      producer = c.producer;
      consumer = c.consumer;
      initial = c.initial;
      size = c.size;
      production = laid_rates c.production;
      consumption = laid_rates c.consumption;
    }

-- a place that holds no channel
abbrev pub zero_link : MemoryLink
zero_link = laid_link (bare 0 0 0 0)

-- a graph laid into memory
unfoldable pub laid : Graph → Memory
laid g =
    record {
      tasks = pad max_tasks no_task g.tasks;
      ntasks = length g.tasks;
      channels = pad max_channels zero_link (map laid_link g.channels);
      nchannels = length g.channels;
      relations = pad max_relations no_relation g.relations;
      nrelations = length g.relations;
    }

-- the graph that a refused file leaves
abbrev pub empty_memory : Memory
empty_memory = laid empty
