-- A channel in memory among its tasks, and what its test says. Assumes nothing.
use Rattle.std.specs.Prelude.{◌≡◌, List, map, ℕ, Result}
use Rattle.reply.specs.declared.Refusal.{Refusal}
use Rattle.graph.specs.declared.Task.{Task}
use Rattle.graph.specs.Model.{Graph, task_of}
use Rattle.graph.specs.Memory.{MemoryLink, view_link}
use Rattle.channel.specs.Channel.{Channel}
use Rattle.channel.specs.Judge.{Verdict, Means}
use Rattle.rules.specs.Terms.{window_of, Usable}
use Rattle.rules.specs.Check as rules
use Rattle.channels.specs.Sides.{joined_of}
use Rattle.checker.specs.Outcome.{refusal}

-- the channel between its two tasks, with their windows
abbrev pub between : List Task → MemoryLink → Channel
between ts c =
    let p : Task = task_of ts c.producer in
    let q : Task = task_of ts c.consumer in
    joined_of c p q (window_of p) (window_of q)

-- what is told of channel c, by a verdict that is true of it
pub record Tells (ts : List Task) (c : ℕ) (link : MemoryLink) (r : Result (Unit {0}) Refusal) : Type 0 where
  pub verdict : Verdict
  pub told : refusal r ≡ rules.refusal c verdict
  pub means : Means (between ts link) verdict

-- a graph of these tasks and channels
pub record Made (ts : List Task) (cs : List MemoryLink) (g : Graph) : Type 0 where
  pub tasks : g.tasks ≡ ts
  pub channels : g.channels ≡ map view_link cs
  pub usable : Usable g
