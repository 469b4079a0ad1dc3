-- The terms of the rules: a job's cost and processor, response times, windows, and the sides of a channel. Assumes nothing.
use Rattle.std.specs.Prelude.{ℕ, suc, ◌≤◌, ◌<◌, leb, length}
use Rattle.numbers.specs.Numbers.{least}
use Rattle.machine.specs.Machine.{Tasks, demand}
use Rattle.channel.specs.Side.{Side}
use Rattle.channel.specs.Channel.{Channel}
use Rattle.graph.specs.declared.Task.{Task}
use Rattle.graph.specs.Model.{Rates, Link, Graph, count, task, link}

-- ---- what is counted of a task

-- the ticks that a job costs at most
abbrev pub cost_of : Task → ℕ
cost_of t = t.worst

-- the same of task i
abbrev pub cost : Graph → ℕ → ℕ
cost g i = cost_of (task g i)

-- the processor that task i is bound to: there is one
abbrev pub processor : Graph → ℕ → ℕ
processor g i = 0

-- the tasks as the machine runs them
abbrev pub machine : Graph → Tasks
machine g =
    record {
      count = count g;
      processor = processor g;
      period = λ i. (task g i).period;
      offset = λ i. (task g i).offset;
      deadline = λ i. (task g i).deadline;
      worst = cost g;
      priority = λ i. (task g i).priority;
    }

-- R of task i, or a number past its deadline if it is late
unfoldable pub response : Graph → ℕ → ℕ
response g i = suc (least (λ w. leb (demand (machine g) i (suc w)) (suc w)) (task g i).deadline)

-- the ticks from a job's release to the end of its window
abbrev pub window_of : Task → ℕ
window_of t = t.deadline

-- the same of task i
abbrev pub window : Graph → ℕ → ℕ
window g i = window_of (task g i)

-- task i as one side of a channel
abbrev pub side : Graph → ℕ → Rates → Side
side g i r = record { period = (task g i).period; offset = (task g i).offset; window = window g i; prefix = r.prefix; cycle = r.cycle }

-- a channel between its tasks
abbrev pub joined : Graph → Link → Channel
joined g l = record { producer = side g l.producer l.production; consumer = side g l.consumer l.consumption; initial = l.initial; size = l.size }

-- channel c between its tasks
abbrev pub channel : Graph → ℕ → Channel
channel g c = joined g (link g c)

-- ---- what the reader has seen to

-- a task whose window fits its period
pub record Timed (t : Task) : Type 0 where
  pub some_deadline : 1 ≤ t.deadline
  pub constrained : t.deadline ≤ t.period
  pub some_work : 1 ≤ t.worst

-- a channel that names tasks and has cycles
pub record Joined (g : Graph) (l : Link) : Type 0 where
  pub producer_known : l.producer < count g
  pub consumer_known : l.consumer < count g
  pub some_put : 1 ≤ length l.production.cycle
  pub some_take : 1 ≤ length l.consumption.cycle

-- what the rules' theorems ask of a graph
pub record Usable (g : Graph) : Type 0 where
  pub timed : (i : ℕ) → i < count g → Timed (task g i)
  pub ends : (c : ℕ) → c < length g.channels → Joined g (link g c)
