-- An execution of a graph, and what an accepted one is promised. Assumes nothing.
use Rattle.std.specs.Prelude.{◌≡◌, List, ℕ, ◌+◌, ◌*◌, ◌≤◌, ◌<◌, length, get_or}
use Rattle.numbers.specs.Numbers.{sum}
use Rattle.machine.specs.Machine.{Slot, job, tick, ran, Legal, Served}
use Rattle.channel.specs.Side.{rate}
use Rattle.graph.specs.Model.{Rates, Graph, count, link}
use Rattle.rules.specs.Terms.{machine, side}

-- What the jobs of task i move in each tick, where they move by the rates `r`: only in ticks that are spent on them, and each job all of its tokens by the time that it has run in full.
pub record Moves (g : Graph) (needs : ℕ → ℕ → ℕ) (runs : ℕ → Slot) (i : ℕ) (r : Rates) (moves : ℕ → ℕ) : Type 0 where
  pub running : (t : ℕ) → ((k : ℕ) → ¬ (runs t ≡ job i k)) → moves t ≡ 0
  pub whole : (k t : ℕ) → ran runs i k t ≡ needs i k → sum (λ s. tick i k (runs s) * moves s) t ≡ rate (side g i r) k

-- Tick t is spent on `runs t`; `puts c t` and `takes c t` are the tokens that go into channel c and out of it in tick t.
pub record Execution (g : Graph) : Type 0 where
  pub needs : ℕ → ℕ → ℕ
  pub runs : ℕ → Slot
  pub legal : Legal (machine g) 0 needs runs
  pub puts : ℕ → ℕ → ℕ
  pub takes : ℕ → ℕ → ℕ
  pub putting : (c : ℕ) → c < length g.channels → Moves g needs runs (link g c).producer (link g c).production (puts c)
  pub taking : (c : ℕ) → c < length g.channels → Moves g needs runs (link g c).consumer (link g c).consumption (takes c)

-- The fill of channel c is between 0 and its size inside tick t, when a of the tokens that the tick puts and b of those that it takes have been moved.
pub record Within (g : Graph) (e : Execution g) (c t a b : ℕ) : Type 0 where
  pub not_below : sum (e.takes c) t + b ≤ (link g c).initial + (sum (e.puts c) t + a)
  pub not_above : (link g c).initial + (sum (e.puts c) t + a) ≤ (link g c).size + (sum (e.takes c) t + b)

-- Every job is finished within the figure that the report l has for its task, and by its deadline; and no queue leaves its bounds.
pub record Kept (g : Graph) (l : List ℕ) (e : Execution g) : Type 0 where
  pub in_time : (i k : ℕ) → i < count g → Served (machine g) e.needs e.runs (get_or l i 0) i k
  pub in_bounds : (c t a b : ℕ) → c < length g.channels → a ≤ e.puts c t → b ≤ e.takes c t → Within g e c t a b
