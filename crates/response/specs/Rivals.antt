-- The tasks that interfere with one, what they ask for, and what a search over their demand says. Assumes nothing.
use Rattle.std.specs.Prelude.{cond, ℕ, ◌*◌, ◌≤◌, ◌<◌, Option, Some, None}
use Rattle.numbers.specs.Numbers.{sum, ceil}
use Rattle.machine.specs.Machine.{above}
use Rattle.graph.specs.Model.{Graph, million, task}
use Rattle.rules.specs.Terms.{cost, machine}
use Rattle.response.specs.declared.Rival.{Rival}

-- what a rival's jobs ask for within w ticks: cost × ⌈ w / period ⌉
unfoldable pub asked : ℕ → Rival → ℕ
asked w r = r.cost * ceil w r.period

-- what those of the first n tasks that interfere with task i ask for
unfoldable pub hindrance : Graph → ℕ → ℕ → ℕ → ℕ
hindrance g i n w = sum (λ j. cond (above (machine g) i j) (cost g j * ceil w (task g j).period) 0) n

-- a cost and a period in range
pub record RivalRange (r : Rival) : Type 0 where
  pub cost : r.cost ≤ million
  pub some_period : 1 ≤ r.period
  pub period : r.period ≤ million

-- the least w from 1 to the limit whose demand is at most w, or that there is none
abbrev pub Searched : (ℕ → ℕ) → ℕ → Option ℕ → Type 0
Searched demand limit None = (w : ℕ) → 1 ≤ w → w ≤ limit → w < demand w
Searched demand limit (Some r) = (1 ≤ r) × ((r ≤ limit) × ((demand r ≤ r) × ((w : ℕ) → 1 ≤ w → w < r → w < demand w)))
