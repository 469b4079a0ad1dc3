-- What the response of one task and of all tasks says of a graph. Assumes nothing.
use Rattle.std.specs.Prelude.{◌≡◌, List, ℕ, ◌≤◌, ◌<◌, get_or, length, Option, Some, None, Result, Ok, Err}
use Rattle.machine.specs.Machine.{IsResponse}
use Rattle.graph.specs.Model.{Graph, max_tasks}
use Rattle.reply.specs.Found.{Finds}
use Rattle.rules.specs.Terms.{machine}
use Rattle.rules.specs.Rules.{Misses}

-- task i is late, or that is its response time
abbrev pub Responds : Graph → ℕ → Option ℕ → Type 0
Responds g i None = Misses g i
Responds g i (Some r) = IsResponse (machine g) i r

-- R of the first n tasks, of which none is late, and zero behind them
pub record Figures (g : Graph) (n : ℕ) (l : List ℕ) : Type 0 where
  pub size : length l ≡ max_tasks
  pub none_late : Finds (Misses g) n None
  pub responses : (i : ℕ) → i < n → IsResponse (machine g) i (get_or l i 0)
  pub rest : (i : ℕ) → n ≤ i → get_or l i 0 ≡ 0

-- the figures, or the first late task
abbrev pub Judged : Graph → ℕ → Result (List ℕ) ℕ → Type 0
Judged g n (Ok l) = Figures g n l
Judged g n (Err i) = Finds (Misses g) n (Some i)
