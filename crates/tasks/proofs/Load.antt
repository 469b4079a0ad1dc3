-- Priorities and the load of a graph are those of its list of tasks. Assumes nothing.
use mathlib.Core.Path.{◌≡◌, sym, ap, ◌∙◌}
use mathlib.Core.List.{List}
use Prim.Native.Nat.{ℕ, ◌*◌, ◌≤◌, ◌<◌}
use native.Mathlib.Nat.{div-le_self, mul-le-mul, le_trans}
use native.Mathlib.Omega.{arith}
use lib.ListN.{length, take}
use lib.Seq.{length-take-le, get_or-take}
use Rattle.std.specs.Prelude.{All as Each}
use Rattle.std.specs.Prelude.{Any, sum_by, Option, Some, None, MatchOption}
use Rattle.std.proofs.lemmas.List.{get_or_default}
use Rattle.std.proofs.lemmas.List.Sums.{sum_by-le}
use Rattle.numbers.specs.Lists.{All}
use Rattle.numbers.proofs.Lists.{all_at}
use Rattle.graph.specs.declared.Task.{Task}
use Rattle.graph.specs.Model.{Graph, no_task, task, task_of}
use Rattle.rules.specs.Terms.{cost_of}
use Rattle.format.specs.Ranges.{TaskRange}
use Rattle.rules.specs.Rules.{Repeats, load}
use Rattle.reply.specs.Found.{Finds}
use Rattle.tasks.specs.Tasks.{share}
use Rattle.tasks.proofs.Given.{task_is, sum_by_places}

abbrev rank : Task → ℕ
rank t = t.priority

pub load_is : (g : Graph) → load g ≡ sum_by share g.tasks
unfolding load share task
load_is g = sym (sum_by_places share no_task g.tasks)

pub share_most : (t : Task) → TaskRange t → share t ≤ 1_000_000 * 1_000_000
unfolding share
share_most t h = le_trans (div-le_self (cost_of t * 1_000_000) t.period) (mul-le-mul {n₂ = 1_000_000} {m₂ = 1_000_000} (omega arith) (omega arith))

pub each : (ts : List Task) → All TaskRange ts → Each TaskRange ts
each ts h = λ k d l. all_at TaskRange ts d h k l

pub shares_fit : (ts : List Task) → length ts ≤ 32 → All TaskRange ts → sum_by share ts < 18446744073709551616
shares_fit ts few h = omega (arith, sum_by-le share (1_000_000 * 1_000_000) ts (λ k d l. share_most _ (all_at TaskRange ts d h k l)))

-- a task that stands before task i has its priority
abbrev pub Seen : List Task → ℕ → Type 0
Seen ts i = Any (λ other. other.priority ≡ (task_of ts i).priority) (take i ts)

module _ {ts : List Task} (g : Graph) (e : g.tasks ≡ ts) where
  repeats : (i : ℕ) → i < length ts → Seen ts i → Repeats g i
  repeats i below (j, t, l, q, p) =
      let size : length (take i ts) ≡ i = length-take-le i ts (omega arith) in
      let here : task_of ts j ≡ t = sym (get_or-take i ts j no_task (omega arith)) ∙ get_or_default (take i ts) j no_task t l ∙ q in
      (j, omega arith, ap rank (task_is g e j ∙ here) ∙ p ∙ sym (ap rank (task_is g e i)))

  seen_before : (i : ℕ) → i < length ts → Repeats g i → Seen ts i
  seen_before i below (j, l, p) =
      let size : length (take i ts) ≡ i = length-take-le i ts (omega arith) in (
        j,
        task_of ts j,
        omega arith,
        get_or-take i ts j (task_of ts j) l ∙ get_or_default ts j (task_of ts j) no_task (omega arith),
        sym (ap rank (task_is g e j)) ∙ p ∙ ap rank (task_is g e i),
      )

  -- the first number that was seen before is the first that repeats a priority
  pub first_repeats : (r : Option ℕ)
      → MatchOption r ((k : ℕ) → 0 ≤ k → k < length ts → ¬ Seen ts k) (λ i. (0 ≤ i) × (i < length ts) × Seen ts i × ((k : ℕ) → 0 ≤ k → k < i → ¬ Seen ts k))
      → Finds (Repeats g) (length ts) r
  first_repeats None h = λ i l m. h i (omega arith) l (seen_before i l m)
  first_repeats (Some i) (a, l, s, before) = (l, (repeats i l s, λ j k m. before j (omega arith) k (seen_before j (omega arith) m)))
