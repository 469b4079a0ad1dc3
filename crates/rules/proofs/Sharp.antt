-- What is promised is sharp: the figures are the least that hold, a queue comes to its size and to nothing, and graphs need to agree
-- no further than up to the number that is named. Assumes nothing.
use mathlib.Core.Path.{◌≡◌, refl, ap, subst}
use mathlib.Core.List.{List, [], ◌∷◌}
use Prim.Native.Nat.{ℕ, zero, suc, ◌+◌, ◌*◌, ◌≤◌, ◌<◌}
use native.Mathlib.Nat.{le_refl}
use native.Mathlib.Omega.{arith}
use lib.ListN.{get_or}
use Rattle.std.specs.Prelude.{Ok}
use Rattle.numbers.specs.Numbers.{sum, ceil, from}
use Rattle.numbers.proofs.Sums.{sum_suc, sum_zero}
use Rattle.machine.specs.Machine.{Mine, Slot, idle, job, tick, ran, May, demand}
use Rattle.machine.proofs.Response.{tick_own, nth_tick}
use Rattle.machine.proofs.Sharp.{met}
use Rattle.channel.specs.Side.{rate, ended}
use Rattle.channel.specs.Judge.{lcm, judge}
use Rattle.graph.specs.declared.Task.{Task}
use Rattle.graph.specs.Rates.{rate_of, list_of, place_in}
use Rattle.graph.specs.Model.{Rates, Graph, count, task, link}
use Rattle.rules.specs.Terms.{cost, machine, side, Timed, Joined, Usable, response}
use Rattle.reply.specs.Reply.{Reply}
use Rattle.rules.specs.Rules.{Answers, load}
use Rattle.rules.specs.Check.{holds, seen, first, found, listed, reply, report}
use Rattle.rules.specs.Execution.{Moves, Execution, Within, Kept}
use Rattle.rules.specs.Agree.{Alike, Shares}
use Rattle.rules.proofs.Kept.{kept}
use Rattle.rules.proofs.Runs.{execution}
use Rattle.rules.proofs.Report.{answers}

-- ---- figures

-- Where all tasks are released together and each job runs its worst, no figures are kept that are smaller than those reported.
pub least_figures :
    (g : Graph) → Usable g → (room n : ℕ) (l : List ℕ) → Answers g room (Ok n) l → ((i : ℕ) → i < count g → (task g i).offset ≡ 0)
    → (e : Execution g) → ((i k : ℕ) → i < count g → e.needs i k ≡ cost g i)
    → (l' : List ℕ) → Kept g l' e → (i : ℕ) → i < count g → get_or l i 0 ≤ get_or l' i 0
least_figures g ok room n l a together e worst l' k i h =
    let at : (task g i).offset + 0 * (task g i).period + get_or l' i 0 ≡ get_or l' i 0 = omega (arith, together i h) in
    met (machine g) 0 e.needs e.runs e.legal (λ j m. let t = ok.timed j m.counted in omega arith) (λ j m. together j m.counted) (λ j x m. worst j x m.counted) i
    (record { counted = h; bound = refl }) (get_or l i 0) (a.reports.figures i (omega (arith, a.reports.size))) (get_or l' i 0)
    (subst (λ t. ran e.runs i 0 t ≡ e.needs i 0) at (k.in_time i 0 h).finished)

-- one task alone, with a worst time of 2
abbrev pub alone : Graph
alone = record { tasks = record { period = 5; offset = 0; deadline = 5; worst = 2; priority = 1 } ∷ []; channels = []; relations = [] }

-- Later jobs count as the first does: where job 1 runs two ticks the figure 1 is not kept, whatever job 0 runs.
pub later_job : (e : Execution alone) → e.needs 0 1 ≡ 2 → ¬ Kept alone (1 ∷ []) e
unfolding task
later_job e n k =
    let s = k.in_time 0 1 (omega arith) in
    let all : ran e.runs 0 1 6 ≡ 2 = omega (arith, s.finished) in
    let (t, b, q, z) = nth_tick e.runs 0 1 0 6 (omega arith) in
    let (u, c, p, o) = nth_tick e.runs 0 1 1 6 (omega arith) in
    let same : t ≡ u = omega (arith, s.inside t q, s.inside u p) in
    omega (arith, ap (ran e.runs 0 1) same)

-- ---- queues

-- one task with a channel to itself: it puts one token and takes one in each job, which is one tick
abbrev pub looped : ℕ → ℕ → Graph
looped initial size =
    record {
      tasks = record { period = 5; offset = 0; deadline = 5; worst = 1; priority = 1 } ∷ [];
      channels =
          record {
            producer = 0;
            consumer = 0;
            initial = initial;
            size = size;
            production = record { prefix = []; cycle = 1 ∷ [] };
            consumption = record { prefix = []; cycle = 1 ∷ [] };
          }
          ∷ [];
      relations = [];
    }

module _ (initial size : ℕ) (e : Execution (looped initial size)) where
  abbrev g : Graph
  g = looped initial size

  mine : Mine (machine g) 0 0
  mine = record { counted = omega arith; bound = refl }

  one_tick : e.needs 0 0 ≡ 1
  unfolding task
  one_tick = omega (arith, e.legal.length 0 0 mine)

  starts : e.runs 0 ≡ job 0 0
  unfolding task ran sum
  starts = go (e.runs 0) (e.legal.choice 0)
    where
      go : (s : Slot) → May (machine g) 0 e.needs e.runs 0 s → s ≡ job 0 0
      go idle none = absurd (none 0 0 (record { mine = mine; released = omega arith; left = omega (arith, one_tick) }))
      go (job i k) f =
          let same : i ≡ 0 = omega (arith, f.ready.mine.counted) in
          let early : 0 + k * 5 ≤ 0 = subst (λ x. (task g x).offset + k * (task g x).period ≤ 0) same f.ready.released in
          let first_job : k ≡ 0 = omega arith in
          cc

  -- a side moves its one token in tick 0
  moves_one : (r : Rates) (moves : ℕ → ℕ) → rate (side g 0 r) 0 ≡ 1 → Moves g e.needs e.runs 0 r moves → moves 0 ≡ 1
  unfolding ran
  moves_one r moves one m =
      let here : tick 0 0 (e.runs 0) ≡ 1 = omega (arith, ap (tick 0 0) starts, tick_own 0 0) in
      let done = m.whole 0 1 (omega (arith, sum_suc (λ s. tick 0 0 (e.runs s)) 0, sum_zero (λ s. tick 0 0 (e.runs s)), one_tick)) in
      omega (arith, sum_suc (λ s. tick 0 0 (e.runs s) * moves s) 0, sum_zero (λ s. tick 0 0 (e.runs s) * moves s), ap (λ y. y * moves 0) here)

  puts_one : e.puts 0 0 ≡ 1
  unfolding link task rate_of list_of place_in
  puts_one = moves_one (record { prefix = []; cycle = 1 ∷ [] }) (e.puts 0) refl (e.putting 0 (omega arith))

  takes_one : e.takes 0 0 ≡ 1
  unfolding link task rate_of list_of place_in
  takes_one = moves_one (record { prefix = []; cycle = 1 ∷ [] }) (e.takes 0) refl (e.taking 0 (omega arith))

usable_loop : (initial size : ℕ) → Usable (looped initial size)
unfolding task link
usable_loop initial size = record { timed = timed; ends = ends }
  where
    timed : (i : ℕ) → i < 1 → Timed (task (looped initial size) i)
    timed zero h = record { some_deadline = omega arith; constrained = omega arith; some_work = omega arith }
    timed (suc i) h = absurd (omega arith)

    ends : (c : ℕ) → c < 1 → Joined (looped initial size) (link (looped initial size) c)
    ends zero h = record { producer_known = omega arith; consumer_known = omega arith; some_put = omega arith; some_take = omega arith }
    ends (suc c) h = absurd (omega arith)

-- with one token and room for two it is accepted, with the figure 1
computed : ◌≡◌ {A = Reply × List ℕ} (reply (looped 1 2) 1, report (looped 1 2) 1) (Ok 1, 1 ∷ [])
unfolding task link found first listed response holds seen load demand sum ceil from judge lcm ended rate_of list_of place_in
computed = refl

accepted_loop : Answers (looped 1 2) 1 (Ok 1) (1 ∷ [])
accepted_loop = subst (λ (o : Reply × List ℕ). Answers (looped 1 2) 1 o.0 o.1) computed (answers (looped 1 2) 1 (usable_loop 1 2))

-- it has an execution
pub loop_runs : (initial size : ℕ) → Execution (looped initial size)
unfolding task
loop_runs initial size = (execution (looped initial size) (usable_loop initial size) (λ _ _. 1) (λ i k h. (le_refl 1, one i h))).0
  where
    one : (i : ℕ) → i < 1 → 1 ≤ cost (looped initial size) i
    one zero h = le_refl 1
    one (suc i) h = absurd (omega arith)

pub loop_kept : (e : Execution (looped 1 2)) → Kept (looped 1 2) (1 ∷ []) e
loop_kept e = kept (looped 1 2) (usable_loop 1 2) 1 1 (1 ∷ []) accepted_loop e

-- Inside its first tick the queue is at its size when the put is made first, and at nothing when the take is; one token more of either breaks it.
pub brim :
    (e : Execution (looped 1 2)) → (e.puts 0 0 ≡ 1) × (e.takes 0 0 ≡ 1)
    × Within (looped 1 2) e 0 0 1 0 × ¬ Within (looped 1 2) e 0 0 2 0
    × Within (looped 1 2) e 0 0 0 1 × ¬ Within (looped 1 2) e 0 0 0 2
unfolding link
brim e =
    let puts = sum_zero (e.puts 0) in
    let takes = sum_zero (e.takes 0) in
    let p = puts_one 1 2 e in
    let q = takes_one 1 2 e in (
      p,
      q,
      (loop_kept e).in_bounds 0 0 1 0 (omega arith) (omega arith) (omega arith),
      λ w. let x = w.not_above in omega arith,
      (loop_kept e).in_bounds 0 0 0 1 (omega arith) (omega arith) (omega arith),
      λ w. let x = w.not_below in omega arith,
    )

-- With one place less, or one token less, no execution is kept, whatever the figures.
pub less_size : (l : List ℕ) (e : Execution (looped 1 1)) → ¬ Kept (looped 1 1) l e
unfolding link
less_size l e k =
    let p = puts_one 1 1 e in
    let w = (k.in_bounds 0 0 1 0 (omega arith) (omega arith) (omega arith)).not_above in
    omega (arith, sum_zero (e.puts 0), sum_zero (e.takes 0))

pub less_initial : (l : List ℕ) (e : Execution (looped 0 2)) → ¬ Kept (looped 0 2) l e
unfolding link
less_initial l e k =
    let q = takes_one 0 2 e in
    let w = (k.in_bounds 0 0 0 1 (omega arith) (omega arith) (omega arith)).not_below in
    omega (arith, sum_zero (e.puts 0), sum_zero (e.takes 0))

-- ---- agreeing tasks

-- two graphs with one task alike, at different places and offsets, and another of priority 2 that is not
abbrev pub of_tasks : List Task → Graph
of_tasks ts = record { tasks = ts; channels = []; relations = [] }

abbrev pub here : Graph
here =
    of_tasks
    (record { period = 4; offset = 0; deadline = 4; worst = 1; priority = 1 }
    ∷ record { period = 6; offset = 8; deadline = 6; worst = 2; priority = 2 }
    ∷ [])

abbrev pub there : Graph
there =
    of_tasks
    (record { period = 6; offset = 8; deadline = 6; worst = 3; priority = 2 }
    ∷ record { period = 4; offset = 3; deadline = 4; worst = 1; priority = 1 }
    ∷ [])

-- They agree up to 1, and not up to 2.
pub agree_to_one : Shares 1 here there × Shares 1 there here × ¬ Shares 2 here there
unfolding task
agree_to_one = (to, back, λ s. further (s 1 (omega arith) (omega arith)))
  where
    to : Shares 1 here there
    to zero h p = (1, omega arith, record { period = refl; deadline = refl; cost = refl; priority = refl })
    to (suc zero) h p = absurd (omega arith)
    to (suc (suc i)) h p = absurd (omega arith)

    back : Shares 1 there here
    back zero h p = absurd (omega arith)
    back (suc zero) h p = (0, omega arith, record { period = refl; deadline = refl; cost = refl; priority = refl })
    back (suc (suc i)) h p = absurd (omega arith)

    further : (j : ℕ) × (j < 2) × Alike here 1 there j → ⊥
    further (zero, h, a) = let c = a.cost in omega arith
    further (suc zero, h, a) = let c = a.cost in omega arith
    further (suc (suc j), h, a) = omega arith
