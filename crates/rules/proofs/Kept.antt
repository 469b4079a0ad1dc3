-- In every execution of an accepted graph each job is served in time, and no queue leaves its bounds. Assumes nothing.
use mathlib.Core.Path.{◌≡◌, refl, sym, ap}
use mathlib.Core.List.{List}
use mathlib.Core.Logic.{◌⊎◌, inl, inr}
use Prim.Native.Nat.{ℕ, suc, ◌+◌, ◌*◌, ◌≤◌, ◌<◌}
use native.Mathlib.Nat.{le_refl, mul-le-mul_left, lt_of_mul-lt-mul_right}
use native.Mathlib.Decide.{ℕ_discrete}
use native.Mathlib.Omega.{arith}
use borrow.Author.Tests.{lt-ltb}
use lib.ListN.{length, get_or}
use Rattle.std.specs.Prelude.{Ok}
use Rattle.numbers.specs.Numbers.{sum}
use Rattle.numbers.proofs.Sums.{cases, sum_suc, sum_ext, sum_plus, sum_swap, sum_le, sum_nought, sum_only}
use Rattle.machine.specs.Machine.{Slot, idle, job, tick, Tested, Served}
use Rattle.machine.proofs.Response.{tick_own, tick_of, ran_mono, ran_le, served}
use Rattle.channel.specs.Side.{release, rate}
use Rattle.channel.specs.Channel.{Passes, Part}
use Rattle.channel.proofs.Jobs.{release_late}
use Rattle.channel.proofs.Parts.{parts_stay}
use Rattle.graph.specs.Model.{Rates, Graph, count, task, link}
use Rattle.rules.specs.Terms.{machine, window, side, channel, Usable, response}
use Rattle.reply.specs.declared.Refusal.{Refusal}
use Rattle.reply.specs.declared.Refusal.TheVariants.{SamePriority, Late, InitialAboveSize, Unbalanced, Underflow, Overflow}
use Rattle.rules.specs.Rules.{Refuses, Replies, passes, Answers}
use Rattle.rules.specs.Execution.{Moves, Execution, Within, Kept}
use Rattle.rules.proofs.Exact.{to_passes}
use Rattle.rules.proofs.Tests.{late_tests, figure, response_unique, sound_producer, sound_consumer}

-- ---- what acceptance says

pub unrefused : (g : Graph) (room : ℕ) {n : ℕ} → Replies g room (Ok n) → (s : Refusal) → ¬ Refuses g room s
unrefused g room (passes a) = a

pub distinct : (g : Graph) (room : ℕ) → ((i : ℕ) → ¬ Refuses g room (SamePriority i))
    → (i j : ℕ) → i < count g → j < count g → (task g i).priority ≡ (task g j).priority → i ≡ j
distinct g room none i j li lj e =
    cases i j
    (λ h. cases j i (λ h'. omega arith) (λ h'. absurd (none j (lj, (i, h', e)))))
    (λ h. absurd (none i (li, (j, h, sym e))))

module _ (g : Graph) (ok : Usable g) (room : ℕ) (none : (s : Refusal) → ¬ Refuses g room s) where
  pub punctual : (i : ℕ) → i < count g → response g i ≤ (task g i).deadline
  punctual i l = cases (response g i) (task g i).deadline (λ h. h) (λ h. absurd (none (Late i) (l, (late_tests g i).0 (lt-ltb _ _ h))))

  pub tested : Tested (machine g) (response g)
  tested =
      record {
        constrained = λ i l. (ok.timed i l).constrained;
        distinct = distinct g room (λ k. none (SamePriority k));
        response = λ i l. figure g i (punctual i l);
      }

  -- a job is done when its window ends
  pub covers : (i : ℕ) → i < count g → response g i ≤ window g i
  covers = punctual

  passing : (c : ℕ) → c < length g.channels → Passes (channel g c)
  passing c l =
      to_passes g room c l
      (record {
        initial = none (InitialAboveSize c);
        balance = none (Unbalanced c);
        no_underflow = λ k. none (Underflow c k);
        no_overflow = λ j. none (Overflow c j);
      })

  module _ (e : Execution g) where
    in_time : (i k : ℕ) → i < count g → Served (machine g) e.needs e.runs (response g i) i k
    in_time i k l = served (machine g) 0 e.needs e.runs e.legal (response g) tested i (record { counted = l; bound = refl }) k

    -- ---- what the jobs of task i have moved inside tick t, a of its tokens being moved

    module _ (i : ℕ) (l : i < count g) (r : Rates) (moves : ℕ → ℕ) (ok_moves : Moves g e.needs e.runs i r moves) (t a : ℕ) (some_moved : a ≤ moves t) where
      abbrev upto : ℕ → ℕ → ℕ
      upto n k = sum (λ s. tick i k (e.runs s) * moves s) n

      abbrev moved : ℕ → ℕ
      moved k = upto t k + tick i k (e.runs t) * a

      nothing_in : (k s x : ℕ) → (e.runs s ≡ job i k → ⊥) → tick i k (e.runs s) * x ≡ 0
      nothing_in k s x h = go (tick_of i k (e.runs s))
        where
          go : (e.runs s ≡ job i k) ⊎ (tick i k (e.runs s) ≡ 0) → tick i k (e.runs s) * x ≡ 0
          go (inl q) = absurd (h q)
          go (inr q) = omega (arith, ap (λ y. y * x) q)

      -- all of the rate, once it is done
      all_of : (k n : ℕ) → release (side g i r) k + response g i ≤ n → upto n k ≡ rate (side g i r) k
      all_of k n h =
          ok_moves.whole k n
          (omega (arith, (in_time i k l).finished, ran_mono (machine g) 0 e.needs e.runs e.legal i k h, ran_le (machine g) 0 e.needs e.runs e.legal i k n))

      part : Part (side g i r) t moved
      part =
          record {
            at_most = λ k.
                let n : ℕ = suc t + (release (side g i r) k + response g i) in
                omega (
                  arith,
                  mul-le-mul_left (tick i k (e.runs t)) some_moved,
                  sum_suc (λ s. tick i k (e.runs s) * moves s) t,
                  sum_le (λ s. tick i k (e.runs s) * moves s) (suc t) n (omega arith),
                  all_of k n (omega arith),
                );
            all = λ k h.
                omega (
                  arith,
                  all_of k t (omega (arith, covers i l)),
                  nothing_in k t a (λ q. omega (arith, (in_time i k l).inside t q, covers i l)),
                );
            none = λ k h.
                let early : (s : ℕ) → s ≤ t → e.runs s ≡ job i k → ⊥ = λ s b q. omega (arith, (in_time i k l).inside s q) in
                omega (
                  arith,
                  sum_nought (λ s. tick i k (e.runs s) * moves s) t (λ s b. nothing_in k s (moves s) (early s (omega arith))),
                  nothing_in k t a (early t (le_refl t)),
                );
          }

      -- one job moves what a tick moves
      one_moves : (n s x : ℕ) → t < release (side g i r) n → s ≤ t → x ≤ moves s → sum (λ k. tick i k (e.runs s) * x) n ≡ x
      one_moves n s x h b m = go (e.runs s) refl
        where
          still : ((k : ℕ) → ¬ (e.runs s ≡ job i k)) → sum (λ k. tick i k (e.runs s) * x) n ≡ x
          still none_runs =
              omega (arith, ok_moves.running s none_runs, sum_nought (λ k. tick i k (e.runs s) * x) n (λ k _. nothing_in k s x (none_runs k)))

          go : (slot : Slot) → e.runs s ≡ slot → sum (λ k. tick i k (e.runs s) * x) n ≡ x
          go idle q = still (λ k q'. let z : ◌≡◌ {A = ℕ} 0 1 = cc in omega arith)
          go (job j k) q = elim (ℕ_discrete j i) [
            | no d ↦ still (λ k' q'. d (cc))
            | yes d ↦
                let here : e.runs s ≡ job i k = cc in
                let few : k < n = lt_of_mul-lt-mul_right (task g i).period (omega (arith, (in_time i k l).inside s here)) in
                omega (
                  arith,
                  sum_only (λ k'. tick i k' (e.runs s) * x) k n few (λ k' _ d'. nothing_in k' s x (λ q'. d' (cc))),
                  ap (λ y. tick i k y * x) here,
                  ap (λ y. y * x) (tick_own i k),
                )
          ]

      -- so the jobs together have moved what the ticks have
      together : (n : ℕ) → t < release (side g i r) n → sum moved n ≡ sum moves t + a
      together n h =
          omega (
            arith,
            sum_plus (upto t) (λ k. tick i k (e.runs t) * a) n,
            sum_swap (λ k s. tick i k (e.runs s) * moves s) n t,
            sum_ext (λ s. sum (λ k. tick i k (e.runs s) * moves s) n) moves t (λ s b. one_moves n s (moves s) h (omega arith) (le_refl (moves s))),
            one_moves n t a h (le_refl t) some_moved,
          )

    -- ---- both sides of a channel

    in_bounds : (c t a b : ℕ) → c < length g.channels → a ≤ e.puts c t → b ≤ e.takes c t → Within g e c t a b
    in_bounds c t a b l ha hb =
        let j = ok.ends c l in
        let p = sound_producer g room ok c l in
        let q = sound_consumer g room ok c l in
        let here_p : t < release (channel g c).producer (suc t) = release_late (channel g c).producer p (suc t) in
        let here_q : t < release (channel g c).consumer (suc t) = release_late (channel g c).consumer q (suc t) in
        let puts = together (link g c).producer j.producer_known (link g c).production (e.puts c) (e.putting c l) t a ha (suc t) here_p in
        let takes = together (link g c).consumer j.consumer_known (link g c).consumption (e.takes c) (e.taking c l) t b hb (suc t) here_q in
        let stay =
        parts_stay (channel g c) p q (passing c l) t
        (moved (link g c).producer j.producer_known (link g c).production (e.puts c) (e.putting c l) t a ha)
        (moved (link g c).consumer j.consumer_known (link g c).consumption (e.takes c) (e.taking c l) t b hb)
        (part (link g c).producer j.producer_known (link g c).production (e.puts c) (e.putting c l) t a ha)
        (part (link g c).consumer j.consumer_known (link g c).consumption (e.takes c) (e.taking c l) t b hb)
        (suc t) (suc t) here_p here_q in
        omega arith

-- what an accepted graph is promised
pub kept : (g : Graph) → Usable g → (room n : ℕ) (l : List ℕ) → Answers g room (Ok n) l → (e : Execution g) → Kept g l e
kept g ok room n l a e =
    let none = unrefused g room a.replies in
    let reported : (i : ℕ) → i < count g → get_or l i 0 ≡ response g i = λ i h.
    response_unique (machine g) i (get_or l i 0) (response g i) (a.reports.figures i (omega (arith, a.reports.size))) (figure g i (punctual g ok room none i h)) in
    record { in_time = λ i k h. rw (reported i h) (in_time g ok room none e i k h); in_bounds = in_bounds g ok room none e }
