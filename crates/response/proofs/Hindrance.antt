-- What the rivals of a task ask for, and how much that is at most. Assumes nothing.
use mathlib.Core.Path.{◌≡◌, refl, sym, ap}
use mathlib.Core.Bool.{Bool, true, false, cond}
use mathlib.Core.List.{List, [], ◌∷◌, ◌++◌}
use Prim.Native.Nat.{ℕ, ◌+◌, ◌^◌, ◌*◌, ◌≤◌, ◌<◌}
use native.Mathlib.Nat.{le_refl, mul-le-mul}
use native.Mathlib.Numerals.{add-one}
use native.Mathlib.Omega.{arith}
use lib.ListN.{length}
use Rattle.std.specs.Prelude.{sum_by, All, Option, Some, None}
use Rattle.std.proofs.lemmas.List.{length-append}
use Rattle.std.proofs.lemmas.List.Elements.{All-push}
use Rattle.std.proofs.lemmas.List.Sums.{sum_by-le, sum_by_push}
use Rattle.numbers.specs.Numbers.{ceil}
use Rattle.numbers.proofs.Sums.{cases, sum_suc, sum_zero, ceil_least}
use Rattle.machine.specs.Machine.{above, demand}
use Rattle.graph.specs.declared.Task.{Task}
use Rattle.graph.specs.Model.{Graph, count, task, task_of}
use Rattle.format.specs.Ranges.{TaskRange}
use Rattle.rules.specs.Given.{Of}
use Rattle.rules.specs.Terms.{cost, cost_of, machine}
use Rattle.tasks.proofs.Given.{task_is}
use Rattle.response.specs.declared.Rival.{Rival}
use Rattle.response.specs.Rivals.{asked, hindrance, RivalRange, Searched}
use Rattle.response.specs.Response.{Responds}

-- no more jobs than ticks, each of at most a million ticks
asked_most : (w : ℕ) (r : Rival) → RivalRange r → asked w r ≤ 1_000_000 * w
unfolding asked
asked_most w r h =
    let wide : w * 1 ≤ w * r.period = mul-le-mul (le_refl w) h.some_period in
    mul-le-mul h.cost (ceil_least w w h.some_period (omega arith))

pub demand_fits : (own w : ℕ) (rs : List Rival) → own < 2 ^ 32 → w < 2 ^ 32 → length rs ≤ 32 → All RivalRange rs → own + sum_by (asked w) rs < 2 ^ 64
demand_fits own w rs small early few h =
    let most : length rs * (1_000_000 * w) ≤ 32 * (1_000_000 * 4_294_967_296) = mul-le-mul {n₂ = 32} {m₂ = 1_000_000 * 4_294_967_296} few (omega arith) in
    omega (arith, sum_by-le (asked w) (1_000_000 * w) rs (λ k d l. asked_most w _ (h k d l)), most)

pub hindrance_more : (g : Graph) (i w j : ℕ) (b : Bool) → b ≡ above (machine g) i j
    → hindrance g i (j + 1) w ≡ hindrance g i j w + cond b (cost g j * ceil w (task g j).period) 0
unfolding hindrance
hindrance_more g i w j b e = rw (add-one, e) (sum_suc _ j)

-- what is gathered of the rivals of task i once j tasks are passed
pub record Gathered (ts : List Task) (i : ℕ) (rs : List Rival) (j : ℕ) : Type 0 where
  pub few : length rs ≤ j
  pub in_range : All RivalRange rs
  pub hinder : Of ts (λ g. (w : ℕ) → sum_by (asked w) rs ≡ hindrance g i j w)

pub gathered_none : (ts : List Task) (i : ℕ) → Gathered ts i [] 0
unfolding hindrance
gathered_none ts i = record { few = omega arith; in_range = λ k d l. absurd (omega arith); hinder = λ g e w. sym (sum_zero _) }

-- one task more, which interferes or not
module _ (ts : List Task) (i : ℕ) (rs : List Rival) (j : ℕ) (s : Gathered ts i rs j) where
  pub gathered_pass : Of ts (λ g. false ≡ above (machine g) i j) → Gathered ts i rs (j + 1)
  gathered_pass a =
      record { few = omega (arith, s.few); in_range = s.in_range; hinder = λ g e w. omega (arith, s.hinder g e w, hindrance_more g i w j false (a g e)) }

  pub gathered_more : Of ts (λ g. true ≡ above (machine g) i j) → TaskRange (task_of ts j)
      → Gathered ts i (rs ++ record { cost = cost_of (task_of ts j); period = (task_of ts j).period } ∷ []) (j + 1)
  unfolding asked
  gathered_more a h =
      let one : Rival = record { cost = cost_of (task_of ts j); period = (task_of ts j).period } in
      record {
        few = omega (arith, s.few, length-append rs (one ∷ []));
        in_range = All-push RivalRange rs one s.in_range (record { cost = omega (arith, h); some_period = h.some_period; period = h.period });
        hinder = λ g e w.
            let same : cost g j * ceil w (task g j).period ≡ asked w one = ap (λ (t : Task). cost_of t * ceil w t.period) (task_is g e j) in
            omega (arith, s.hinder g e w, hindrance_more g i w j true (a g e), sum_by_push (asked w) rs one, same);
      }

pub demand_is : (g : Graph) (i w : ℕ) → demand (machine g) i w ≡ cost g i + hindrance g i (count g) w
unfolding demand hindrance
demand_is g i w = refl

-- what is searched for with the demand of task i, up to its deadline, is its response
module _ (g : Graph) (i : ℕ) (d : ℕ → ℕ) (same : (w : ℕ) → d w ≡ cost g i + hindrance g i (count g) w) where
  pub responds : (r : Option ℕ) → Searched d (task g i).deadline r → Responds g i r
  responds None s = λ w h l. omega (arith, same w, demand_is g i w, s w h l)
  responds (Some r) (a, (b, (c, f))) =
      record {
        from_one = a;
        to_deadline = b;
        enough = omega (arith, same r, demand_is g i r);
        least = λ w h q. cases r w (λ l. l) (λ l. absurd (omega (arith, f w h l, same w, demand_is g i w)));
      }
