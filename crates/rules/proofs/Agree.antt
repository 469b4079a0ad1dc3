-- Accepted graphs that agree on the tasks of priority up to some number report the same figures for them. Assumes nothing.
use mathlib.Core.Path.{◌≡◌, refl, sym, ap, ap₂, ◌∙◌}
use mathlib.Core.Bool.{cond}
use mathlib.Core.List.{List}
use Prim.Native.Nat.{ℕ, ◌*◌, ◌≤◌, ◌<◌}
use native.Mathlib.Nat.{le_antisymm}
use native.Mathlib.Omega.{arith}
use borrow.Author.Tests.{eqb-true, lt-ltb, le-ltb, eq-eqb, ne_eqb}
use lib.Dec.{ltb, eqb}
use lib.ListN.{get_or}
use Rattle.numbers.specs.Numbers.{sum, ceil, least}
use Rattle.numbers.proofs.Sums.{cases, sum_ext, sum_mono, sum_swap, sum_at, sum_nought, sum_only}
use Rattle.numbers.proofs.Least.{least_is}
use Rattle.machine.specs.Machine.{demand}
use Rattle.graph.specs.Model.{Graph, count, task}
use Rattle.rules.specs.Terms.{cost, machine}
use Rattle.std.specs.Prelude.{Ok}
use Rattle.reply.specs.declared.Refusal.TheVariants.{SamePriority}
use Rattle.rules.specs.Rules.{Answers}
use Rattle.rules.specs.Agree.{Alike, Shares}
use Rattle.rules.proofs.Tests.{response_unique}
use Rattle.rules.proofs.Kept.{unrefused, distinct}

-- what is counted of the terms whose number is x
abbrev at : (ℕ → ℕ) → (ℕ → ℕ) → ℕ → ℕ → ℕ
at rank c n x = sum (λ j. cond (eqb (rank j) x) (c j) 0) n

-- a sum over the terms with smaller numbers, number by number
by_rank : (rank c : ℕ → ℕ) (n p : ℕ) → sum (λ j. cond (ltb (rank j) p) (c j) 0) n ≡ sum (at rank c n) p
by_rank rank c n p =
    sum_ext (λ j. cond (ltb (rank j) p) (c j) 0) (λ j. sum (λ x. cond (eqb (rank j) x) (c j) 0) p) n (λ j _. one j)
    ∙ sum_swap (λ j x. cond (eqb (rank j) x) (c j) 0) n p
  where
    term : (j x : ℕ) → ¬ (rank j ≡ x) → cond (eqb (rank j) x) (c j) 0 ≡ 0
    term j x d = ap (λ b. cond b (c j) 0) (ne_eqb (rank j) x d)

    one : (j : ℕ) → cond (ltb (rank j) p) (c j) 0 ≡ sum (λ x. cond (eqb (rank j) x) (c j) 0) p
    one j =
        cases p (rank j)
        (λ l. omega (
          arith,
          ap (λ b. cond b (c j) 0) (le-ltb (rank j) p l),
          sum_nought (λ x. cond (eqb (rank j) x) (c j) 0) p (λ x k. term j x (λ e. omega arith)),
        ))
        (λ l. omega (
          arith,
          ap (λ b. cond b (c j) 0) (lt-ltb (rank j) p l),
          sum_only (λ x. cond (eqb (rank j) x) (c j) 0) (rank j) p l (λ x _ d. term j x (λ e. d (sym e))),
          ap (λ b. cond b (c j) 0) (eq-eqb (rank j) (rank j) refl),
        ))

-- what task j adds to the demand at w
abbrev adds : Graph → ℕ → ℕ → ℕ
adds g w j = cost g j * ceil w (task g j).period

abbrev rank : Graph → ℕ → ℕ
rank g j = (task g j).priority

module _ (g h : Graph) (only : (i j : ℕ) → i < count g → j < count g → rank g i ≡ rank g j → i ≡ j) (n : ℕ) (shares : Shares n g h) (w : ℕ) where
  fewer_at : (x : ℕ) → x ≤ n → at (rank g) (adds g w) (count g) x ≤ at (rank h) (adds h w) (count h) x
  fewer_at x l =
      let i = least_is (λ j. eqb (rank g j) x) (count g) in
      let j : ℕ = least (λ j. eqb (rank g j) x) (count g) in
      cases (count g) j
      (λ none. omega (
        arith,
        sum_nought (λ k. cond (eqb (rank g k) x) (adds g w k) 0) (count g) (λ k m. ap (λ b. cond b (adds g w k) 0) (i.none_before k (omega arith))),
      ))
      (λ some.
      let e : rank g j ≡ x = eqb-true (rank g j) x (i.passes some) in
      let (j', l', a) = shares j some (omega arith) in
      let same : adds g w j ≡ adds h w j' = ap₂ (λ y z. y * ceil w z) a.cost a.period in
      omega (
        arith,
        sum_only (λ k. cond (eqb (rank g k) x) (adds g w k) 0) j (count g) some
            (λ k m d. ap (λ b. cond b (adds g w k) 0) (ne_eqb (rank g k) x (λ f. d (only k j m some (f ∙ sym e))))),
        ap (λ b. cond b (adds g w j) 0) (eq-eqb (rank g j) x e),
        ap (λ b. cond b (adds h w j') 0) (eq-eqb (rank h j') x (omega (arith, a.priority))),
        sum_at (λ k. cond (eqb (rank h k) x) (adds h w k) 0) j' (count h) l',
      ))

  demand_le : (i j : ℕ) → rank g i ≤ n → Alike g i h j → demand (machine g) i w ≤ demand (machine h) j w
  unfolding demand
  demand_le i j l a =
      omega (
        arith,
        a.cost,
        by_rank (rank g) (adds g w) (count g) (rank g i),
        by_rank (rank h) (adds h w) (count h) (rank h j),
        ap (sum (at (rank h) (adds h w) (count h))) a.priority,
        sum_mono (at (rank g) (adds g w) (count g)) (at (rank h) (adds h w) (count h)) (rank g i) (λ x k. fewer_at x (omega arith)),
      )

back : {g h : Graph} {i j : ℕ} → Alike g i h j → Alike h j g i
back a = record { period = sym a.period; deadline = sym a.deadline; cost = sym a.cost; priority = sym a.priority }

-- the reports l and l' of two accepted graphs, at a task that both have, wherever it stands in them
module _ (g h : Graph) (room room' : ℕ) (m m' : ℕ) (l l' : List ℕ) (ag : Answers g room (Ok m) l) (ah : Answers h room' (Ok m') l')
    (n : ℕ) (gh : Shares n g h) (hg : Shares n h g) where
  pub same_figures : (i j : ℕ) → i < count g → j < count h → (task g i).priority ≤ n → Alike g i h j → get_or l i 0 ≡ get_or l' j 0
  same_figures i j li lj p a =
      let noneg = unrefused g room ag.replies in
      let noneh = unrefused h room' ah.replies in
      let same : (w : ℕ) → demand (machine g) i w ≡ demand (machine h) j w = λ w.
      le_antisymm (demand_le g h (distinct g room (λ k. noneg (SamePriority k))) n gh w i j p a) (demand_le h g (distinct h room' (λ k. noneh (SamePriority k))) n hg w j i (omega (arith, a.priority)) (back a)) in
      let r = ag.reports.figures i (omega (arith, ag.reports.size)) in
      response_unique (machine h) j (get_or l i 0) (get_or l' j 0)
      (record {
        from_one = r.from_one;
        to_deadline = omega (arith, r.to_deadline, a.deadline);
        enough = omega (arith, r.enough, same (get_or l i 0));
        least = λ w q d. r.least w q (omega (arith, same w));
      })
      (ah.reports.figures j (omega (arith, ah.reports.size)))
