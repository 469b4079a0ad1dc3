-- A number that names a task finds its period and offset, so the equations over what is found are the relation's. Assumes nothing.
use mathlib.Core.Path.{◌≡◌, sym, ap, ◌∙◌}
use mathlib.Core.Bool.{cond}
use mathlib.Core.Logic.{◌↔◌}
use mathlib.Core.List.{List}
use Prim.Native.Nat.{ℕ, ◌<◌}
use borrow.Author.Tests.{lt-ltb}
use lib.ListN.{length, get_or}
use Rattle.std.specs.Prelude.{Option, Some, None, MatchOption}
use Rattle.std.specs.Prelude.{All as Each}
use Rattle.numbers.specs.Lists.{All}
use Rattle.numbers.proofs.Lists.{all_at}
use Rattle.format.specs.Ranges.{RelationRange}
use Rattle.std.specs.List.{AllWithin, HoldsAt}
use native.Mathlib.Omega.{arith}
use Rattle.graph.specs.declared.Task.{Task}
use Rattle.graph.specs.declared.Relation.{Relation}
use Rattle.graph.specs.Model.{Graph, task, task_of, relation, no_relation}
use Rattle.reply.specs.Found.{Finds}
use Rattle.rules.specs.Rules.{Holds, Fails}
use Rattle.tasks.proofs.Given.{task_is}
use Rattle.relations.specs.declared.Times.{Times}
use Rattle.relations.specs.Find.{times, found}
use Rattle.relations.specs.Relation.{Equations}

-- what is found at a number that names a task
pub finds : (ts : List Task) (i : ℕ) (t : Times) → i < length ts → Some t ≡ found ts i → t ≡ times (task_of ts i)
finds ts i t h e = cc (e ∙ ap (λ b. cond b (Some (times (task_of ts i))) None) (lt-ltb i (length ts) h))

module _ (ts : List Task) (p q : Times) (r : Relation) (first : p ≡ times (task_of ts r.p)) (second : q ≡ times (task_of ts r.q)) where
  pub equations_hold : (g : Graph) → g.tasks ≡ ts → Equations p q r ↔ Holds g r
  equations_hold g e =
      let a : p ≡ times (task g r.p) = first ∙ ap times (sym (task_is g e r.p)) in
      let b : q ≡ times (task g r.q) = second ∙ ap times (sym (task_is g e r.q)) in
      rw (a, b) (λ h. record { periods = h.0; phases = h.1 }, λ h. (h.periods, h.phases))

relation_is : {rs : List Relation} (g : Graph) → g.relations ≡ rs → (i : ℕ) → relation g i ≡ get_or rs i no_relation
unfolding relation
relation_is g e i = ap (λ l. get_or l i no_relation) e

-- the first of the list that doesn't hold is the first that fails
module _ {rs : List Relation} (g : Graph) (e : g.relations ≡ rs) where
  pub first_fails : (r : Option ℕ)
      → MatchOption r (AllWithin (Holds g) rs 0 (length rs)) (λ i. (i < length rs) × HoldsAt (λ r. ¬ Holds g r) rs i × AllWithin (Holds g) rs 0 i)
      → Finds (Fails g) (length rs) r
  first_fails None h = λ i l f. f (rw (relation_is g e i) (h i no_relation (omega arith) l))
  first_fails (Some i) (l, fault, before) = (
    l,
    (
      λ h. fault no_relation (rw (sym (relation_is g e i)) h),
      λ j k f. f (rw (relation_is g e j) (before j no_relation (omega arith) k)),
    ),
  )

pub each : (n : ℕ) (rs : List Relation) → All (RelationRange n) rs → Each (RelationRange n) rs
each n rs h = λ k d l. all_at (RelationRange n) rs d h k l
