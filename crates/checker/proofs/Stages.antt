-- What the tests of tasks and relations found, stage after stage. Assumes nothing.
use mathlib.Core.Path.{◌≡◌, sym, ap, subst}
use mathlib.Core.Bool.{Bool, true, false}
use mathlib.Core.List.{List}
use Prim.Native.Nat.{ℕ, ◌≤◌, ◌<◌}
use native.Mathlib.Omega.{arith}
use borrow.Author.Tests.{lt-ltb, le-ltb}
use lib.Dec.{ltb}
use lib.ListN.{length}
use Rattle.std.specs.Prelude.{Option, Some, None, option_map, Ok, Err}
use Rattle.reply.specs.declared.Refusal.TheVariants.{SamePriority, ShortReport, FalseRelation, Late, Overloaded}
use Rattle.reply.specs.Found.{Finds}
use Rattle.graph.specs.declared.Task.{Task}
use Rattle.graph.specs.declared.Relation.{Relation}
use Rattle.graph.specs.Model.{Graph, count}
use Rattle.relations.specs.Relation.{Both}
use Rattle.rules.specs.Given.{Of}
use Rattle.rules.specs.Rules.{Repeats, Fails, Misses, load}
use Rattle.rules.specs.Stages.{Earliest, Upto, In}
use Rattle.rules.specs.Check.{when}
use Rattle.rules.proofs.Find.{next_finds, later_finds}
use Rattle.rules.proofs.Found.{priority_finds, relation_finds, late_finds}
use Rattle.rules.proofs.Tests.{room_finds, load_finds}
use Rattle.checker.specs.Outcome.{Behind}

module _ (ts : List Task) (room : ℕ) where
  abbrev pub Has : Graph → Type 0
  Has g = g.tasks ≡ ts

  -- what is found in the tasks is found in the graph
  in_graph : (P : Graph → ℕ → Type 0) (f : Option ℕ) → Of ts (λ g. Finds (P g) (length ts) f) → (g : Graph) → Has g → Finds (P g) (count g) f
  in_graph P f h g e = subst (λ n. Finds (P g) n f) (ap length (sym e)) (h g e)

  -- ---- tests 8 and 9

  priorities : (f : Option ℕ) → Of ts (λ g. Finds (Repeats g) (length ts) f) → (g : Graph) → Has g → Earliest g room (Upto 8) None → Earliest g room (Upto 9) (option_map SamePriority f)
  priorities f h g e z = next_finds g room 8 None (option_map SamePriority f) z (priority_finds g room f (in_graph Repeats f h g e))

  pub repeated : {A : Type 0} (i : ℕ) → Of ts (λ g. Finds (Repeats g) (length ts) (Some i)) → Behind {A = A} 8 10 room Has (Err (SamePriority i))
  repeated i h = record { so = λ g e z. later_finds g room 9 10 (SamePriority i) (omega arith) (priorities (Some i) h g e z) }

  -- with no priority seen before, the room decides
  module _ (none_seen : Of ts (λ g. Finds (Repeats g) (length ts) None)) where
    roomy : (b : Bool) → ltb room (length ts) ≡ b → (g : Graph) → Has g → Earliest g room (Upto 8) None → Earliest g room (Upto 10) (when b (ShortReport (length ts)))
    roomy b q g e z =
        next_finds g room 9 None (when b (ShortReport (length ts))) (priorities None none_seen g e z)
        (subst (λ x. Earliest g room (In 9) (when x (ShortReport (length ts)))) q
        (subst (λ l. Earliest g room (In 9) (when (ltb room (length l)) (ShortReport (length l)))) e (room_finds g room)))

    pub short : {A : Type 0} → room < length ts → Behind {A = A} 8 10 room Has (Err (ShortReport (length ts)))
    short l = record { so = roomy true (lt-ltb room (length ts) l) }

    pub enough : {A : Type 0} → length ts ≤ room → (x : A) → Behind {A = A} 8 10 room Has (Ok x)
    enough l x = record { so = roomy false (le-ltb room (length ts) l) }

  -- ---- tests 11 and 12

  lates : (f : Option ℕ) → Of ts (λ g. Finds (Misses g) (length ts) f) → (g : Graph) → Has g → Earliest g room (Upto 11) None → Earliest g room (Upto 12) (option_map Late f)
  lates f h g e z = next_finds g room 11 None (option_map Late f) z (late_finds g room f (in_graph Misses f h g e))

  pub late : {A : Type 0} (i : ℕ) → Of ts (λ g. Finds (Misses g) (length ts) (Some i)) → Behind {A = A} 11 13 room Has (Err (Late i))
  late i h = record { so = λ g e z. later_finds g room 12 13 (Late i) (omega arith) (lates (Some i) h g e z) }

  -- with no task late, the load decides
  module _ (none_late : Of ts (λ g. Finds (Misses g) (length ts) None)) (b : Bool) (is : Of ts (λ g. b ≡ ltb 1_000_000 (load g))) where
    loaded : (g : Graph) → Has g → Earliest g room (Upto 11) None → Earliest g room (Upto 13) (when b Overloaded)
    loaded g e z =
        next_finds g room 12 None (when b Overloaded) (lates None none_late g e z)
        (subst (λ x. Earliest g room (In 12) (when x Overloaded)) (sym (is g e)) (load_finds g room))

    pub heavy : {A : Type 0} → b ≡ true → Behind {A = A} 11 13 room Has (Err Overloaded)
    heavy q = record { so = λ g e z. subst (λ x. Earliest g room (Upto 13) (when x Overloaded)) q (loaded g e z) }

    pub light : {A : Type 0} → b ≡ false → (x : A) → Behind {A = A} 11 13 room Has (Ok x)
    light q x = record { so = λ g e z. subst (λ y. Earliest g room (Upto 13) (when y Overloaded)) q (loaded g e z) }

-- ---- test 10

module _ (ts : List Task) (rs : List Relation) (room : ℕ) where
  abbrev pub Relates : Graph → Type 0
  Relates g = (g.tasks ≡ ts) × (g.relations ≡ rs)

  falsehoods : (f : Option ℕ) → Both ts rs (λ g. Finds (Fails g) (length rs) f) → (g : Graph) → Relates g → Earliest g room (Upto 10) None → Earliest g room (Upto 11) (option_map FalseRelation f)
  falsehoods f h g (e, d) z =
      next_finds g room 10 None (option_map FalseRelation f) z
      (relation_finds g room f (subst (λ n. Finds (Fails g) n f) (ap length (sym d)) (h g e d)))

  pub untrue : {A : Type 0} (i : ℕ) → Both ts rs (λ g. Finds (Fails g) (length rs) (Some i)) → Behind {A = A} 10 11 room Relates (Err (FalseRelation i))
  untrue i h = record { so = falsehoods (Some i) h }
