-- A search for the first fault, as one stage of the tests. Assumes nothing.
use mathlib.Core.Path.{◌≡◌, refl, ap, ◌∙◌, subst}
use mathlib.Core.Logic.{inl, inr}
use Prim.Native.Nat.{ℕ, ◌<◌}
use native.Mathlib.Omega.{arith}
use lib.ListN.{length}
use Rattle.std.specs.Prelude.{Option, Some, None, Err, option_map}
use Rattle.reply.specs.declared.Refusal.{Refusal}
use Rattle.reply.specs.declared.Refusal.TheVariants.{SamePriority, FalseRelation, Late}
use Rattle.reply.specs.Reply.{place}
use Rattle.reply.specs.Found.{Finds}
use Rattle.graph.specs.Model.{Graph, count}
use Rattle.rules.specs.Order.{key, Earlier}
use Rattle.rules.specs.Rules.{Repeats, Fails, Misses, Refuses}
use Rattle.rules.specs.Stages.{At, In, Earliest}
use Rattle.rules.proofs.Order.{irreflexive}
use Rattle.rules.proofs.Find.{kind}

-- the refusal on what a search finds, where the fault of item i is told by r i
module _ (g : Graph) (room n m : ℕ) (P : ℕ → Type 0) (r : ℕ → Refusal)
    (here : (i : ℕ) → At n i (r i))
    (is : (s : Refusal) → In n s → Refuses g room s → s ≡ r (place (Err s)))
    (to : (i : ℕ) → Refuses g room (r i) → (i < m) × P i)
    (from : (i : ℕ) → i < m → P i → Refuses g room (r i)) where
  pub search_finds : (f : Option ℕ) → Finds P m f → Earliest g room (In n) (option_map r f)
  search_finds None h = λ s d x. let (l, p) = to (place (Err s)) (subst (Refuses g room) (is s d x) x) in h (place (Err s)) l p
  search_finds (Some i) h = ((here i).0, from i h.0 h.1.0, not_sooner)
    where
      not_sooner : (s : Refusal) → In n s → Refuses g room s → ¬ Earlier s (r i)
      not_sooner s d x (inl y) = omega (arith, (here i).0)
      not_sooner s d x (inr (y, inl z)) = h.1.1 (place (Err s)) (omega (arith, (here i).1)) (to (place (Err s)) (subst (Refuses g room) (is s d x) x)).1
      not_sooner s d x (inr (y, inr (z, w))) =
          let e : s ≡ r i = is s d x ∙ ap r (omega (arith, (here i).1)) in
          irreflexive (key (r i)) (subst (λ t. Earlier t (r i)) e (inr (y, inr (z, w))))

-- the searches through tasks and relations as stages
module _ (g : Graph) (room : ℕ) where
  pub priority_finds : (f : Option ℕ) → Finds (Repeats g) (count g) f → Earliest g room (In 8) (option_map SamePriority f)
  priority_finds = search_finds g room 8 (count g) (Repeats g) SamePriority (λ i. (refl, refl)) (λ s e h. kind 8 s (omega arith) e) (λ i h. h) (λ i l h. (l, h))

  pub relation_finds : (f : Option ℕ) → Finds (Fails g) (length g.relations) f → Earliest g room (In 10) (option_map FalseRelation f)
  relation_finds = search_finds g room 10 (length g.relations) (Fails g) FalseRelation (λ i. (refl, refl)) (λ s e h. kind 10 s (omega arith) e) (λ i h. h) (λ i l h. (l, h))

  pub late_finds : (f : Option ℕ) → Finds (Misses g) (count g) f → Earliest g room (In 11) (option_map Late f)
  late_finds = search_finds g room 11 (count g) (Misses g) Late (λ i. (refl, refl)) (λ s e h. kind 11 s (omega arith) e) (λ i h. h) (λ i l h. (l, h))
