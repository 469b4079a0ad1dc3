-- Testing in the order of the tests finds the earliest refusal. Assumes nothing.
use mathlib.Core.Path.{◌≡◌, refl, ap, ◌∙◌, subst}
use mathlib.Core.Bool.{Bool, true, false, false≢true}
use mathlib.Core.Logic.{◌⊎◌, inl, inr, ⊎_elim, ◌↔◌}
use Prim.Native.Nat.{ℕ, zero, suc, ◌≤◌, ◌<◌}
use native.Mathlib.Nat.{le_refl}
use native.Mathlib.Decide.{dec_lt}
use native.Mathlib.Omega.{arith}
use lib.ListN.{length}
use Rattle.std.specs.Prelude.{Option, Some, None, Err}
use Rattle.std.specs.Option.{option_or}
use Rattle.graph.specs.Model.{Graph, count}
use Rattle.reply.specs.declared.Refusal.{Refusal}
use Rattle.reply.specs.declared.Refusal.TheVariants.{SamePriority, ShortReport, FalseRelation, Late, Overloaded, InitialAboveSize, Unbalanced, WindowTooLong, Underflow, Overflow, UnknownKind, CutShort, OutOfOrder, OutOfRange, TooMany, NoTask, EmptyCycle, NoFile, ShortOutput}
use Rattle.reply.specs.Reply.{number, place, job}
use Rattle.rules.specs.Order.{stage, key, Earlier}
use Rattle.rules.specs.Rules.{Refuses, Replies, passes, fails}
use Rattle.rules.specs.Stages.{At, Below, Upto, In, Earliest}
use Rattle.rules.specs.Check.{when, first, given}
use Rattle.rules.proofs.Order.{named, named_at, irreflexive}

-- before the channels a stage has one kind of reply
pub kind : (n : ℕ) (s : Refusal) → n < 13 → In n s → s ≡ named n (place (Err s)) (job (Err s))
kind n s l e = named_at s n (omega arith)

module _ (g : Graph) (room : ℕ) where
  -- where a refusal stands
  pub known : (s : Refusal) → Refuses g room s → (8 ≤ number (Err s)) × (number (Err s) ≤ 17) × (13 ≤ number (Err s) → place (Err s) < length g.channels)
  known (SamePriority i) h = omega arith
  known (ShortReport n) h = omega arith
  known (FalseRelation r) h = omega arith
  known (Late i) h = omega arith
  known Overloaded h = omega arith
  known (InitialAboveSize c) h = omega arith
  known (Unbalanced c) h = omega arith
  known (WindowTooLong c) h = omega arith
  known (Underflow c k) h = omega arith
  known (Overflow c j) h = omega arith
  known (UnknownKind x) h = absurd h
  known (CutShort x) h = absurd h
  known (OutOfOrder x) h = absurd h
  known (OutOfRange x) h = absurd h
  known (TooMany x) h = absurd h
  known NoTask h = absurd h
  known (EmptyCycle x) h = absurd h
  known NoFile h = absurd h
  known (ShortOutput x) h = absurd h

  -- one test, of the one refusal that D can have
  pub when_finds : (D : Refusal → Type 0) (b : Bool) (r : Refusal) → D r → (b ≡ true → Refuses g room r)
      → ((s : Refusal) → D s → Refuses g room s → (s ≡ r) × (b ≡ true))
      → Earliest g room D (when b r)
  when_finds D true r d yes_it only = (d, yes_it refl, λ s ds h x. irreflexive (key r) (subst (λ y. Earlier y r) (only s ds h).0 x))
  when_finds D false r d yes_it only = λ s ds h. absurd (false≢true (only s ds h).1)

  -- a search that finds nothing leaves it to the next
  or_finds : (D E F : Refusal → Type 0) → ((s : Refusal) → F s → D s ⊎ E s) → ((s : Refusal) → D s → F s) → ((s : Refusal) → E s → F s)
      → ((r s : Refusal) → D r → E s → ¬ Earlier s r) → (a b : Option Refusal) → Earliest g room D a → Earliest g room E b → Earliest g room F (option_or a b)
  or_finds D E F part df ef after None None a b = λ s f h. ⊎_elim (λ d. a s d h) (λ e. b s e h) (part s f)
  or_finds D E F part df ef after None (Some r) a (e, h, l) = (ef r e, h, λ s f k x. ⊎_elim (λ d. a s d k) (λ e'. l s e' k x) (part s f))
  or_finds D E F part df ef after (Some r) b (d, h, l) c = (df r d, h, λ s f k x. ⊎_elim (λ d'. l s d' k x) (λ e. after r s d e x) (part s f))

  first_finds : (n : ℕ) (f : ℕ → Option Refusal) (m : ℕ) → ((i : ℕ) → i < m → Earliest g room (At n i) (f i)) → Earliest g room (Below n m) (first f m)
  unfolding first
  first_finds n f zero h = λ s d k. absurd (omega (arith, d.1))
  first_finds n f (suc m) h =
      or_finds (Below n m) (At n m) (Below n (suc m)) part (λ s d. (d.0, omega (arith, d.1))) (λ s d. (d.0, omega (arith, d.1))) after
      (first f m) (f m) (first_finds n f m (λ i l. h i (omega arith))) (h m (le_refl (suc m)))
    where
      part : (s : Refusal) → Below n (suc m) s → Below n m s ⊎ At n m s
      part s (e, l) = elim (dec_lt (place (Err s)) m) [ yes k ↦ inl (e, k) | no k ↦ inr (e, omega arith) ]

      after : (r s : Refusal) → Below n m r → At n m s → ¬ Earlier s r
      after r s d e (inl x) = omega (arith, d.0, e.0)
      after r s d e (inr (x, inl y)) = omega (arith, d.1, e.1)
      after r s d e (inr (x, inr (y, z))) = omega (arith, d.1, e.1)

  -- a stage whose refusals have places below m
  pub stage_finds : (n m : ℕ) (f : ℕ → Option Refusal) → ((s : Refusal) → In n s → Refuses g room s → place (Err s) < m)
      → ((i : ℕ) → i < m → Earliest g room (At n i) (f i))
      → Earliest g room (In n) (first f m)
  stage_finds n m f few h = go (first f m) (first_finds n f m h)
    where
      go : (o : Option Refusal) → Earliest g room (Below n m) o → Earliest g room (In n) o
      go None k = λ s e x. k s (e, few s e x) x
      go (Some r) (d, x, l) = (d.0, x, λ s e y. l s (e, few s e y) y)

  -- a stage that tests each place i by b i, for the one refusal r i that it can have
  pub tests_find : (n m : ℕ) (b : ℕ → Bool) (r : ℕ → Refusal) → ((i : ℕ) → At n i (r i))
      → ((s : Refusal) → In n s → Refuses g room s → s ≡ r (place (Err s)))
      → ((i : ℕ) → Refuses g room (r i) → i < m)
      → ((i : ℕ) → i < m → (b i ≡ true) ↔ Refuses g room (r i))
      → Earliest g room (In n) (first (λ i. when (b i) (r i)) m)
  tests_find n m b r here is few iff =
      stage_finds n m (λ i. when (b i) (r i)) (λ s e h. few (place (Err s)) (subst (Refuses g room) (is s e h) h))
      (λ i k.
      when_finds (At n i) (b i) (r i) (here i) (iff i k).0
      (λ s d h. let q : s ≡ r i = is s d.0 h ∙ ap r d.1 in (q, (iff i k).1 (subst (Refuses g room) q h))))

  -- stage after stage
  pub next_finds : (n : ℕ) (a b : Option Refusal) → Earliest g room (Upto n) a → Earliest g room (In n) b → Earliest g room (Upto (suc n)) (option_or a b)
  next_finds n = or_finds (Upto n) (In n) (Upto (suc n)) part (λ s d. omega (arith, d)) (λ s d. omega (arith, d)) after
    where
      part : (s : Refusal) → Upto (suc n) s → Upto n s ⊎ In n s
      part s l = elim (dec_lt (stage s) n) [ yes k ↦ inl k | no k ↦ inr (omega arith) ]

      after : (r s : Refusal) → Upto n r → In n s → ¬ Earlier s r
      after r s d e (inl x) = omega arith
      after r s d e (inr (x, y)) = omega arith

  pub nothing : Earliest g room (Upto 8) None
  nothing s l h = omega (arith, known s h)

  pub given_replies : (o : Option Refusal) → Earliest g room (Upto 14) o → Replies g room (given o (count g))
  given_replies None f = passes (λ s h. f s (omega arith) h)
  given_replies (Some r) (d, h, l) = fails r h (λ s k. l s (omega arith) k)

  -- the earliest refusal so far stays the earliest, whatever later tests would find
  pub later_finds : (n m : ℕ) (r : Refusal) → n ≤ m → Earliest g room (Upto n) (Some r) → Earliest g room (Upto m) (Some r)
  later_finds n m r h (d, x, l) = (omega arith, x, go)
    where
      after : (s : Refusal) → n ≤ stage s → ¬ Earlier s r
      after s k (inl y) = omega arith
      after s k (inr (y, z)) = omega arith

      go : (s : Refusal) → Upto m s → Refuses g room s → ¬ Earlier s r
      go s k y = elim (dec_lt (stage s) n) [ yes a ↦ l s a y | no a ↦ after s (omega arith) ]

  -- places below c pass and place c doesn't
  pub place_finds : (n c : ℕ) (r : Refusal) → ((i : ℕ) → i < c → Earliest g room (At n i) None) → Earliest g room (At n c) (Some r) → Earliest g room (In n) (Some r)
  place_finds n c r before (d, x, l) = (d.0, x, λ s e y. at_place s e y)
    where
      later : (s : Refusal) → In n s → c < place (Err s) → ¬ Earlier s r
      later s e k (inl y) = omega (arith, d.0)
      later s e k (inr (y, inl z)) = omega (arith, d.1)
      later s e k (inr (y, inr (z, w))) = omega (arith, d.1)

      at_place : (s : Refusal) → In n s → Refuses g room s → ¬ Earlier s r
      at_place s e y = elim (dec_lt (place (Err s)) c) [
        | yes k ↦ absurd (before (place (Err s)) k s (e, refl) y)
        | no k ↦ elim (dec_lt c (place (Err s))) [ yes m ↦ later s e m | no m ↦ l s (e, omega arith) y ]
      ]

  -- every place passes
  pub places_find : (n m : ℕ) → ((s : Refusal) → In n s → Refuses g room s → place (Err s) < m) → ((i : ℕ) → i < m → Earliest g room (At n i) None) → Earliest g room (In n) None
  places_find n m few all s e y = all (place (Err s)) (few s e y) s (e, refl) y
