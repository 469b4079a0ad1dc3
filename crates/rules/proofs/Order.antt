-- The order of the tests is total, so a graph has one reply. Assumes nothing.
use mathlib.Core.Path.{◌≡◌, refl, sym, ap, ◌∙◌}
use mathlib.Core.Bool.{cond}
use mathlib.Core.List.{List, [], ◌∷◌}
use mathlib.Core.Logic.{inl, inr}
use Prim.Native.Nat.{ℕ, ◌<◌}
use native.Mathlib.Omega.{arith}
use lib.Dec.{eqb}
use lib.ListN.{length}
use Rattle.std.specs.Prelude.{Err}
use Rattle.graph.specs.Model.{Graph}
use Rattle.reply.specs.declared.Refusal.{Refusal}
use Rattle.reply.specs.declared.Refusal.TheVariants.{SamePriority, ShortReport, FalseRelation, Late, Overloaded, InitialAboveSize, Unbalanced, WindowTooLong, Underflow, Overflow, UnknownKind, CutShort, OutOfOrder, OutOfRange, TooMany, NoTask, EmptyCycle, NoFile, ShortOutput}
use Rattle.reply.specs.Reply.{Reply, number, place, job}
use Rattle.rules.specs.Order.{key, Sooner}
use Rattle.rules.specs.Rules.{Replies, passes, fails}

-- the refusal of a number, a place and a job
abbrev pub named : ℕ → ℕ → ℕ → Refusal
named n p j =
    cond (eqb n 1) (UnknownKind p)
    (cond (eqb n 2) (CutShort p)
    (cond (eqb n 3) (OutOfOrder p)
    (cond (eqb n 4) (OutOfRange p)
    (cond (eqb n 5) (TooMany p)
    (cond (eqb n 6) NoTask
    (cond (eqb n 7) (EmptyCycle p)
    (cond (eqb n 8) (SamePriority p)
    (cond (eqb n 9) (ShortReport p)
    (cond (eqb n 10) (FalseRelation p)
    (cond (eqb n 11) (Late p)
    (cond (eqb n 12) Overloaded
    (cond (eqb n 13) (InitialAboveSize p)
    (cond (eqb n 14) (Unbalanced p)
    (cond (eqb n 15) (WindowTooLong p)
    (cond (eqb n 16) (Underflow p j)
    (cond (eqb n 17) (Overflow p j)
    (cond (eqb n 18) NoFile (ShortOutput p))))))))))))))))))

named_is : (r : Refusal) → r ≡ named (number (Err r)) (place (Err r)) (job (Err r))
named_is (UnknownKind x) = refl
named_is (CutShort x) = refl
named_is (OutOfOrder x) = refl
named_is (OutOfRange x) = refl
named_is (TooMany x) = refl
named_is NoTask = refl
named_is (EmptyCycle x) = refl
named_is (SamePriority x) = refl
named_is (ShortReport x) = refl
named_is (FalseRelation x) = refl
named_is (Late x) = refl
named_is Overloaded = refl
named_is (InitialAboveSize x) = refl
named_is (Unbalanced x) = refl
named_is (WindowTooLong x) = refl
named_is (Underflow x y) = refl
named_is (Overflow x y) = refl
named_is NoFile = refl
named_is (ShortOutput x) = refl

-- a refusal is known by its number
pub named_at : (r : Refusal) (n : ℕ) → number (Err r) ≡ n → r ≡ named n (place (Err r)) (job (Err r))
named_at r n e = named_is r ∙ ap (λ x. named x (place (Err r)) (job (Err r))) e

pub irreflexive : (xs : List ℕ) → ¬ Sooner xs xs
irreflexive [] h = h
irreflexive (x ∷ xs) (inl l) = omega arith
irreflexive (x ∷ xs) (inr (e, h)) = irreflexive xs h

-- neither of two lists of one length is sooner only where they are equal
total : (xs ys : List ℕ) → length xs ≡ length ys → ¬ Sooner xs ys → ¬ Sooner ys xs → xs ≡ ys
total [] [] l a b = refl
total [] (y ∷ ys) l a b = absurd (omega arith)
total (x ∷ xs) [] l a b = absurd (omega arith)
total (x ∷ xs) (y ∷ ys) l a b =
    let p : ¬ (x < y) = λ h. a (inl h) in
    let q : ¬ (y < x) = λ h. b (inl h) in
    let e : x ≡ y = omega arith in
    let t : xs ≡ ys = total xs ys (omega arith) (λ h. a (inr (e, h))) (λ h. b (inr (sym e, h))) in
    cc

same_key : (r s : Refusal) → key r ≡ key s → r ≡ s
same_key r s e =
    let p : place (Err r) ≡ place (Err s) = cc in
    let n : number (Err r) ≡ number (Err s) = cc in
    let j : job (Err r) ≡ job (Err s) = cc in
    named_at r (number (Err s)) n ∙ ap (λ x. named (number (Err s)) x (job (Err r))) p ∙ ap (named (number (Err s)) (place (Err s))) j ∙ sym (named_is s)

-- one reply to one graph and room
pub determined : (g : Graph) (room : ℕ) {r s : Reply} → Replies g room r → Replies g room s → r ≡ s
determined g room (passes a) (passes b) = refl
determined g room (passes a) (fails s b c) = absurd (a s b)
determined g room (fails r a b) (passes c) = absurd (c r a)
determined g room (fails r a b) (fails s c d) = ap Err (same_key r s (total (key r) (key s) refl (d r a) (b s c)))
