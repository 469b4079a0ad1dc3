-- The tests of one record: what is computed is what is meant. Assumes nothing.
use mathlib.Core.Path.{◌≡◌, refl, sym, ◌∙◌}
use mathlib.Core.Bool.{Bool, true, false, cond, false≢true}
use mathlib.Core.List.{List}
use Prim.Native.Nat.{ℕ, ◌≤◌, ◌<◌}
use native.Mathlib.Omega.{arith}
use borrow.Author.Tests.{ltb-true, ltb-false, leb-true, leb-false, lt-ltb, le-ltb, le-leb, lt-leb}
use lib.Dec.{ltb, leb}
use lib.IntN.{pos, negsuc}
use lib.ListN.{length, take}
use Rattle.std.specs.Prelude.{Option, Some, None}
use Rattle.std.specs.Bool.{Decides}
use Rattle.std.proofs.lemmas.Bool.{false_from_ne_true}
use Rattle.std.proofs.lemmas.Bool.Decides.{Decides-ltb, Decides-and}
use Rattle.numbers.specs.Lists.{all}
use Rattle.graph.specs.Model.{Graph}
use Rattle.format.specs.Record.{Kind, size, Record, decode, rank}
use Rattle.format.specs.Reader.{Range, within, names, signed, Holds, holds, ranges, InRange, count, limit, State, Test, unknown, cut, down, range, full, test_number, Fires, FirstTest, Good, Front, stops, passes, front}
use Rattle.numbers.proofs.Lists.{all_yes, yes_all}

-- ---- ranges

range_test : (ρ : Range) → Decides (holds ρ) (Holds ρ)
range_test (within low x high) = Decides-and (leb low x) (leb x high) (leb-true low x, le-leb low x) (leb-true x high, le-leb x high)
range_test (names x n) = Decides-and (ltb x n) (ltb x 256) (Decides-ltb x n) (Decides-ltb x 256)
range_test (signed (pos n) high) = (leb-true n high, le-leb n high)
range_test (signed (negsuc n) high) = Decides-ltb n high

pub in_yes : (g : Graph) (r : Record) → all holds (ranges g r) ≡ true → InRange g r
in_yes g r e = all_yes Holds holds (λ ρ. (range_test ρ).0) (ranges g r) e

pub yes_in : (g : Graph) (r : Record) → InRange g r → all holds (ranges g r) ≡ true
yes_in g r h = yes_all Holds holds (λ ρ. (range_test ρ).1) (ranges g r) h

in_no : (g : Graph) (r : Record) → all holds (ranges g r) ≡ false → ¬ InRange g r
in_no g r e h = false≢true (sym e ∙ yes_in g r h)

no_in : (g : Graph) (r : Record) → ¬ InRange g r → all holds (ranges g r) ≡ false
no_in g r h = false_from_ne_true _ (λ e. h (in_yes g r e))

-- ---- the first test that fires

pub none_before :
    (F : Test → Type 0) (n : ℕ)
    → (1 < n → ¬ F unknown) → (2 < n → ¬ F cut) → (3 < n → ¬ F down) → (4 < n → ¬ F range) → (5 < n → ¬ F full)
    → (u : Test) → test_number u < n → ¬ F u
none_before F n a b c d e unknown h = a h
none_before F n a b c d e cut h = b h
none_before F n a b c d e down h = c h
none_before F n a b c d e range h = d h
none_before F n a b c d e full h = e h

-- what the answer of the tests says
abbrev pub Says : State → Option Kind → List ℕ → Front → Type 0
Says s o bs (stops t) = FirstTest (Fires s o bs) t
Says s None bs (passes r) = ⊥
Says s (Some k) bs (passes r) = (r ≡ decode k (take (size k) bs)) × (size k ≤ length bs) × Good s r

module _ (s : State) (k : Kind) (bs : List ℕ) where
  abbrev r : Record
  r = decode k (take (size k) bs)

  by_tests :
      (a b c d : Bool) → ltb (length bs) (size k) ≡ a → ltb (rank r) s.floor ≡ b → all holds (ranges s.graph r) ≡ c
      → leb (limit r) (count s.graph r) ≡ d
      → Says s (Some k) bs (cond a (stops cut) (cond b (stops down) (cond c (cond d (stops full) (passes r)) (stops range))))
  by_tests true b c d ea eb ec ed = (
    ltb-true (length bs) (size k) ea,
    none_before (Fires s (Some k) bs) 2 (λ _ x. x) (λ l. absurd (omega arith)) (λ l. absurd (omega arith)) (λ l. absurd (omega arith)) (λ l. absurd (omega arith)),
  )
  by_tests false true c d ea eb ec ed =
      let l = ltb-false (length bs) (size k) ea in (
        ltb-true (rank r) s.floor eb,
        none_before (Fires s (Some k) bs) 3 (λ _ x. x) (λ _ x. omega arith) (λ l. absurd (omega arith)) (λ l. absurd (omega arith)) (λ l. absurd (omega arith)),
      )
  by_tests false false false d ea eb ec ed =
      let l = ltb-false (length bs) (size k) ea in
      let m = ltb-false (rank r) s.floor eb in (
        in_no s.graph r ec,
        none_before (Fires s (Some k) bs) 4 (λ _ x. x) (λ _ x. omega arith) (λ _ x. omega arith) (λ l. absurd (omega arith)) (λ l. absurd (omega arith)),
      )
  by_tests false false true true ea eb ec ed =
      let l = ltb-false (length bs) (size k) ea in
      let m = ltb-false (rank r) s.floor eb in (
        leb-true (limit r) (count s.graph r) ed,
        none_before (Fires s (Some k) bs) 5 (λ _ x. x) (λ _ x. omega arith) (λ _ x. omega arith) (λ _ x. x (in_yes s.graph r ec)) (λ l. absurd (omega arith)),
      )
  by_tests false false true false ea eb ec ed = (
    refl,
    ltb-false (length bs) (size k) ea,
    record {
      in_order = ltb-false (rank r) s.floor eb;
      in_range = in_yes s.graph r ec;
      room = leb-false (limit r) (count s.graph r) ed;
    },
  )

pub front_is : (s : State) (o : Option Kind) (bs : List ℕ) → Says s o bs (front s o bs)
unfolding front
front_is s None bs = (tt, λ u h. absurd (go u h))
  where
    go : (u : Test) → test_number u < 1 → ⊥
    go unknown h = omega arith
    go cut h = omega arith
    go down h = omega arith
    go range h = omega arith
    go full h = omega arith
front_is s (Some k) bs = by_tests s k bs _ _ _ _ refl refl refl refl

-- and no other
pub is_front : (s : State) (o : Option Kind) (bs : List ℕ) (t : Test) → FirstTest (Fires s o bs) t → front s o bs ≡ stops t
unfolding front
is_front s None bs unknown h = refl
is_front s None bs cut h = absurd (h.1 unknown (omega arith) tt)
is_front s None bs down h = absurd (h.1 unknown (omega arith) tt)
is_front s None bs range h = absurd (h.1 unknown (omega arith) tt)
is_front s None bs full h = absurd (h.1 unknown (omega arith) tt)
is_front s (Some k) bs unknown h = absurd h.0
is_front s (Some k) bs cut h = rw (lt-ltb (length bs) (size k) h.0)
is_front s (Some k) bs down h =
    rw (le-ltb (length bs) (size k) (omega (arith, h.1 cut (omega arith))), lt-ltb (rank (r s k bs)) s.floor h.0)
is_front s (Some k) bs range h =
    rw (
      le-ltb (length bs) (size k) (omega (arith, h.1 cut (omega arith))),
      le-ltb (rank (r s k bs)) s.floor (omega (arith, h.1 down (omega arith))),
      no_in s.graph (r s k bs) h.0,
    )
is_front s (Some k) bs full h =
    go (all holds (ranges s.graph (r s k bs))) refl
  where
    go : (b : Bool) → all holds (ranges s.graph (r s k bs)) ≡ b → front s (Some k) bs ≡ stops full
    go true e =
        rw (
          le-ltb (length bs) (size k) (omega (arith, h.1 cut (omega arith))),
          le-ltb (rank (r s k bs)) s.floor (omega (arith, h.1 down (omega arith))),
          e,
          le-leb (limit (r s k bs)) (count s.graph (r s k bs)) h.0,
        )
    go false e = absurd (h.1 range (omega arith) (in_no s.graph (r s k bs) e))

pub good_front :
    (s : State) (k : Kind) (bs : List ℕ) → size k ≤ length bs → Good s (decode k (take (size k) bs))
    → front s (Some k) bs ≡ passes (decode k (take (size k) bs))
unfolding front
good_front s k bs l g =
    rw (
      le-ltb (length bs) (size k) l,
      le-ltb (rank (r s k bs)) s.floor g.in_order,
      yes_in s.graph (r s k bs) g.in_range,
      lt-leb (limit (r s k bs)) (count s.graph (r s k bs)) g.room,
    )
