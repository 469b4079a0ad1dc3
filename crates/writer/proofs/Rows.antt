-- What is left of a list's records as a loop writes them. Assumes nothing.
use mathlib.Core.Path.{◌≡◌, ap, ap₂, sym, ◌∙◌}
use mathlib.Core.List.{List, [], ◌∷◌, ◌++◌, map}
use Prim.Native.Nat.{ℕ, ◌+◌, ◌*◌, ◌≤◌, ◌<◌}
use native.Mathlib.Numerals.{add-one}
use native.Mathlib.Omega.{arith}
use lib.ListN.{length, get_or, drop, length-append, drop_of_length-le}
use lib.Seq.{drop-cons}
use Rattle.output.proofs.Parts.{Then}
use Rattle.format.specs.Record.{Record, encode, encodes}

-- the records from place i on
abbrev pub from : {A : Type 0} → (A → Record) → List A → ℕ → List ℕ
from f xs i = encodes (map f (drop i xs))

module _ {A : Type 0} (f : A → Record) (xs : List A) (i : ℕ) where
  -- record i, which is that of x, and then those behind it
  pub from_more : (d x : A) → x ≡ get_or xs i d → i < length xs → Then (from f xs i) (encode (f x)) (from f xs (i + 1))
  unfolding encodes
  from_more d x e h =
      record {
        parts =
            ap (λ l. encodes (map f l)) (drop-cons xs i d h)
            ∙ ap₂ (λ (y : A) (m : ℕ). encode (f y) ++ from f xs m) (sym e) (sym (add-one i));
      }

  pub from_none : length xs ≤ i → from f xs i ≡ []
  unfolding encodes
  from_none h = ap (λ l. encodes (map f l)) (drop_of_length-le xs h)

-- the bytes of records of w bytes each
pub row_bytes : {A : Type 0} (f : A → Record) (w : ℕ) → ((x : A) → length (encode (f x)) ≡ w) → (xs : List A) → length (encodes (map f xs)) ≡ length xs * w
unfolding encodes
row_bytes f w width [] = omega arith
row_bytes f w width (x ∷ xs) = omega (arith, width x, length-append (encode (f x)) (encodes (map f xs)), row_bytes f w width xs)
