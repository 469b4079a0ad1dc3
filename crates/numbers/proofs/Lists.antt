-- Lists of which each element has a property. Assumes nothing.
use mathlib.Core.Path.{◌≡◌, refl}
use mathlib.Core.Bool.{Bool, true, false, ◌&&◌, false≢true}
use mathlib.Core.List.{List, [], ◌∷◌, ◌++◌, map}
use Prim.Native.Nat.{ℕ, zero, suc, ◌<◌}
use native.Mathlib.Omega.{arith}
use lib.ListN.{length, get_or, take, drop}
use Rattle.numbers.specs.Lists.{All, all}

module _ {A : Type 0} (P : A → Type 0) where
  pub all_left : (xs ys : List A) → All P (xs ++ ys) → All P xs
  all_left [] ys h = tt
  all_left (x ∷ xs) ys h = (h.0, all_left xs ys h.1)

  pub all_right : (xs ys : List A) → All P (xs ++ ys) → All P ys
  all_right [] ys h = h
  all_right (x ∷ xs) ys h = all_right xs ys h.1

  pub all_append : (xs ys : List A) → All P xs → All P ys → All P (xs ++ ys)
  all_append [] ys h k = k
  all_append (x ∷ xs) ys h k = (h.0, all_append xs ys h.1 k)

  pub all_take : (n : ℕ) (xs : List A) → All P xs → All P (take n xs)
  all_take zero xs h = tt
  all_take (suc n) [] h = tt
  all_take (suc n) (x ∷ xs) h = (h.0, all_take n xs h.1)

  pub all_drop : (n : ℕ) (xs : List A) → All P xs → All P (drop n xs)
  all_drop zero xs h = h
  all_drop (suc n) [] h = tt
  all_drop (suc n) (x ∷ xs) h = all_drop n xs h.1

  pub all_map : (Q : A → Type 0) → ((x : A) → P x → Q x) → (xs : List A) → All P xs → All Q xs
  all_map Q f [] h = tt
  all_map Q f (x ∷ xs) h = (f x h.0, all_map Q f xs h.1)

  -- the element at each place below the length, and back
  pub all_at : (xs : List A) (d : A) → All P xs → (i : ℕ) → i < length xs → P (get_or xs i d)
  all_at [] d h i l = absurd (omega arith)
  all_at (x ∷ xs) d h zero l = h.0
  all_at (x ∷ xs) d h (suc i) l = all_at xs d h.1 i (omega arith)

  pub at_all : (xs : List A) (d : A) → ((i : ℕ) → i < length xs → P (get_or xs i d)) → All P xs
  at_all [] d h = tt
  at_all (x ∷ xs) d h = (h 0 (omega arith), at_all xs d (λ i l. h (suc i) (omega arith)))

  -- a test of each
  module _ (p : A → Bool) where
    pub all_yes : ((x : A) → p x ≡ true → P x) → (xs : List A) → all p xs ≡ true → All P xs
    all_yes f [] e = tt
    all_yes f (x ∷ xs) e = go (p x) refl e (all_yes f xs)
      where
        go : (b : Bool) → p x ≡ b → (b && all p xs) ≡ true → (all p xs ≡ true → All P xs) → P x × All P xs
        go true q e k = (f x q, k e)
        go false q e k = absurd (false≢true e)

    pub yes_all : ((x : A) → P x → p x ≡ true) → (xs : List A) → All P xs → all p xs ≡ true
    yes_all f [] h = refl
    yes_all f (x ∷ xs) h = rw (f x h.0) (yes_all f xs h.1)

pub map_of_all : {A B : Type 0} (P : B → Type 0) (f : A → B) (xs : List A) → All (λ x. P (f x)) xs → All P (map f xs)
map_of_all P f [] h = tt
map_of_all P f (x ∷ xs) h = (h.0, map_of_all P f xs h.1)

pub all_of_map : {A B : Type 0} (P : B → Type 0) (f : A → B) (xs : List A) → All P (map f xs) → All (λ x. P (f x)) xs
all_of_map P f [] h = tt
all_of_map P f (x ∷ xs) h = (h.0, all_of_map P f xs h.1)
