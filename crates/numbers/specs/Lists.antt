-- Lists of which each element has a property, and first numbers. Assumes nothing.
use Rattle.std.specs.Prelude.{Bool, true, ◌&&◌, List, [], ◌∷◌, ℕ, ◌<◌}

-- each element has the property
abbrev pub All : {A : Type 0} → (A → Type 0) → List A → Type 0
All P [] = Unit {0}
All P (x ∷ xs) = P x × All P xs

-- the same as a test
abbrev pub all : {A : Type 0} → (A → Bool) → List A → Bool
all p [] = true
all p (x ∷ xs) = p x && all p xs

-- k is the first number of which P holds.
abbrev pub First : (ℕ → Type 0) → ℕ → Type 0
First P k = P k × ((j : ℕ) → j < k → ¬ P j)
