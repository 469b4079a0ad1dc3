-- The order of the tests. Assumes nothing.
use Rattle.std.specs.Prelude.{◌≡◌, List, [], ◌∷◌, ◌⊎◌, Err, ℕ, min, ◌<◌}
use Rattle.reply.specs.declared.Refusal.{Refusal}
use Rattle.reply.specs.Reply.{number, place, job}

-- a refusal's stage: 8 to 12 are tested one after the other, then 13 to 17 together, channel by channel
abbrev pub stage : Refusal → ℕ
stage r = min (number (Err r)) 13

-- what the order compares: stage, place, number, job
abbrev pub key : Refusal → List ℕ
key r = stage r ∷ place (Err r) ∷ number (Err r) ∷ job (Err r) ∷ []

-- the first numbers that differ decide
abbrev pub Sooner : List ℕ → List ℕ → Type 0
Sooner [] ys = ⊥
Sooner (x ∷ xs) [] = ⊥
Sooner (x ∷ xs) (y ∷ ys) = (x < y) ⊎ ((x ≡ y) × Sooner xs ys)

-- the refusal r comes before s
abbrev pub Earlier : Refusal → Refusal → Type 0
Earlier r s = Sooner (key r) (key s)
