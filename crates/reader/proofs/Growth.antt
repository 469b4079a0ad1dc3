-- One rate more, in lists. Assumes nothing.
use mathlib.Core.Path.{◌≡◌, refl, ap}
use mathlib.Core.Bool.{Bool, true, false, cond}
use mathlib.Core.List.{List, [], ◌∷◌}
use Prim.Native.Nat.{ℕ, zero, suc, ◌<◌}
use native.Mathlib.Omega.{arith}
use lib.Dec.{eqb}
use lib.ListN.{length, get_or, set}
use Rattle.graph.specs.Model.{Rates, Link}
use Rattle.format.specs.Growth.{with_rates, push, push_part, side_of, change}

-- a change at a place is a store there
pub change_set : {A : Type 0} (f : A → A) (i : ℕ) (xs : List A) (d : A) → i < length xs → set xs i (f (get_or xs i d)) ≡ change f i xs
unfolding change
change_set f i [] d h = absurd (omega arith)
change_set f zero (x ∷ xs) d h = refl
change_set f (suc i) (x ∷ xs) d h = ap (λ l. x ∷ l) (change_set f i xs d (omega arith))

-- a channel with other rates at a side
abbrev pub with_sides : Link → ℕ → Rates → Link
with_sides l side q = cond (eqb side 0) (with_rates l q l.consumption) (with_rates l l.production q)

-- a channel grows at one of its sides (cited by docs/MAP)
pub push_side : (side part x : ℕ) (l : Link) → with_sides l side (push_part (side_of l side) part x) ≡ push side part x l
push_side side part x l = go (eqb side 0)
  where
    go : (b : Bool) → cond b (with_sides l 0 (push_part (cond b l.production l.consumption) part x)) (with_sides l 1 (push_part (cond b l.production l.consumption) part x))
        ≡ cond b (with_sides l 0 (push_part l.production part x)) (with_sides l 1 (push_part l.consumption part x))
    go true = refl
    go false = refl
