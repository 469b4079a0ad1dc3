-- Where a rate stands: in the cycle, by its turns. Assumes nothing.
use mathlib.Core.Path.{◌≡◌, sym, ◌∙◌, ap₂}
use mathlib.Core.List.{List}
use Prim.Native.Nat.{ℕ, ◌-◌, ◌%◌, ◌≤◌, ◌<◌}
use native.Mathlib.Nat.{mod-eq_of_lt}
use native.Mathlib.Omega.{arith}
use borrow.Author.Tests.{lt-ltb, le-ltb, ne_eqb}
use lib.ListN.{length, get_or}
use Rattle.graph.specs.Rates.{list_of, place_in, place_of, rate_of}

module _ (prefix cycle : List ℕ) (m : ℕ) where
  pub in_cycle : length prefix ≤ m → cycle ≡ list_of prefix cycle m
  unfolding list_of
  in_cycle h = rw (le-ltb m (length prefix) h)

  module _ (list : List ℕ) (place : ℕ) (l : list ≡ list_of prefix cycle m) (p : place ≡ place_of prefix cycle m) where
    pub rate_is : get_or list place 0 ≡ rate_of prefix cycle m
    unfolding rate_of
    rate_is = ap₂ (λ (x : List ℕ) (i : ℕ). get_or x i 0) l p

-- by the lengths p and c of prefix and cycle
module _ (p c m : ℕ) where
  pub place_in_prefix : m < p → m ≡ place_in p c m
  unfolding place_in
  place_in_prefix h = rw (lt-ltb m p h)

  pub place_in_cycle : p ≤ m → 0 < c → (m - p) % c ≡ place_in p c m
  unfolding place_in
  place_in_cycle h k = rw (le-ltb m p h, ne_eqb c 0 (λ e. omega arith))

  pub place_first_turn : p ≤ m → m - p < c → m - p ≡ place_in p c m
  place_first_turn h k = sym (mod-eq_of_lt {n = m - p} {m = c} k) ∙ place_in_cycle h (omega arith)
