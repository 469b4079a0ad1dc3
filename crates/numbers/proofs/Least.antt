-- The least number that passes a test. Assumes nothing.
use mathlib.Core.Path.{◌≡◌, refl}
use mathlib.Core.Bool.{Bool, true, false}
use Prim.Native.Nat.{ℕ, zero, suc, ◌+◌, ◌≤◌, ◌<◌}
use native.Mathlib.Omega.{arith}
use Rattle.numbers.specs.Numbers.{from, least}
use Rattle.numbers.proofs.Sums.{cases}

pub record IsLeast (p : ℕ → Bool) (n r : ℕ) : Type 0 where
  pub most : r ≤ n
  pub none_before : (j : ℕ) → j < r → p j ≡ false
  pub passes : r < n → p r ≡ true

from_is : (p : ℕ → Bool) (k n : ℕ) → ((j : ℕ) → j < k → p j ≡ false) → IsLeast p (k + n) (from p k n)
unfolding from
from_is p k zero none = record { most = omega arith; none_before = none; passes = λ h. absurd (omega arith) }
from_is p k (suc n) none = go (p k) refl (from_is p (suc k) n)
  where
    go : (b : Bool) → p k ≡ b → (((j : ℕ) → j < suc k → p j ≡ false) → IsLeast p (suc k + n) (from p (suc k) n))
        → IsLeast p (k + suc n) (elim b [ true ↦ k | false ↦ from p (suc k) n ])
    go true e rest = record { most = omega arith; none_before = none; passes = λ h. e }
    go false e rest =
        let i = rest (λ j h. cases k j (λ g. let s : j ≡ k = omega arith in rw s e) (λ g. none j g)) in
        record { most = omega (arith, i.most); none_before = i.none_before; passes = λ h. i.passes (omega arith) }

pub least_is : (p : ℕ → Bool) (n : ℕ) → IsLeast p n (least p n)
least_is p n =
    let i = from_is p 0 n (λ j h. absurd (omega arith)) in
    record { most = omega (arith, i.most); none_before = i.none_before; passes = λ h. i.passes (omega arith) }
