-- A search through items has one answer. Assumes nothing.
use mathlib.Core.Path.{◌≡◌, refl, ap}
use Prim.Native.Nat.{ℕ}
use native.Mathlib.Omega.{arith}
use Rattle.std.specs.Prelude.{Option, Some, None}
use Rattle.numbers.proofs.Sums.{cases}
use Rattle.reply.specs.Found.{Finds}

pub finds_one : (P : ℕ → Type 0) (n : ℕ) (f g : Option ℕ) → Finds P n f → Finds P n g → f ≡ g
finds_one P n None None a b = refl
finds_one P n None (Some j) a (l, (p, q)) = absurd (a j l p)
finds_one P n (Some i) None (l, (p, q)) b = absurd (b i l p)
finds_one P n (Some i) (Some j) (l, (p, q)) (m, (r, s)) =
    cases i j
    (λ h. cases j i (λ k. let e : i ≡ j = omega arith in ap Some e) (λ k. absurd (s i k p)))
    (λ h. absurd (q j h r))
