-- Numbers as std's bytes of them, and as a record has them. Assumes nothing.
use mathlib.Core.Path.{◌≡◌, refl, ap, ◌∙◌}
use mathlib.Core.List.{List, [], ◌∷◌, ◌++◌}
use Prim.Native.Nat.{ℕ, ◌/◌, ◌%◌, ◌<◌}
use native.Mathlib.Omega.{arith}
use lib.IntN.{ℤ, pos, negsuc}
use mir.Syntax.{w32}
use mir.Val.{SFits, to_z, of_z}
use mir.Facts.{to_z-of_z}
use Rattle.std.specs.Int.{w16, to_be_bytes}
use Rattle.format.specs.Record.{be, wrap}
use Rattle.format.proofs.Steps.{be_4}

-- bytes are numbers in one byte each
one : (n : ℕ) → n ≡ n / 1
one n = omega arith

pub one_byte : (p : ℕ) → p ∷ [] ≡ be 1 p
unfolding be
one_byte p = λ i. one p i ∷ []

pub two_bytes : (k p q : ℕ) → k ∷ p ∷ q ∷ [] ≡ k ∷ be 1 p ++ be 1 q
unfolding be
two_bytes k p q = λ i. k ∷ one p i ∷ one q i ∷ []

pub three_bytes : (k p q r : ℕ) → k ∷ p ∷ q ∷ r ∷ [] ≡ k ∷ be 1 p ++ (be 1 q ++ be 1 r)
unfolding be
three_bytes k p q r = λ i. k ∷ one p i ∷ one q i ∷ one r i ∷ []

pub bytes_2 : {bs : List ℕ} (n : ℕ) → n < 65536 → bs ≡ to_be_bytes w16 n → bs ≡ be 2 n
unfolding be
bytes_2 n h e =
    let a : n / 256 % 256 ≡ n / 256 = omega arith in
    e ∙ (λ i. a i ∷ one (n % 256) i ∷ [])

pub bytes_4 : {bs : List ℕ} (n : ℕ) → n < 4294967296 → bs ≡ to_be_bytes w32 n → bs ≡ be 4 n
bytes_4 n h e =
    let a : n / 16777216 % 256 ≡ n / 16777216 = omega arith in
    e ∙ rw (be_4 n h, a)

-- a signed number in two's complement, as code makes it
signed : (z : ℤ) → SFits w32 z → (of_z w32 z ≡ wrap z) × (wrap z < 4294967296)
signed (pos n) f = (refl, omega arith)
signed (negsuc n) f = (omega arith, omega arith)

pub signed_4 : {bs : List ℕ} {n : ℕ} (z : ℤ) → SFits w32 z → n ≡ of_z w32 (to_z w32 (of_z w32 z)) → bs ≡ to_be_bytes w32 n → bs ≡ be 4 (wrap z)
signed_4 {bs} {n} z f h e =
    let w : n ≡ wrap z = h ∙ ap (of_z w32) (to_z-of_z {w = w32} f) ∙ (signed z f).0 in
    bytes_4 n (omega (arith, (signed z f).1)) e ∙ ap (be 4) w
