-- Numbers up to a million as signed 64-bit numbers: differences and products fit, and are the whole numbers' own. Assumes nothing.
use mathlib.Core.Path.{◌≡◌, refl, ◌∙◌, sym, ap}
use mathlib.Core.Bool.{Bool, true, false}
use mathlib.Core.Logic.{◌↔◌}
use Prim.Native.Nat.{ℕ, zero, suc, ◌*◌, ◌≤◌}
use native.Mathlib.Nat.{mul-le-mul, lt_of_le_of_lt, le_trans, add-zero}
use native.Mathlib.Omega.{arith}
use lib.Dec.{ltb, lit<, lit≤}
use lib.IntN.{ℤ, pos, negsuc, neg_ℤ, nat_abs, sub_ℕ, ◌-ℤ◌, ◌*ℤ◌}
use lib.Signed.{mag}
use mir.Syntax.{w32, w64}
use mir.Val.{SFits, to_z, of_z}
use mir.ValLaws.{to_z_pos, to_z-of_z}
use mir.Facts.{sfits_widen}
use borrow.Author.Tests.{ltb-true, ltb-false}

mag_le : (z : ℤ) → mag z ≤ nat_abs z
mag_le (pos n) = omega arith
mag_le (negsuc n) = omega arith

abs_neg : (z : ℤ) → nat_abs (neg_ℤ z) ≡ nat_abs z
abs_neg (pos zero) = refl
abs_neg (pos (suc n)) = refl
abs_neg (negsuc n) = refl

pub abs_mul : (x y : ℤ) → nat_abs (x *ℤ y) ≡ nat_abs x * nat_abs y
abs_mul (pos a) (pos b) = refl
abs_mul (pos a) (negsuc b) = abs_neg (pos (a * suc b))
abs_mul (negsuc a) (pos b) = abs_neg (pos (suc a * b))
abs_mul (negsuc a) (negsuc b) = refl

-- one of two cases of a difference, by the test that it makes
diff_by : (a b k : ℕ) (t : Bool) → ltb a b ≡ t → a ≤ k → b ≤ k → nat_abs (sub_ℕ a b) ≤ k
diff_by a b k true e ha hb = rw e (omega (arith, ltb-true a b e))
diff_by a b k false e ha hb = rw e (omega (arith, ltb-false a b e))

pub abs_diff : (a b k : ℕ) → a ≤ k → b ≤ k → nat_abs (pos a -ℤ pos b) ≤ k
abs_diff a zero k ha hb = rw add-zero ha
abs_diff a (suc b) k ha hb = diff_by a (suc b) k (ltb a (suc b)) refl ha hb

pub small : (x : ℕ) → x ≤ 1000000 → to_z w64 x ≡ pos x
small x h = to_z_pos w64 x (lt_of_le_of_lt h (lit< tt))

pub fits_up_to : (z : ℤ) → nat_abs z ≤ 1000000 * 1000000 → SFits w64 z
fits_up_to z h = record { sfits = lt_of_le_of_lt (le_trans (mag_le z) h) (lit< tt) }

pub product_fits : (x y : ℤ) → nat_abs x ≤ 1000000 → nat_abs y ≤ 1000000 → SFits w64 (x *ℤ y)
product_fits x y hx hy = fits_up_to (x *ℤ y) (rw (abs_mul x y) (mul-le-mul hx hy))

-- a difference, as the machine makes it
pub diff_is : (a b : ℕ) → a ≤ 1000000 → b ≤ 1000000 → to_z w64 a -ℤ to_z w64 b ≡ pos a -ℤ pos b
diff_is a b ha hb = ap (λ z. z -ℤ to_z w64 b) (small a ha) ∙ ap (λ z. pos a -ℤ z) (small b hb)

pub diff_fits : (a b : ℕ) → a ≤ 1000000 → b ≤ 1000000 → SFits w64 (to_z w64 a -ℤ to_z w64 b)
diff_fits a b ha hb = fits_up_to (to_z w64 a -ℤ to_z w64 b) (rw (diff_is a b ha hb) (le_trans (abs_diff a b 1000000 ha hb) (lit≤ tt)))

-- n times a difference, as the machine makes it
pub left_is : (n a b : ℕ) → n ≤ 1000000 → a ≤ 1000000 → b ≤ 1000000
    → to_z w64 n *ℤ to_z w64 (of_z w64 (to_z w64 a -ℤ to_z w64 b)) ≡ pos n *ℤ (pos a -ℤ pos b)
left_is n a b hn ha hb =
    ap (λ z. z *ℤ to_z w64 (of_z w64 (to_z w64 a -ℤ to_z w64 b))) (small n hn)
    ∙ ap (λ z. pos n *ℤ z) (to_z-of_z w64 (to_z w64 a -ℤ to_z w64 b) (diff_fits a b ha hb) ∙ diff_is a b ha hb)

phase_fits : (phi : ℤ) → nat_abs phi ≤ 1000000 → SFits w32 phi
phase_fits phi h = record { sfits = lt_of_le_of_lt (le_trans (mag_le phi) h) (lit< tt) }

-- a signed 32-bit number widened and multiplied, as the machine makes it
pub right_is : (phi : ℤ) (t : ℕ) → SFits w32 phi → t ≤ 1000000
    → to_z w64 (of_z w64 (to_z w32 (of_z w32 phi))) *ℤ to_z w64 t ≡ phi *ℤ pos t
right_is phi t hp ht =
    ap (λ z. to_z w64 (of_z w64 z) *ℤ to_z w64 t) (to_z-of_z w32 phi hp)
    ∙ ap (λ z. z *ℤ to_z w64 t) (to_z-of_z w64 phi (sfits_widen tt hp))
    ∙ ap (λ z. phi *ℤ z) (small t ht)

-- a phase out of its 32 bits
pub phase_is : (phi : ℤ) → nat_abs phi ≤ 1000000 → to_z w32 (of_z w32 phi) ≡ phi
phase_is phi h = to_z-of_z w32 phi (phase_fits phi h)

-- equal bits, equal numbers
pub same_number : (x y : ℤ) → SFits w64 x → SFits w64 y → of_z w64 x ≡ of_z w64 y → x ≡ y
same_number x y hx hy e = sym (to_z-of_z w64 x hx) ∙ ap (to_z w64) e ∙ to_z-of_z w64 y hy

-- n × (a − b) and φ × t as the machine makes them are equal where the whole numbers' products are
module _ (n a b t : ℕ) (phi : ℤ) (hn : n ≤ 1000000) (ha : a ≤ 1000000) (hb : b ≤ 1000000) (ht : t ≤ 1000000) (hphi : nat_abs phi ≤ 1000000) where
  pub same_products : {x y z u v : ℤ} → x ≡ pos n → y ≡ pos a → z ≡ pos b → u ≡ to_z w32 (of_z w32 phi) → v ≡ pos t
      → (of_z w64 (to_z w64 (of_z w64 x) *ℤ to_z w64 (of_z w64 (to_z w64 (of_z w64 y) -ℤ to_z w64 (of_z w64 z)))) ≡ of_z w64 (to_z w64 (of_z w64 u) *ℤ to_z w64 (of_z w64 v)))
      ↔ (pos n *ℤ (pos a -ℤ pos b) ≡ phi *ℤ pos t)
  same_products xe ye ze ue ve =
      let left = left_is n a b hn ha hb in
      let right = right_is phi t (phase_fits phi hphi) ht in
      let left_fits = product_fits (pos n) (pos a -ℤ pos b) hn (abs_diff a b 1000000 ha hb) in
      rw (xe, ye, ze, ue, ve)
      (λ e. same_number _ _ left_fits (product_fits phi (pos t) hphi ht) (sym (ap (of_z w64) left) ∙ e ∙ ap (of_z w64) right), λ e. ap (of_z w64) (left ∙ e ∙ sym right))
