-- The least common multiple. Assumes nothing.
use mathlib.Core.Path.{◌≡◌}
use mathlib.Core.Bool.{Bool}
use Prim.Native.Nat.{ℕ, suc, ◌*◌, ◌-◌, ◌/◌, ◌%◌, ◌≤◌, ◌<◌, ◌∣◌}
use native.Mathlib.Nat.{dvd-mul_left, dvd-mul_right, dvd_of_mod-eq-zero, mod-eq-zero_of_dvd, div-mul_cancel, mul-pos, mul-le-mul_right}
use native.Mathlib.Omega.{arith}
use borrow.Author.Tests.{eqb-true, eqb-false}
use lib.Dec.{eqb}
use Rattle.numbers.specs.Numbers.{least}
use Rattle.numbers.proofs.Sums.{cases}
use Rattle.numbers.proofs.Least.{IsLeast, least_is}
use Rattle.channel.specs.Judge.{IsLcm, lcm}

pub lcm_swap : (a b L : ℕ) → IsLcm a b L → IsLcm b a L
lcm_swap a b L l = record { positive = l.positive; left = l.right; right = l.left; at_most = λ m pos db da. l.at_most m pos da db }

module _ (a b : ℕ) (ha : 0 < a) (hb : 0 < b) where
  abbrev divides : ℕ → Bool
  divides i = eqb (suc i * a % b) 0

  at : ℕ
  at = least divides (b - 1)

  at_is : IsLeast divides (b - 1) at
  unfolding at
  at_is = least_is divides (b - 1)

  at_divides : b ∣ suc at * a
  at_divides =
      cases (b - 1) at
      (λ h. let e : suc at ≡ b = omega (arith, at_is.most) in rw e (dvd-mul_right b a))
      (λ h. dvd_of_mod-eq-zero b (eqb-true (suc at * a % b) 0 (at_is.passes h)))

  at_first : (m : ℕ) → 0 < m → a ∣ m → b ∣ m → suc at * a ≤ m
  at_first m pos da db =
      cases (suc at) (m / a)
      (λ h. omega (arith, mul-le-mul_right a h, div-mul_cancel a da))
      (λ h.
      let some : 0 < m / a = cases 1 (m / a) (λ l. l) (λ l. omega (arith, mul-le-mul_right a l, div-mul_cancel a da)) in
      let f : suc (m / a - 1) ≡ m / a = omega arith in
      let z : suc (m / a - 1) * a % b ≡ 0 = rw (f, div-mul_cancel a da) (mod-eq-zero_of_dvd b db) in
      absurd (eqb-false (suc (m / a - 1) * a % b) 0 (at_is.none_before (m / a - 1) (omega arith)) z))

  pub lcm_is : IsLcm a b (lcm a b)
  unfolding lcm at
  lcm_is =
      record {
        positive = mul-pos {m = suc at} (omega arith) ha;
        left = dvd-mul_left a (suc at);
        right = at_divides;
        at_most = at_first;
      }
