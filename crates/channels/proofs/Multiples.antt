-- The greatest common divisor by division, and the least common multiple by it. Assumes nothing.
use mathlib.Core.Path.{◌≡◌, refl, sym, ap, ◌∙◌, subst}
use Prim.Native.Nat.{ℕ, ◌*◌, ◌/◌, ◌%◌, ◌≤◌, ◌<◌}
use native.Mathlib.Nat.{mod-lt, mul-pos, div-mul_cancel, div-eq_of_eq-mul_left, eq_of_mul-eq-mul_left}
use native.Mathlib.Omega.{arith}
use Rattle.numbers.proofs.Sums.{cases}
use Rattle.channel.specs.Judge.{lcm}
use Rattle.channel.proofs.Least.{lcm_is}
use Rattle.channel.proofs.Common.{Common, whole, further, product}
use Rattle.channels.specs.Answers.{Divisor}

-- a divisor of x and y, in which they can meet, is one of a and b; `rest` is what x leaves modulo y
pub record Reduced (a b x y rest : ℕ) : Type 0 where
  pub some_x : 0 < x
  pub some_y : 0 < y
  pub most : y ≤ b
  pub leaves : rest ≡ x % y
  pub keeps : (h : ℕ) → Common x y h → Common a b h

module _ (a b x y rest : ℕ) (r : Reduced a b x y rest) where
  rest_less : rest < y
  rest_less = omega (arith, r.leaves, mod-lt x {m = y} r.some_y)

  pub reduced_more : ¬ (rest ≡ 0) → Reduced a b y rest (y % rest)
  reduced_more h =
      record {
        some_x = r.some_y;
        some_y = omega arith;
        most = omega (arith, rest_less, r.most);
        leaves = refl;
        keeps = λ d c. r.keeps d (further x y d r.some_x (subst (λ z. Common y z d) r.leaves c));
      }

  pub reduced_all : 0 < a → 0 < b → rest ≡ 0 → Divisor a b y
  reduced_all pa pb z =
      record {
        product = product a b (lcm a b) y pa pb (lcm_is a b pa pb) (r.keeps y (whole x y r.some_x r.some_y (sym r.leaves ∙ z)));
        most = r.most;
      }

module _ (a b r : ℕ) (pa : 0 < a) (pb : 0 < b) (d : Divisor a b r) where
  pub some_divisor : 0 < r
  some_divisor = cases 1 r (λ h. h) (λ h. let z : r ≡ 0 = omega arith in omega (arith, mul-pos pa pb, d.product, ap (λ x. lcm a b * x) z))

  divides : a ≡ lcm a b / b * r
  divides =
      eq_of_mul-eq-mul_left b pb a (lcm a b / b * r)
      (omega (arith, d.product, ap (λ x. x * r) (div-mul_cancel b (lcm_is a b pa pb).right)))

  -- the product with one of the two divided is the least common multiple
  pub multiple : a / r * b ≡ lcm a b
  multiple =
      let q : a / r ≡ lcm a b / b = div-eq_of_eq-mul_left some_divisor divides in
      ap (λ x. x * b) q ∙ div-mul_cancel b (lcm_is a b pa pb).right
