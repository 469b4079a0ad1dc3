-- The greatest common divisor of two numbers, by their least common multiple: what it divides, and which differences multiples of the two can have. Assumes nothing.
use mathlib.Core.Path.{◌≡◌, ap}
use Prim.Native.Nat.{ℕ, zero, suc, ◌+◌, ◌*◌, ◌-◌, ◌/◌, ◌%◌, ◌≤◌, ◌<◌}
use native.Mathlib.Nat.{mod-lt, div-add-mod', div-mul_cancel, div-eq_of_eq-mul_right, dvd-mul_left, mul-le-mul_left, mul-le-mul_right, mul-pos}
use native.Mathlib.Omega.{arith}
use Rattle.numbers.proofs.Sums.{cases}
use Rattle.channel.specs.Judge.{IsLcm}

-- h divides a and b, and is a multiple of a less a multiple of b
pub record Common (a b h : ℕ) : Type 0 where
  pub some : 0 < h
  pub p : ℕ
  pub q : ℕ
  pub left : a ≡ p * h
  pub right : b ≡ q * h
  pub x : ℕ
  pub y : ℕ
  pub meets : x * a ≡ y * b + h

-- b divides a
pub whole : (a b : ℕ) → 0 < a → 0 < b → a % b ≡ 0 → Common a b b
whole a b pa pb z =
    let e = div-add-mod' a b in
    let one : 0 < a / b = cases 1 (a / b) (λ h. h) (λ h. let n : a / b ≡ 0 = omega arith in omega (arith, ap (λ x. x * b) n)) in
    let f : a / b - 1 + 1 ≡ a / b = omega arith in
    record {
      some = pb;
      p = a / b;
      q = 1;
      left = omega arith;
      right = omega arith;
      x = 1;
      y = a / b - 1;
      meets = omega (arith, ap (λ x. x * b) f);
    }

-- from b and what a leaves
pub further : (a b h : ℕ) → 0 < a → Common b (a % b) h → Common a b h
further a b h pa s =
    let e = div-add-mod' a b in
    let P : ℕ = a / b * s.p + s.q in
    let is : a ≡ P * h = omega (arith, ap (λ x. a / b * x) s.left, s.right) in
    let one : 0 < P = cases 1 P (λ l. l) (λ l. let n : P ≡ 0 = omega arith in omega (arith, ap (λ x. x * h) n)) in
    let f : P - 1 + 1 ≡ P = omega arith in
    let Y : ℕ = s.x + s.y * (a / b) in
    let back : Y * b ≡ s.y * a + h = omega (arith, s.meets, ap (λ x. s.y * x) e) in
    record {
      some = s.some;
      p = P;
      q = s.p;
      left = is;
      right = s.left;
      x = (P - 1) * s.y + 1;
      y = (P - 1) * Y;
      meets = omega (arith, ap (λ x. (P - 1) * x) back, ap (λ x. x * h) f);
    }

euclid : (f a b : ℕ) → b < f → 0 < a → 0 < b → (h : ℕ) × Common a b h
euclid zero a b l pa pb = absurd (omega arith)
euclid (suc f) a b l pa pb =
    cases 1 (a % b)
    (λ r. let s = euclid f b (a % b) (omega (arith, mod-lt a {m = b} pb)) pb r in (s.0, further a b s.0 pa s.1))
    (λ r. (b, whole a b pa pb (omega arith)))

-- a factor of what is not zero is not
some_of : (a h p : ℕ) → 0 < a → a ≡ p * h → 0 < p
some_of a h p pa e = cases 1 p (λ l. l) (λ l. let n : p ≡ 0 = omega arith in omega (arith, ap (λ x. x * h) n))

-- the product of both is the product of divisor and multiple
pub product : (a b L h : ℕ) → 0 < a → 0 < b → IsLcm a b L → Common a b h → a * b ≡ L * h
product a b L h pa pb l s =
    let r : ℕ = L / a in
    let t : ℕ = L / b in
    let er : r * a ≡ L = div-mul_cancel a l.left in
    let et : t * b ≡ L = div-mul_cancel b l.right in
    let m : ℕ = s.p * s.q * h in
    let ma : m ≡ s.q * a = omega (arith, ap (λ x. s.q * x) s.left) in
    let mb : m ≡ s.p * b = omega (arith, ap (λ x. s.p * x) s.right) in
    let some_q : 0 < s.q = some_of b h s.q pb s.right in
    let most : L ≤ m = l.at_most m (rw ma (mul-pos some_q pa)) (rw ma (dvd-mul_left a s.q)) (rw mb (dvd-mul_left b s.p)) in
    let low : L * h ≤ a * b = omega (arith, mul-le-mul_left h most, ap (λ x. x * b) s.left, ap (λ x. s.p * h * x) s.right) in
    let spread : a * b * (s.x * t) ≡ a * b * (s.y * r) + L * h =
    omega (arith, ap (λ x. L * x) s.meets, ap (λ x. s.x * a * x) et, ap (λ x. s.y * b * x) er) in
    let high : a * b ≤ L * h =
    cases (s.x * t) (s.y * r)
    (λ k. let z : 0 < L * h = mul-pos l.positive s.some in omega (arith, mul-le-mul_left (a * b) k))
    (λ k. omega (arith, mul-le-mul_left (a * b) k)) in
    omega arith

pub lcm_common : (a b L : ℕ) → 0 < a → 0 < b → IsLcm a b L → Common a b (a * b / L)
lcm_common a b L pa pb l =
    let s = euclid (suc b) a b (omega arith) pa pb in
    let e : a * b / L ≡ s.0 = div-eq_of_eq-mul_right l.positive (product a b L s.0 pa pb l s.1) in
    rw e s.1

-- the divisor is no more than the first number
pub common_most : (a b h : ℕ) → 0 < a → Common a b h → h ≤ a
common_most a b h pa s = omega (arith, s.left, mul-le-mul_right h (some_of a h s.p pa s.left))

-- two numbers that leave the same modulo h meet by multiples of a and b, as far out as wished
pub lands :
    (a b h : ℕ) → 0 < b → Common a b h → (X Y : ℕ) → X % h ≡ Y % h
    → (n : ℕ) → (v u : ℕ) × (n ≤ v) × (X + v * a ≡ Y + u * b)
lands a b h pb s X Y e n =
    let c : ℕ = X / h in
    let d : ℕ = Y / h in
    let same : X + d * h ≡ Y + c * h = omega (arith, div-add-mod' X h, div-add-mod' Y h) in
    let f : s.q - 1 + 1 ≡ s.q = omega (arith, some_of b h s.q pb s.right) in
    let up : d * s.x * a ≡ d * s.y * b + d * h = omega (arith, ap (λ x. d * x) s.meets) in
    let down : c * h + c * (s.q - 1) * s.x * a ≡ c * b + c * (s.q - 1) * s.y * b =
    omega (arith, ap (λ x. c * (s.q - 1) * x) s.meets, ap (λ x. c * h * x) f, ap (λ x. c * x) s.right) in (
      d * s.x + c * (s.q - 1) * s.x + n * b,
      d * s.y + (c + c * (s.q - 1) * s.y) + n * a,
      omega (arith, mul-le-mul_left n pb),
      omega arith,
    )
