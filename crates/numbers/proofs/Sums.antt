-- Laws of `sum` and `ceil`, and two ways to go by cases. Assumes nothing.
use mathlib.Core.Path.{◌≡◌, refl, ap, ap₂, subst}
use Prim.Native.Nat.{ℕ, zero, suc, ◌+◌, ◌-◌, ◌*◌, ◌/◌, ◌≤◌, ◌<◌}
use native.Mathlib.Nat.{le_refl, add-zero, add-suc, lt_of_not-le, div-lt_iff_lt-mul}
use native.Mathlib.Decide.{le_ind, dec_le, dec_lt}
use native.Mathlib.Omega.{arith}
use Rattle.numbers.specs.Numbers.{sum, ceil}

-- by cases on an order
pub cases : {A : Type 0} (a b : ℕ) → (a ≤ b → A) → (b < a → A) → A
cases a b f g = elim (dec_le a b) [ yes h ↦ f h | no h ↦ g (lt_of_not-le h) ]

-- what holds below n and at n holds below n + 1
pub extend : (Q : ℕ → Type 0) (n : ℕ) → ((x : ℕ) → x < n → Q x) → Q n → (x : ℕ) → x < suc n → Q x
extend Q n f q x h = elim (dec_lt x n) [ yes l ↦ f x l | no l ↦ subst Q (omega arith) q ]

pub sum_suc : (f : ℕ → ℕ) (n : ℕ) → sum f (suc n) ≡ sum f n + f n
unfolding sum
sum_suc f n = refl

pub sum_zero : (f : ℕ → ℕ) → sum f 0 ≡ 0
unfolding sum
sum_zero f = refl

-- ---- two sums of one length

pub sum_ext : (f g : ℕ → ℕ) (n : ℕ) → ((j : ℕ) → j < n → f j ≡ g j) → sum f n ≡ sum g n
unfolding sum
sum_ext f g zero e = refl
sum_ext f g (suc n) e = ap₂ ◌+◌ (sum_ext f g n (λ j h. e j (omega arith))) (e n (le_refl (suc n)))

pub sum_mono : (f g : ℕ → ℕ) (n : ℕ) → ((j : ℕ) → j < n → f j ≤ g j) → sum f n ≤ sum g n
unfolding sum
sum_mono f g zero e = le_refl 0
sum_mono f g (suc n) e = omega (arith, sum_mono f g n (λ j h. e j (omega arith)), e n (le_refl (suc n)))

pub sum_plus : (f g : ℕ → ℕ) (n : ℕ) → sum (λ x. f x + g x) n ≡ sum f n + sum g n
unfolding sum
sum_plus f g zero = refl
sum_plus f g (suc n) = omega (arith, sum_plus f g n)

pub sum_times : (c : ℕ) (f : ℕ → ℕ) (n : ℕ) → sum (λ x. c * f x) n ≡ c * sum f n
unfolding sum
sum_times c f zero = omega arith
sum_times c f (suc n) = omega (arith, sum_times c f n)

pub sum_const : (c n : ℕ) → sum (λ x. c) n ≡ n * c
unfolding sum
sum_const c zero = omega arith
sum_const c (suc n) = omega (arith, sum_const c n)

pub sum_swap : (f : ℕ → ℕ → ℕ) (n m : ℕ) → sum (λ x. sum (λ y. f x y) m) n ≡ sum (λ y. sum (λ x. f x y) n) m
unfolding sum
sum_swap f zero m = omega (arith, sum_const 0 m)
sum_swap f (suc n) m = omega (arith, sum_swap f n m, sum_plus (λ y. sum (λ x. f x y) n) (f n) m)

-- ---- sums of two lengths

-- the first a, and those after them
pub sum_split : (f : ℕ → ℕ) (a n : ℕ) → sum f (a + n) ≡ sum f a + sum (λ i. f (a + i)) n
unfolding sum
sum_split f a zero = rw (add-zero a) (omega arith)
sum_split f a (suc n) = rw add-suc (omega (arith, sum_split f a n))

pub sum_le : (f : ℕ → ℕ) (a n : ℕ) → a ≤ n → sum f a ≤ sum f n
unfolding sum
sum_le f a n h = le_ind (λ k. sum f a ≤ sum f k) (le_refl (sum f a)) (λ k l e. omega arith) n h

-- each term is at most the sum
pub sum_at : (f : ℕ → ℕ) (k n : ℕ) → k < n → f k ≤ sum f n
sum_at f k n h = omega (arith, sum_suc f k, sum_le f (suc k) n h)

-- where f is at most g below q and zero from q on, its sum is at most g's up to q, and where it is at least g below q, at least
pub sum_below : (f g : ℕ → ℕ) (q n : ℕ) → ((j : ℕ) → j < q → f j ≤ g j) → ((j : ℕ) → q ≤ j → f j ≡ 0) → sum f n ≤ sum g q
unfolding sum
sum_below f g q zero b z = omega arith
sum_below f g q (suc n) b z =
    cases q n
    (λ h. omega (arith, sum_below f g q n b z, z n h))
    (λ h. omega (arith, sum_mono f g (suc n) (λ j l. b j (omega arith)), sum_le g (suc n) q h, sum_suc f n))

pub sum_above : (f g : ℕ → ℕ) (q n : ℕ) → q ≤ n → ((j : ℕ) → j < q → g j ≤ f j) → sum g q ≤ sum f n
sum_above f g q n h b = omega (arith, sum_mono g f q b, sum_le f q n h)

-- the number of n's below a bound q
pub sum_count : (f : ℕ → ℕ) (q n : ℕ) → q ≤ n → ((j : ℕ) → j < q → f j ≡ 1) → ((j : ℕ) → q ≤ j → f j ≡ 0) → sum f n ≡ q
sum_count f q n h one zer =
    omega (arith, sum_const 1 q, sum_below f (λ _. 1) q n (λ j l. omega (arith, one j l)) zer, sum_above f (λ _. 1) q n h (λ j l. omega (arith, one j l)))

-- ---- sums with few terms

pub sum_nought : (f : ℕ → ℕ) (n : ℕ) → ((j : ℕ) → j < n → f j ≡ 0) → sum f n ≡ 0
sum_nought f n z = omega (arith, sum_ext f (λ _. 0) n z, sum_const 0 n)

pub sum_only : (f : ℕ → ℕ) (l n : ℕ) → l < n → ((j : ℕ) → j < n → ¬ (j ≡ l) → f j ≡ 0) → sum f n ≡ f l
unfolding sum
sum_only f l zero h z = absurd (omega arith)
sum_only f l (suc n) h z = elim (dec_lt l n) [
  | yes k ↦ omega (arith, sum_only f l n k (λ j x y. z j (omega arith) y), z n (le_refl (suc n)) (λ e. omega arith))
  | no k ↦
      let e : l ≡ n = omega arith in
      omega (arith, sum_nought f n (λ j x. z j (omega arith) (λ y. omega arith)), ap f e)
]

-- ---- ⌈ w / p ⌉ is the least x with w ≤ x × p

pub ceil_least : {p : ℕ} (w x : ℕ) → 0 < p → w ≤ x * p → ceil w p ≤ x
unfolding ceil
ceil_least {p} w x h l = omega (arith, (div-lt_iff_lt-mul {k = p} {x = w + (p - 1)} {y = suc x} h).1 (omega arith))

pub ceil_enough : {p : ℕ} (w : ℕ) → 0 < p → w ≤ ceil w p * p
unfolding ceil
ceil_enough {p} w h = omega (arith, (div-lt_iff_lt-mul {k = p} {x = w + (p - 1)} {y = suc ((w + (p - 1)) / p)} h).0 (le_refl _))
