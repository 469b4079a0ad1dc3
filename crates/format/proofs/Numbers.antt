-- Big-endian numbers, and rows of them: bytes and back. Assumes nothing.
use mathlib.Core.Path.{◌≡◌, refl, ap, ap₂, sym, ◌∙◌}
use mathlib.Core.List.{List, [], ◌∷◌, ◌++◌}
use Prim.Native.Nat.{ℕ, zero, suc, ◌+◌, ◌*◌, ◌/◌, ◌%◌, ◌^◌, ◌<◌}
use native.Mathlib.Nat.{pow-suc, pow-succ', div-lt_iff_lt-mul, div-add-mod', mod-lt, mul-add-div_right, div-eq_of_lt, mul-add-mod_self_right, mod-eq_of_lt, mul-le-mul_right, add-zero}
use native.Mathlib.Omega.{arith}
use lib.ListN.{length, take, drop, length-append, length-drop, take-append-drop}
use lib.Seq.{take_at, drop_at, length-take-le}
use Rattle.format.specs.Record.{be, number, join, split, total}
use Rattle.format.specs.Reader.{Bytes}
use Rattle.numbers.proofs.Lists.{all_append, all_take, all_drop}

pub pow_pos : (w : ℕ) → 0 < 256 ^ w
pow_pos zero = omega arith
pow_pos (suc w) = omega (arith, pow-suc 256 w, pow_pos w)

-- ---- one number

pub be_length : (w v : ℕ) → length (be w v) ≡ w
unfolding be
be_length zero v = refl
be_length (suc w) v = ap suc (be_length w (v % 256 ^ w))

pub number_be : (w v : ℕ) → v < 256 ^ w → number (be w v) ≡ v
unfolding be number
number_be zero v h = omega arith
number_be (suc w) v h =
    rw (be_length w (v % 256 ^ w), number_be w (v % 256 ^ w) (mod-lt v (pow_pos w))) (div-add-mod' v (256 ^ w))

pub be_bytes : (w v : ℕ) → v < 256 ^ w → Bytes (be w v)
unfolding be
be_bytes zero v h = tt
be_bytes (suc w) v h = ((div-lt_iff_lt-mul (pow_pos w)).1 (rw (pow-succ' 256 w) at h), be_bytes w (v % 256 ^ w) (mod-lt v (pow_pos w)))

pub number_below : (bs : List ℕ) → Bytes bs → number bs < 256 ^ length bs
unfolding number
number_below [] h = omega arith
number_below (b ∷ bs) (x, h) =
    omega (arith, pow-suc 256 (length bs), number_below bs h, mul-le-mul_right (256 ^ length bs) x)

pub be_number : (bs : List ℕ) → Bytes bs → be (length bs) (number bs) ≡ bs
unfolding be number
be_number [] h = refl
be_number (b ∷ bs) (x, h) =
    let l = number_below bs h in
    let q : (b * 256 ^ length bs + number bs) / 256 ^ length bs ≡ b =
    mul-add-div_right (pow_pos (length bs)) b (number bs) ∙ ap (λ n. b + n) (div-eq_of_lt l) ∙ add-zero b in
    let m : (b * 256 ^ length bs + number bs) % 256 ^ length bs ≡ number bs =
    mul-add-mod_self_right b (256 ^ length bs) (number bs) ∙ mod-eq_of_lt l in
    rw (q, m, be_number bs h)

-- ---- a row of numbers

-- each number fits its width
abbrev pub Fit : List ℕ → List ℕ → Type 0
Fit [] [] = Unit {0}
Fit [] (v ∷ vs) = ⊥
Fit (w ∷ ws) [] = ⊥
Fit (w ∷ ws) (v ∷ vs) = (v < 256 ^ w) × Fit ws vs

pub join_length : (ws vs : List ℕ) → Fit ws vs → length (join ws vs) ≡ total ws
unfolding join
join_length [] [] h = refl
join_length [] (v ∷ vs) h = absurd h
join_length (w ∷ ws) [] h = absurd h
join_length (w ∷ ws) (v ∷ vs) h = length-append (be w v) (join ws vs) ∙ ap₂ ◌+◌ (be_length w v) (join_length ws vs h.1)

pub join_bytes : (ws vs : List ℕ) → Fit ws vs → Bytes (join ws vs)
unfolding join
join_bytes [] [] h = tt
join_bytes [] (v ∷ vs) h = absurd h
join_bytes (w ∷ ws) [] h = absurd h
join_bytes (w ∷ ws) (v ∷ vs) h = all_append (λ b. b < 256) (be w v) (join ws vs) (be_bytes w v h.0) (join_bytes ws vs h.1)

pub split_join : (ws vs : List ℕ) → Fit ws vs → split ws (join ws vs) ≡ vs
unfolding join split
split_join [] [] h = refl
split_join [] (v ∷ vs) h = absurd h
split_join (w ∷ ws) [] h = absurd h
split_join (w ∷ ws) (v ∷ vs) h =
    ap₂ (λ (x : ℕ) (xs : List ℕ). x ∷ xs)
    (ap number (take_at (be w v) (join ws vs) w (be_length w v)) ∙ number_be w v h.0)
    (ap (split ws) (drop_at (be w v) (join ws vs) w (be_length w v)) ∙ split_join ws vs h.1)

pub join_split : (ws bs : List ℕ) → Bytes bs → length bs ≡ total ws → join ws (split ws bs) ≡ bs
unfolding join split
join_split [] [] h e = refl
join_split [] (b ∷ bs) h e = absurd (omega arith)
join_split (w ∷ ws) bs h e =
    let l : length (take w bs) ≡ w = length-take-le w bs (omega arith) in
    ap₂ ◌++◌ (ap (λ n. be n (number (take w bs))) (sym l) ∙ be_number (take w bs) (all_take (λ b. b < 256) w bs h))
    (join_split ws (drop w bs) (all_drop (λ b. b < 256) w bs h) (length-drop w bs ∙ omega arith))
    ∙ take-append-drop w bs

pub split_fit : (ws bs : List ℕ) → Bytes bs → length bs ≡ total ws → Fit ws (split ws bs)
unfolding split
split_fit [] bs h e = tt
split_fit (w ∷ ws) bs h e =
    let l : length (take w bs) ≡ w = length-take-le w bs (omega arith) in
    (rw l at (number_below (take w bs) (all_take (λ b. b < 256) w bs h)), split_fit ws (drop w bs) (all_drop (λ b. b < 256) w bs h) (length-drop w bs ∙ omega arith))
