-- The reader's loop, at a place of the file: what a step, a stop and the end come to. Assumes nothing.
use mathlib.Core.Path.{◌≡◌, refl, ap, ◌∙◌}
use mathlib.Core.Logic.{◌↔◌, ◌⊎◌, inl, inr}
use mathlib.Core.List.{List, [], ◌∷◌, ◌++◌}
use Prim.Native.Nat.{ℕ, zero, suc, ◌+◌, ◌*◌, ◌/◌, ◌%◌, ◌^◌, ◌≤◌, ◌<◌}
use native.Mathlib.Nat.{add-zero, pow-suc}
use native.Mathlib.Numerals.{add-one}
use native.Mathlib.Omega.{arith}
use lib.ListN.{length, get_or, take, drop, length-append, length-drop, drop_of_length-le}
use lib.Seq.{drop-cons, drop-drop, take-suc, get_or-drop}
use Rattle.std.specs.Prelude.{Some, None}
use Rattle.graph.specs.Model.{Link, bare}
use Rattle.format.specs.Growth.{list_of}
use Rattle.format.specs.Record.{be, number, Kind, kind_of, size, Record, kind, encode, decode, digits, rank}
use Rattle.format.specs.Reader.{InRange, count, limit, State, start, step, Test, unknown, cut, down, range, full, Fires, FirstTest, Good, cycles, Answer, stopped, Ends, Answers, Leads, passes, Bytes}
use Rattle.numbers.proofs.Lists.{all_drop}
use Rattle.numbers.proofs.Sums.{cases}
use Rattle.format.proofs.Records.{kind_decode, body_length}
use Rattle.format.proofs.Front.{Says, none_before}
use Rattle.format.proofs.Reading.{here, prepend, passed}

-- ---- the loop

pub leads_start : (file : List ℕ) → Leads file start 0
leads_start file = record { inside = omega arith; so = λ a m. m }

module _ (file : List ℕ) (s : State) (at : ℕ) (L : Leads file s at) where
  abbrev behind : List ℕ
  behind = drop (suc at) file

  pub leads_end : length file ≤ at → (a : Answer) → Ends s at [] a → Answers file a
  leads_end h a e = L.so a (rw (drop_of_length-le file h) (here s at [] a e))

  module _ (more : at < length file) where
    pub leads_stop : (t : Test) → FirstTest (Fires s (kind_of (get_or file at 0)) behind) t → Answers file (stopped t at)
    leads_stop t f = L.so (stopped t at) (rw (drop-cons file at 0 more) (here s at (get_or file at 0 ∷ behind) (stopped t at) (f, refl)))

    module _ (k : Kind) (known : kind_of (get_or file at 0) ≡ Some k) where
      abbrev r : Record
      r = decode k (take (size k) behind)

      pub leads_step : Bytes file → size k ≤ length behind → Good s r → Leads file (step s r) (at + suc (size k))
      leads_step h long good =
          let b : ℕ = get_or file at 0 in
          let w : Says s (kind_of b) behind (passes r) = rw known (refl, long, good) in
          let p = (passed s b behind r (all_drop (λ x. x < 256) (suc at) file h) w).1 in
          let len : length (encode r) ≡ suc (size k) = ap suc (body_length s.graph r good.in_range ∙ ap size (kind_decode k (take (size k) behind))) in
          let n : suc at + size k ≡ at + suc (size k) = omega arith in
          let e : drop (size (kind r)) behind ≡ drop (at + suc (size k)) file =
          ap (λ q. drop (size q) behind) (kind_decode k (take (size k) behind)) ∙ drop-drop (size k) (suc at) file
          ∙ ap (λ m. drop m file) n in
          record {
            inside = omega (arith, length-drop (suc at) file);
            so =
                λ a m. L.so a
                (rw (drop-cons file at 0 more, p)
                (prepend s at r (drop (size (kind r)) behind) a good (rw (len, e) m)));
          }

      -- the tests in order, each behind those before it
      pub is_cut : length behind < size k → FirstTest (Fires s (kind_of (get_or file at 0)) behind) cut
      is_cut h =
          rw known (
            h,
            none_before (Fires s (Some k) behind) 2
                (λ _ x. x) (λ l. absurd (omega arith)) (λ l. absurd (omega arith)) (λ l. absurd (omega arith)) (λ l. absurd (omega arith)),
          )

      module _ (long : size k ≤ length behind) where
        pub is_down : rank r < s.floor → FirstTest (Fires s (kind_of (get_or file at 0)) behind) down
        is_down h =
            rw known (
              h,
              none_before (Fires s (Some k) behind) 3
                  (λ _ x. x) (λ _ x. omega arith) (λ l. absurd (omega arith)) (λ l. absurd (omega arith)) (λ l. absurd (omega arith)),
            )

        module _ (order : s.floor ≤ rank r) where
          pub is_range : ¬ InRange s.graph r → FirstTest (Fires s (kind_of (get_or file at 0)) behind) range
          is_range h =
              rw known (
                h,
                none_before (Fires s (Some k) behind) 4
                    (λ _ x. x) (λ _ x. omega arith) (λ _ x. omega arith) (λ l. absurd (omega arith)) (λ l. absurd (omega arith)),
              )

          pub is_full : InRange s.graph r → limit r ≤ count s.graph r → FirstTest (Fires s (kind_of (get_or file at 0)) behind) full
          is_full i h =
              rw known (
                h,
                none_before (Fires s (Some k) behind) 5
                    (λ _ x. x) (λ _ x. omega arith) (λ _ x. omega arith) (λ _ x. x i) (λ l. absurd (omega arith)),
              )

    pub is_unknown : kind_of (get_or file at 0) ≡ None → FirstTest (Fires s (kind_of (get_or file at 0)) behind) unknown
    is_unknown e =
        rw e (
          tt,
          none_before (λ _. Unit {0}) 1
              (λ l. absurd (omega arith)) (λ l. absurd (omega arith)) (λ l. absurd (omega arith)) (λ l. absurd (omega arith)) (λ l. absurd (omega arith)),
        )

-- ---- what code has at hand

-- a file whose elements are bytes
pub bytes_of : (file : List ℕ) → ((i : ℕ) → i < length file → get_or file i 0 < 256) → Bytes file
bytes_of [] h = tt
bytes_of (b ∷ bs) h = (h 0 (omega arith), bytes_of bs (λ i l. h (suc i) (omega arith)))

-- one byte more of a number
pub number_snoc : (bs : List ℕ) (b : ℕ) → number (bs ++ (b ∷ [])) ≡ number bs * 256 + b
unfolding number
number_snoc [] b = omega arith
number_snoc (c ∷ bs) b =
    omega (arith, number_snoc bs b, ap (λ n. c * 256 ^ n) (length-append bs (b ∷ []) ∙ add-one (length bs)), pow-suc 256 (length bs), ap (λ n. c * n) (pow-suc 256 (length bs)))

pub number_more : (bs : List ℕ) (at w : ℕ) → at + w < length bs
    → number (take (suc w) (drop at bs)) ≡ number (take w (drop at bs)) * 256 + get_or bs (at + w) 0
number_more bs at w h =
    let l : w < length (drop at bs) = omega (arith, length-drop at bs) in
    rw (take-suc (drop at bs) w 0 l, number_snoc (take w (drop at bs)) (get_or (drop at bs) w 0), get_or-drop at bs w 0)

pub number_four : (bs : List ℕ) (at : ℕ) → at + 4 ≤ length bs
    → number (take 4 (drop at bs)) ≡ ((get_or bs at 0 * 256 + get_or bs (at + 1) 0) * 256 + get_or bs (at + 2) 0) * 256 + get_or bs (at + 3) 0
unfolding number
number_four bs at h =
    omega (
      arith,
      number_more bs at 0 (omega arith),
      number_more bs at 1 (omega arith),
      number_more bs at 2 (omega arith),
      number_more bs at 3 (omega arith),
      ap (λ n. get_or bs n 0) (add-zero at),
    )

-- the bytes of a 4-byte number, as code makes them
pub be_4 : (v : ℕ) → v < 4294967296 → be 4 v ≡ v / 16777216 ∷ v / 65536 % 256 ∷ v / 256 % 256 ∷ v % 256 ∷ []
unfolding be
be_4 v h =
    let b : v % 16777216 / 65536 ≡ v / 65536 % 256 = omega arith in
    let c : v % 16777216 % 65536 / 256 ≡ v / 256 % 256 = omega arith in
    let d : v % 16777216 % 65536 % 256 / 1 ≡ v % 256 = omega arith in
    rw (b, c, d)

-- at place 2 × channel + side stands the length of that cycle, and behind the last place there is none
pub cycle_place : (cs : List Link) (c s : ℕ) → c < length cs → s ≤ 1 → get_or (cycles cs) (2 * c + s) 1 ≡ length (list_of (get_or cs c (bare 0 0 0 0)) s 1)
unfolding cycles
cycle_place [] c s h l = absurd (omega arith)
cycle_place (d ∷ cs) zero zero h l = refl
cycle_place (d ∷ cs) zero (suc zero) h l = refl
cycle_place (d ∷ cs) zero (suc (suc s)) h l = absurd (omega arith)
cycle_place (d ∷ cs) (suc c) s h l =
    let e : 2 * suc c + s ≡ suc (suc (2 * c + s)) = omega arith in
    rw e (cycle_place cs c s (omega arith) l)

pub cycles_length : (cs : List Link) → length (cycles cs) ≡ 2 * length cs
unfolding cycles
cycles_length [] = refl
cycles_length (c ∷ cs) = omega (arith, cycles_length cs)

-- ranks compare kind, channel, side and part from left to right
abbrev pub Left : (k a b c k' a' b' c' : ℕ) → Type 0
Left k a b c k' a' b' c' = (k < k') ⊎ ((k ≡ k') × ((a < a') ⊎ ((a ≡ a') × ((b < b') ⊎ ((b ≡ b') × (c < c'))))))

pub digits_left :
    (k a b c k' a' b' c' : ℕ) → a < 256 → b < 256 → c < 256 → a' < 256 → b' < 256 → c' < 256
    → (digits k a b c < digits k' a' b' c') ↔ Left k a b c k' a' b' c'
digits_left k a b c k' a' b' c' ha hb hc ha' hb' hc' = (to, from)
  where
    to : digits k a b c < digits k' a' b' c' → Left k a b c k' a' b' c'
    to h =
        cases k' k
        (λ l. inr (
          omega arith,
          cases a' a
              (λ m. inr (omega arith, cases b' b (λ n. inr (omega arith, omega arith)) (λ n. inl n)))
              (λ m. inl m),
        ))
        (λ l. inl l)

    from : Left k a b c k' a' b' c' → digits k a b c < digits k' a' b' c'
    from (inl l) = omega arith
    from (inr (e, inl l)) = omega arith
    from (inr (e, inr (f, inl l))) = omega arith
    from (inr (e, inr (f, inr (g, l)))) = omega arith
