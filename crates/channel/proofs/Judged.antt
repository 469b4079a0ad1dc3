-- The computed verdict is the one that is true of the channel. Assumes nothing.
use mathlib.Core.Path.{◌≡◌, refl, sym}
use mathlib.Core.Bool.{Bool, true, false, cond}
use Prim.Native.Nat.{ℕ, suc, ◌+◌, ◌*◌, ◌-◌, ◌/◌, min, ◌≤◌, ◌<◌, ◌∣◌}
use native.Mathlib.Nat.{mul-pos}
use native.Mathlib.Omega.{arith}
use borrow.Author.Tests.{ltb-true, ltb-false, eqb-true, eqb-false, lt-ltb, le-ltb, eq-eqb, ne_eqb}
use lib.Dec.{ltb, eqb}
use lib.ListN.{length}
use Rattle.std.specs.Prelude.{Ok, Err}
use Rattle.numbers.specs.Lists.{First}
use Rattle.channel.specs.Side.{Side, Sound, release, total, turn, span, ended, Short, jobs}
use Rattle.channel.specs.Channel.{Channel, Balanced, Underflows, Overflows}
use Rattle.channel.specs.declared.Fault.TheVariants.{InitialAboveSize, Unbalanced, WindowTooLong, Underflow, Overflow}
use Rattle.channel.specs.Judge.{IsLcm, length_of, longest, short, first_short, Verdict, Means, judge}
use Rattle.numbers.proofs.Sums.{cases}
use Rattle.channel.proofs.Periodic.{earlier, decided}
use Rattle.numbers.proofs.Least.{least_is}
use Rattle.channel.proofs.Least.{lcm_is}
use Rattle.channel.proofs.Parts.{short_over, over_short}

short_yes : (t g : Side) (stock k : ℕ) → short t g stock k ≡ true → Short t g stock k
short_yes t g stock k e = ltb-true (stock + total g (ended g (release t k))) (total t (suc k)) e

short_no : (t g : Side) (stock k : ℕ) → short t g stock k ≡ false → ¬ Short t g stock k
short_no t g stock k e h = omega (arith, ltb-false (stock + total g (ended g (release t k))) (total t (suc k)) e)

first_is : (t g : Side) (L stock : ℕ) → first_short L t g stock < jobs L t g → First (Short t g stock) (first_short L t g stock)
first_is t g L stock h =
    let i = least_is (short t g stock) (jobs L t g) in
    (short_yes t g stock (first_short L t g stock) (i.passes h), λ j l. short_no t g stock j (i.none_before j l))

is_none : (t g : Side) (L stock : ℕ) → ((k : ℕ) → ¬ Short t g stock k) → jobs L t g ≤ first_short L t g stock
is_none t g L stock none =
    cases (jobs L t g) (first_short L t g stock) (λ h. h)
    (λ h. absurd (none (first_short L t g stock) (first_is t g L stock h).0))

module _ (t g : Side) (okt : Sound t) (okg : Sound g) (L : ℕ) (pos : 0 < L) (dt : span t ∣ L) (dg : span g ∣ L)
    (bal : Balanced t g) (stock : ℕ) where
  none_is : jobs L t g ≤ first_short L t g stock → (k : ℕ) → ¬ Short t g stock k
  none_is h =
      let i = least_is (short t g stock) (jobs L t g) in
      decided t g okt okg L pos dt dg bal stock (λ j l. short_no t g stock j (i.none_before j (omega arith)))

  -- a first short job is found
  is_first : (k : ℕ) → First (Short t g stock) k → (k < jobs L t g) × (first_short L t g stock ≡ k)
  is_first k f =
      let e = earlier t g okt okg L pos dt dg bal stock k f.0 in
      let near : k < jobs L t g =
      cases k e.0 (λ h. omega (arith, e.1)) (λ h. absurd (f.1 e.0 h e.3)) in
      let r : ℕ = first_short L t g stock in
      let i = least_is (short t g stock) (jobs L t g) in (
        near,
        cases r k
            (λ h. cases k r (λ l. omega arith) (λ l. absurd (f.1 r l (first_is t g L stock (omega arith)).0)))
            (λ h. absurd (short_no t g stock k (i.none_before k h) f.0)),
      )

module _ (ch : Channel) (okp : Sound ch.producer) (okc : Sound ch.consumer) where
  abbrev L : ℕ
  L = length_of ch

  l_is : IsLcm (span ch.producer) (span ch.consumer) L
  l_is =
      lcm_is (span ch.producer) (span ch.consumer) (mul-pos (omega arith) okp.some_rate) (mul-pos (omega arith) okc.some_rate)

  -- the numbers that `judge` tests
  abbrev k : ℕ
  k = first_short L ch.consumer ch.producer ch.initial

  abbrev j : ℕ
  j = first_short L ch.producer ch.consumer (ch.size - ch.initial)

  abbrev x : ℕ
  x = turn ch.producer * length ch.consumer.cycle * ch.consumer.period

  abbrev y : ℕ
  y = turn ch.consumer * length ch.producer.cycle * ch.producer.period

  abbrev w : ℕ
  w = L / min ch.producer.period ch.consumer.period

  abbrev ks : ℕ
  ks = jobs L ch.consumer ch.producer

  abbrev js : ℕ
  js = jobs L ch.producer ch.consumer

  no_under : x ≡ y → ks ≤ k → (i : ℕ) → ¬ Underflows ch i
  no_under bal h = none_is ch.consumer ch.producer okc okp L l_is.positive l_is.right l_is.left (sym bal) ch.initial h

  no_over : ch.initial ≤ ch.size → x ≡ y → js ≤ j → (i : ℕ) → ¬ Overflows ch i
  no_over fits bal h i v =
      none_is ch.producer ch.consumer okp okc L l_is.positive l_is.left l_is.right bal (ch.size - ch.initial) h i (over_short ch fits i v)

  first_over : ch.initial ≤ ch.size → j < js → First (Overflows ch) j
  first_over fits h =
      let f = first_is ch.producer ch.consumer L (ch.size - ch.initial) h in
      (short_over ch j f.0, λ i l v. f.1 i l (over_short ch fits i v))

  is_under : x ≡ y → (i : ℕ) → First (Underflows ch) i → (i < ks) × (k ≡ i)
  is_under bal = is_first ch.consumer ch.producer okc okp L l_is.positive l_is.right l_is.left (sym bal) ch.initial

  is_over : ch.initial ≤ ch.size → x ≡ y → (i : ℕ) → First (Overflows ch) i → (i < js) × (j ≡ i)
  is_over fits bal i f =
      is_first ch.producer ch.consumer okp okc L l_is.positive l_is.left l_is.right bal (ch.size - ch.initial) i
      (over_short ch fits i f.0, λ k l s. f.1 k l (short_over ch k s))

  by_tests :
      (a b c d e : Bool) → ltb ch.size ch.initial ≡ a → eqb x y ≡ b → ltb longest w ≡ c → ltb k ks ≡ d → ltb j js ≡ e
      → Means ch (cond a (Err InitialAboveSize) (cond b (cond c (Err WindowTooLong) (cond d (Err (Underflow k)) (cond e (Err (Overflow j)) (Ok tt)))) (Err Unbalanced)))
  by_tests true b c d e ea eb ec ed ee = ltb-true ch.size ch.initial ea
  by_tests false false c d e ea eb ec ed ee = (ltb-false ch.size ch.initial ea, eqb-false x y eb)
  by_tests false true true d e ea eb ec ed ee = (ltb-false ch.size ch.initial ea, eqb-true x y eb, ltb-true longest w ec)
  by_tests false true false true e ea eb ec ed ee = (
    ltb-false ch.size ch.initial ea,
    eqb-true x y eb,
    λ h. omega (arith, ltb-false longest w ec),
    first_is ch.consumer ch.producer L ch.initial (ltb-true k ks ed),
  )
  by_tests false true false false true ea eb ec ed ee = (
    ltb-false ch.size ch.initial ea,
    eqb-true x y eb,
    λ h. omega (arith, ltb-false longest w ec),
    no_under (eqb-true x y eb) (ltb-false k ks ed),
    first_over (ltb-false ch.size ch.initial ea) (ltb-true j js ee),
  )
  by_tests false true false false false ea eb ec ed ee = (
    ltb-false ch.size ch.initial ea,
    eqb-true x y eb,
    λ h. omega (arith, ltb-false longest w ec),
    no_under (eqb-true x y eb) (ltb-false k ks ed),
    no_over (ltb-false ch.size ch.initial ea) (eqb-true x y eb) (ltb-false j js ee),
  )

  pub judge_means : Means ch (judge ch)
  unfolding judge
  judge_means =
      by_tests (ltb ch.size ch.initial) (eqb x y) (ltb longest w) (ltb k ks) (ltb j js) refl refl refl refl refl

  -- and no other verdict is true of the channel
  pub means_judge : (v : Verdict) → Means ch v → judge ch ≡ v
  unfolding judge
  means_judge (Ok tt) m =
      let kn : ks ≤ k = is_none ch.consumer ch.producer L ch.initial m.3 in
      let jn : js ≤ j = is_none ch.producer ch.consumer L (ch.size - ch.initial) (λ i s. m.4 i (short_over ch i s)) in
      rw (
        le-ltb ch.size ch.initial m.0,
        eq-eqb x y m.1,
        le-ltb longest w (omega (arith, m.2)),
        le-ltb k ks kn,
        le-ltb j js jn,
      )
  means_judge (Err InitialAboveSize) m = rw (lt-ltb ch.size ch.initial m)
  means_judge (Err Unbalanced) m = rw (le-ltb ch.size ch.initial m.0, ne_eqb x y m.1)
  means_judge (Err WindowTooLong) m = rw (le-ltb ch.size ch.initial m.0, eq-eqb x y m.1, lt-ltb longest w m.2)
  means_judge (Err (Underflow i)) m =
      let u = is_under m.1 i m.3 in
      rw (le-ltb ch.size ch.initial m.0, eq-eqb x y m.1, le-ltb longest w (omega (arith, m.2)), u.1, lt-ltb i ks u.0)
  means_judge (Err (Overflow i)) m =
      let o = is_over m.0 m.1 i m.4 in
      let kn : ks ≤ k = is_none ch.consumer ch.producer L ch.initial m.3 in
      rw (
        le-ltb ch.size ch.initial m.0,
        eq-eqb x y m.1,
        le-ltb longest w (omega (arith, m.2)),
        le-ltb k ks kn,
        o.1,
        lt-ltb i js o.0,
      )
