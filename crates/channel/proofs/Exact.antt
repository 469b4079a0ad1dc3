-- A channel passes its tests exactly where no choice of ticks breaks it, and only a balanced one passes. Assumes nothing.
use mathlib.Core.Path.{◌≡◌, refl, sym, ap}
use mathlib.Core.Bool.{Bool, true, false, cond}
use mathlib.Core.Logic.{◌↔◌, inl, inr, ⊎_elim}
use Prim.Native.Nat.{ℕ, suc, ◌+◌, ◌*◌, ◌-◌, ◌≤◌, ◌<◌, ◌∣◌, zero-le}
use native.Mathlib.Nat.{le_refl, le_antisymm}
use native.Mathlib.Decide.{ℕ_discrete}
use native.Mathlib.Omega.{arith}
use borrow.Author.Tests.{lt-ltb, le-ltb}
use lib.Dec.{ltb}
use lib.ListN.{length}
use Rattle.channel.specs.Side.{Side, Sound, release, end, rate, total, turn, span, ended, jobs}
use Rattle.channel.specs.Channel.{Channel, Balanced, Underflows, Overflows, Passes, Part, Ticks, Choice, moved, Moment, before, put_made, take_made, Breaks}
use Rattle.numbers.proofs.Sums.{cases, sum_zero, sum_below, sum_above}
use Rattle.channel.proofs.Jobs.{ended_iff, release_late, release_mono}
use Rattle.channel.proofs.Periodic.{starves, decided}
use Rattle.channel.proofs.Parts.{short_over, over_short, parts_stay}

-- what job j has moved when the ticks below n are over
abbrev moved_by : (s : Side) → Ticks s → ℕ → ℕ → ℕ
moved_by s ts n j = cond (ltb (ts.tick j) n) (rate s j) 0

cond_le : (b : Bool) (x : ℕ) → cond b x 0 ≤ x
cond_le true x = le_refl x
cond_le false x = zero-le

moved_all : (s : Side) (ts : Ticks s) (n j : ℕ) → ts.tick j < n → moved_by s ts n j ≡ rate s j
moved_all s ts n j h = ap (λ b. cond b (rate s j) 0) (lt-ltb (ts.tick j) n h)

moved_none : (s : Side) (ts : Ticks s) (n j : ℕ) → n ≤ ts.tick j → moved_by s ts n j ≡ 0
moved_none s ts n j h = ap (λ b. cond b (rate s j) 0) (le-ltb (ts.tick j) n h)

-- inside tick t a choice is a case of moving in parts
part_of : (s : Side) (ts : Ticks s) (t n : ℕ) → t ≤ n → n ≤ suc t → Part s t (moved_by s ts n)
part_of s ts t n l h =
    record {
      at_most = λ j. cond_le (ltb (ts.tick j) n) (rate s j);
      all = λ j e. moved_all s ts n j (omega (arith, ts.late j));
      none = λ j e. moved_none s ts n j (omega (arith, ts.early j));
    }

inside : {f : ℕ → Bool} {n m : ℕ} → Moment f n m → (t : ℕ) × (t ≤ n) × (n ≤ suc t) × (t ≤ m) × (m ≤ suc t)
inside (before t) = (t, omega arith, omega arith, omega arith, omega arith)
inside (put_made t e) = (t, omega arith, omega arith, omega arith, omega arith)
inside (take_made t e) = (t, omega arith, omega arith, omega arith, omega arith)

latest : (s : Side) → Sound s → Ticks s
latest s ok = record { tick = λ j. release s j + (s.window - 1); early = λ j. omega arith; late = λ j. omega arith }

earliest : (s : Side) → Sound s → Ticks s
earliest s ok = record { tick = λ j. release s j; early = λ j. omega arith; late = λ j. omega arith }

latest_few : (s : Side) (ok : Sound s) (r : ℕ) → moved s (latest s ok) r ≤ total s (ended s r)
unfolding moved latest
latest_few s ok r =
    sum_below (moved_by s (latest s ok) r) (rate s) (ended s r) (suc r)
    (λ j _. cond_le (ltb ((latest s ok).tick j) r) (rate s j))
    (λ j l. moved_none s (latest s ok) r j (cases (end s j) r (λ e. omega (arith, (ended_iff s ok j r).1 e)) (λ e. omega arith)))

earliest_many : (s : Side) (ok : Sound s) (k : ℕ) → total s (suc k) ≤ moved s (earliest s ok) (suc (release s k))
unfolding moved earliest
earliest_many s ok k =
    sum_above (moved_by s (earliest s ok) (suc (release s k))) (rate s) (suc k) (suc (suc (release s k)))
    (omega (arith, release_late s ok k))
    (λ j l. omega (arith, moved_all s (earliest s ok) (suc (release s k)) j (omega (arith, release_mono s ok j k (omega arith)))))

moved_zero : (s : Side) (ts : Ticks s) → moved s ts 0 ≡ 0
unfolding moved
moved_zero s ts =
    omega (
      arith,
      sum_zero (rate s),
      sum_below (moved_by s ts 0) (rate s) 0 1 (λ j _. cond_le (ltb (ts.tick j) 0) (rate s j)) (λ j _. moved_none s ts 0 j zero-le),
    )

module _ (ch : Channel) (okp : Sound ch.producer) (okc : Sound ch.consumer) where
  -- takes early and first, puts late; and the other way round
  pub hungry : Choice ch
  hungry = record { puts = latest ch.producer okp; takes = earliest ch.consumer okc; takes_first = λ _. true }

  pub full : Choice ch
  full = record { puts = earliest ch.producer okp; takes = latest ch.consumer okc; takes_first = λ _. false }

  pub too_full : ch.size < ch.initial → Breaks ch full
  too_full h =
      record {
        puts_below = 0;
        takes_below = 0;
        moment = before 0;
        broken = inr (omega (arith, moved_zero ch.producer full.puts, moved_zero ch.consumer full.takes));
      }

  pub underflow_breaks : (k : ℕ) → Underflows ch k → Breaks ch hungry
  unfolding hungry
  underflow_breaks k u =
      record {
        puts_below = release ch.consumer k;
        takes_below = suc (release ch.consumer k);
        moment = take_made (release ch.consumer k) refl;
        broken =
            inl
            (omega (arith, latest_few ch.producer okp (release ch.consumer k), earliest_many ch.consumer okc k));
      }

  pub overflow_breaks : (j : ℕ) → Overflows ch j → Breaks ch full
  unfolding full
  overflow_breaks j o =
      record {
        puts_below = suc (release ch.producer j);
        takes_below = release ch.producer j;
        moment = put_made (release ch.producer j) refl;
        broken =
            inr
            (omega (arith, latest_few ch.consumer okc (release ch.producer j), earliest_many ch.producer okp j));
      }

  -- at every moment of every choice
  pub stays_unbroken :
      Passes ch → (c : Choice ch) (n m : ℕ) → Moment c.takes_first n m
      → (moved ch.consumer c.takes m ≤ ch.initial + moved ch.producer c.puts n)
      × (ch.initial + moved ch.producer c.puts n ≤ ch.size + moved ch.consumer c.takes m)
  unfolding moved
  stays_unbroken ok c n m w =
      let i = inside w in
      parts_stay ch okp okc ok i.0 (moved_by ch.producer c.puts n) (moved_by ch.consumer c.takes m)
      (part_of ch.producer c.puts i.0 n i.1 i.2)
      (part_of ch.consumer c.takes i.0 m i.3 i.4)
      (suc n)
      (suc m)
      (omega (arith, release_late ch.producer okp (suc n)))
      (omega (arith, release_late ch.consumer okc (suc m)))

  passes_unbroken : Passes ch → (c : Choice ch) → ¬ Breaks ch c
  passes_unbroken ok c b =
      let r = stays_unbroken ok c b.puts_below b.takes_below b.moment in
      ⊎_elim (λ l. omega arith) (λ l. omega arith) b.broken

  -- the tests are exact
  pub exact : Passes ch ↔ ((c : Choice ch) → ¬ Breaks ch c)
  exact = (
    passes_unbroken,
    λ none.
        record {
          fits = cases ch.initial ch.size (λ h. h) (λ h. absurd (none full (too_full h)));
          no_underflow = λ k u. none hungry (underflow_breaks k u);
          no_overflow = λ j o. none full (overflow_breaks j o);
        },
  )

  -- an unbalanced channel is broken by some choice, whatever its initial fill and size
  pub unbalanced : ¬ Balanced ch.producer ch.consumer → (c : Choice ch) × Breaks ch c
  unbalanced h =
      let x : ℕ = turn ch.producer * length ch.consumer.cycle * ch.consumer.period in
      let y : ℕ = turn ch.consumer * length ch.producer.cycle * ch.producer.period in
      cases x y
      (λ le.
      cases y x
      (λ ge. absurd (h (le_antisymm le ge)))
      (λ lt.
      let u = starves ch.consumer ch.producer okc okp lt ch.initial in
      (hungry, underflow_breaks u.0 u.1)))
      (λ lt.
      let o = starves ch.producer ch.consumer okp okc lt (ch.size - ch.initial) in
      (full, overflow_breaks o.0 (short_over ch o.0 o.1)))

  pub passes_balanced : Passes ch → Balanced ch.producer ch.consumer
  passes_balanced ok =
      elim (ℕ_discrete (turn ch.producer * length ch.consumer.cycle * ch.consumer.period) (turn ch.consumer * length ch.producer.cycle * ch.producer.period))
      [ yes e ↦ e | no h ↦ let b = unbalanced h in absurd (passes_unbroken ok b.0 b.1) ]

  -- the finite check
  pub finite :
      (L : ℕ) → 0 < L → span ch.producer ∣ L → span ch.consumer ∣ L → Balanced ch.producer ch.consumer
      → ch.initial ≤ ch.size
      → ((k : ℕ) → k < jobs L ch.consumer ch.producer → ¬ Underflows ch k)
      → ((j : ℕ) → j < jobs L ch.producer ch.consumer → ¬ Overflows ch j)
      → Passes ch
  finite L pos dp dc bal fits u o =
      record {
        fits = fits;
        no_underflow = decided ch.consumer ch.producer okc okp L pos dc dp (sym bal) ch.initial u;
        no_overflow = λ j v.
            decided ch.producer ch.consumer okp okc L pos dp dc bal (ch.size - ch.initial) (λ i l s. o i l (short_over ch i s)) j (over_short ch fits j v);
      }
