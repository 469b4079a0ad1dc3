-- A turn of the search for the taker's first short job goes by a stretch. Assumes nothing.
use mathlib.Core.Path.{◌≡◌, sym, ap, ◌∙◌}
use Prim.Native.Nat.{ℕ, suc, ◌+◌, ◌*◌, ◌-◌, ◌/◌, ◌≤◌, ◌<◌}
use native.Mathlib.Nat.{mul-le-mul, le-div_iff_mul-le, add-mul-div_right}
use native.Mathlib.Omega.{arith}
use Rattle.numbers.specs.Numbers.{ceil}
use Rattle.numbers.specs.Lists.{First}
use Rattle.numbers.proofs.Sums.{cases}
use Rattle.channel.specs.Side.{Side, release, end, total, ended, Short}
use Rattle.channel.specs.Stretches.{beyond}
use Rattle.channel.proofs.Jobs.{ended_closed, ended_iff, ended_few, ended_mono, release_mono}
use Rattle.channel.proofs.Stretches.{released_iff, goes_on, short_in, stretch}
use Rattle.channels.specs.Sides.{Limited}
use Rattle.channels.specs.Tables.{Above}
use Rattle.channels.specs.Answers.{passed_of, most_jobs}
use Rattle.channels.proofs.Tables.{sound}

-- two sides in range, and so few jobs that the totals fit 64 bits
pub record Searchable (t g : Side) (jobs : ℕ) : Type 0 where
  pub taker : Limited t
  pub giver : Limited g
  pub jobs_most : jobs ≤ most_jobs

-- where some are known to be passed, it is enough to count on from there
pub passed_on : (first period known tick : ℕ) → 0 < period → known ≤ passed_of first period tick
    → known + passed_of (first + known * period) period tick ≡ passed_of first period tick
passed_on first period known tick some h =
    let ticks : known * period ≤ tick + period - first = (le-div_iff_mul-le {k = period} some).0 h in
    let e : tick + period - (first + known * period) + known * period ≡ tick + period - first = omega arith in
    omega (arith, add-mul-div_right (tick + period - (first + known * period)) known some, ap (λ x. x / period) e)

-- where the search stands at job k: no earlier job is short; so many of the giver's jobs have ended by its release, and the next of them ends there
pub record Stood (t g : Side) (stock next ended k : ℕ) : Type 0 where
  pub quiet : (j : ℕ) → j < k → ¬ Short t g stock j
  pub known : ended ≤ passed_of (g.offset + g.window) g.period (release t k)
  pub ends : next ≡ end g ended

module _ (t g : Side) (jobs : ℕ) (ok : Searchable t g jobs) (k : ℕ) (less : k < jobs) where
  pub release_most : release t k ≤ 2_179_666_000_000
  release_most =
      omega (
        arith,
        mul-le-mul {n₁ = k} {m₁ = t.period} {n₂ = 2_179_665} {m₂ = 1_000_000} (omega (arith, ok.jobs_most)) ok.taker.period_most,
        ok.taker.offset_most,
      )

  -- q of the giver's jobs have ended by k's release
  module _ (q : ℕ) (eq : q ≡ passed_of (g.offset + g.window) g.period (release t k)) where
    is_ended : q ≡ ended g (release t k)
    is_ended = eq ∙ sym (ended_closed g (sound ok.giver) (release t k))

    pub ended_most : q ≤ 2_179_666_000_000
    ended_most = omega (arith, is_ended, ended_few g (sound ok.giver) (release t k), release_most)

    -- the last of them ended by then
    ticks_most : q * g.period ≤ release t k + g.period
    ticks_most =
        cases 1 q
        (λ h.
        let one : q - 1 + 1 ≡ q = omega arith in
        omega (arith, ap (λ x. x * g.period) one, (ended_iff g (sound ok.giver) (q - 1) (release t k)).0 (omega (arith, is_ended))))
        (λ h. let z : q ≡ 0 = omega arith in omega (arith, ap (λ x. x * g.period) z))

    pub end_most : end g q ≤ 2_179_670_000_000
    end_most = omega (arith, ticks_most, release_most, ok.giver.period_most, ok.giver.offset_most)

    -- job k is released before the next end
    pub open_yet : release t k < end g q
    open_yet =
        omega (
          arith,
          (released_iff t (sound ok.taker) k (end g (ended g (release t k)))).0 (goes_on t g (sound ok.taker) (sound ok.giver) k),
          ap (end g) is_ended,
        )

    -- those of the taker that are released before it, counted up to the tick before
    next_is : passed_of t.offset t.period (end g q - 1) ≡ beyond t g k
    unfolding ceil
    next_is =
        let same : end g q - 1 + t.period - t.offset ≡ end g q - t.offset + (t.period - 1) = omega (arith, open_yet, ok.taker.some_tick, ok.taker.fits) in
        ap (λ x. x / t.period) same ∙ ap (λ x. ceil (end g x - t.offset) t.period) is_ended

    -- k is one of them
    next_known : k + 1 ≤ passed_of t.offset t.period (end g q - 1)
    next_known = omega (arith, next_is, goes_on t g (sound ok.taker) (sound ok.giver) k)

    -- n of the taker's are released before the next end
    module _ (n : ℕ) (en : n ≡ passed_of t.offset t.period (end g q - 1)) where
      is_beyond : n ≡ beyond t g k
      is_beyond = en ∙ next_is

      pub next_later : k < n
      next_later = omega (arith, is_beyond, goes_on t g (sound ok.taker) (sound ok.giver) k)

      -- what has ended by k's release has by n's
      ended_known : q ≤ passed_of (g.offset + g.window) g.period (release t n)
      ended_known =
          omega (
            arith,
            is_ended,
            ended_mono g (sound ok.giver) (release t k) (release t n) (release_mono t (sound ok.taker) k n (omega (arith, next_later))),
            ended_closed g (sound ok.giver) (release t n),
          )

      module _ (stock have : ℕ) (eh : have ≡ stock + total g q) (quiet : (j : ℕ) → j < k → ¬ Short t g stock j) where
        supplied : have ≡ stock + total g (ended g (release t k))
        supplied = omega (arith, eh, ap (total g) is_ended)

        short_here : (j : ℕ) → k ≤ j → j < n → Short t g stock j → have < total t (suc j)
        short_here j a b s = omega (arith, supplied, (short_in t g (sound ok.taker) (sound ok.giver) stock k j a (omega (arith, is_beyond))).0 s)

        pub first_here : (r : ℕ) → Above t have k n r → First (Short t g stock) r
        first_here r a = (
          (short_in t g (sound ok.taker) (sound ok.giver) stock k r a.behind (omega (arith, is_beyond, a.before))).1 (omega (arith, supplied, a.above)),
          λ j l. cases k j (λ h s. omega (arith, short_here j h (omega (arith, a.before)) s, a.none j h l)) (λ h. quiet j h),
        )

        none_here : total t n ≤ have → (j : ℕ) → j < n → ¬ Short t g stock j
        none_here enough j l =
            cases k j
            (λ h s.
            omega (
              arith,
              supplied,
              ap (total t) is_beyond,
              (stretch t g (sound ok.taker) (sound ok.giver) stock k).0 (j, h, omega (arith, is_beyond), s),
            ))
            (λ h. quiet j h)

        pub stood_on : (next : ℕ) → next ≡ end g q → total t n ≤ have → Stood t g stock next q n
        stood_on next e enough = record { quiet = none_here enough; known = ended_known; ends = e }

  -- counting on from what is known
  module _ (stock next ended : ℕ) (s : Stood t g stock next ended k) where
    pub counted : (m : ℕ) → m ≡ passed_of next g.period (release t k) → ended + m ≡ passed_of (g.offset + g.window) g.period (release t k)
    counted m e =
        let from : next ≡ g.offset + g.window + ended * g.period = omega (arith, s.ends) in
        omega (
          arith,
          e,
          ap (λ x. passed_of x g.period (release t k)) from,
          passed_on (g.offset + g.window) g.period ended (release t k) (omega (arith, ok.giver.some_tick, ok.giver.fits)) s.known,
        )

  module _ (q : ℕ) (eq : q ≡ passed_of (g.offset + g.window) g.period (release t k)) where
    pub counted_next : (m : ℕ) → m ≡ passed_of (release t k + t.period) t.period (end g q - 1) → k + 1 + m ≡ passed_of t.offset t.period (end g q - 1)
    counted_next m e =
        let from : release t k + t.period ≡ t.offset + (k + 1) * t.period = omega arith in
        omega (
          arith,
          e,
          ap (λ x. passed_of x t.period (end g q - 1)) from,
          passed_on t.offset t.period (k + 1) (end g q - 1) (omega (arith, ok.taker.some_tick, ok.taker.fits)) (next_known q eq),
        )
