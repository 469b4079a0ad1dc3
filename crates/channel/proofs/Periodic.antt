-- Past the first jobs a balanced channel's tests repeat, so finitely many decide all; and an unbalanced channel runs short. Assumes nothing.
use mathlib.Core.Path.{◌≡◌, sym, ap, ◌∙◌}
use Prim.Native.Nat.{ℕ, zero, suc, ◌+◌, ◌*◌, ◌-◌, ◌/◌, ◌≤◌, ◌<◌, ◌∣◌}
use native.Mathlib.Nat.{le_refl, mul-le-mul_left, mul-le-mul_right, lt-div-mul-add, div-mul_cancel, div-eq_of_eq-mul_left, eq_of_mul-eq-mul_left, div-le_of_le-mul, le-mul_of_pos_right, le_of_dvd}
use native.Mathlib.Omega.{arith}
use lib.ListN.{length}
use Rattle.channel.specs.Side.{Side, Sound, release, end, total, turn, span, ended, Short, first, jobs}
use Rattle.channel.specs.Channel.{Balanced}
use Rattle.channel.specs.Judge.{longest}
use Rattle.numbers.proofs.Sums.{cases}
use Rattle.channel.proofs.Jobs.{ended_iff, ended_later}
use Rattle.channel.proofs.Totals.{turns}

module _ (t g : Side) (okt : Sound t) (okg : Sound g) where
  -- from `first` on a job is past its own prefix, and released when the giver is past its own
  pub past : (k : ℕ) → first t g ≤ k → end g (length g.prefix) ≤ release t k
  past k h =
      let over : ℕ = end g (length g.prefix) - t.offset in
      let later : over / t.period + 1 ≤ k = omega arith in
      omega (arith, lt-div-mul-add {a = over} {b = t.period} (omega arith), mul-le-mul_right t.period later)

  -- a turns of the taker's cycle that take as long as b of the giver's
  module _ (a b : ℕ) (same : a * span t ≡ b * span g) (k : ℕ) (h : first t g ≤ k) where
    taker_later : total t (suc (k + a * length t.cycle)) ≡ total t (suc k) + a * turn t
    taker_later = ap (total t) (omega arith) ∙ turns t okt (suc k) a (omega arith)

    giver_later :
        total g (ended g (release t (k + a * length t.cycle))) ≡ total g (ended g (release t k)) + b * turn g
    giver_later =
        ap (λ x. total g (ended g x)) (omega arith)
        ∙ ap (total g) (ended_later g okg (release t k) (b * length g.cycle) (omega (arith, past k h)))
        ∙ turns g okg (ended g (release t k)) b (omega (arith, (ended_iff g okg (length g.prefix) (release t k)).1 (past k h)))

  module _ (L : ℕ) (l_pos : 0 < L) (dt : span t ∣ L) (dg : span g ∣ L) (bal : Balanced t g) (stock : ℕ) where
    same_l : L / span t * span t ≡ L / span g * span g
    same_l = div-mul_cancel (span t) dt ∙ sym (div-mul_cancel (span g) dg)

    in_jobs : L / t.period ≡ L / span t * length t.cycle
    in_jobs = div-eq_of_eq-mul_left (omega arith) (omega (arith, div-mul_cancel (span t) dt))

    same_tokens : L / span t * turn t ≡ L / span g * turn g
    same_tokens = eq_of_mul-eq-mul_left L l_pos (L / span t * turn t) (L / span g * turn g)
        (ap (λ x. x * (L / span t * turn t)) (sym (div-mul_cancel (span g) dg))
        ∙ omega (arith, ap (λ x. L / span t * (L / span g) * x) bal)
        ∙ ap (λ x. x * (L / span g * turn g)) (div-mul_cancel (span t) dt))

    some_jobs : 0 < L / t.period
    some_jobs = cases 1 (L / t.period) (λ h. h) (λ h. omega (arith, div-mul_cancel (span t) dt, ap (λ x. x * t.period) in_jobs, mul-le-mul_right t.period h))

    back : (k : ℕ) → first t g ≤ k → Short t g stock (k + L / t.period) → Short t g stock k
    back k h s =
        let u : Short t g stock (k + L / span t * length t.cycle) = rw in_jobs at s in
        omega (arith, taker_later (L / span t) (L / span g) same_l k h, giver_later (L / span t) (L / span g) same_l k h, same_tokens)

    earlier_in : (f k : ℕ) → k < f → Short t g stock k → (j : ℕ) × (j < jobs L t g) × (j ≤ k) × Short t g stock j
    earlier_in zero k h s = absurd (omega arith)
    earlier_in (suc f) k h s =
        cases (jobs L t g) k
        (λ far.
        let e : k - L / t.period + L / t.period ≡ k = omega arith in
        let r = earlier_in f (k - L / t.period) (omega (arith, some_jobs)) (back (k - L / t.period) (omega arith) (rw e s)) in
        (r.0, r.1, omega (arith, r.2), r.3))
        (λ near. (k, near, le_refl k, s))

    -- where job k is short, so is one of the first `jobs` that is no later than k
    pub earlier : (k : ℕ) → Short t g stock k → (j : ℕ) × (j < jobs L t g) × (j ≤ k) × Short t g stock j
    earlier k s = earlier_in (suc k) k (le_refl (suc k)) s

    -- so the tests of the first `jobs` decide all
    pub decided : ((j : ℕ) → j < jobs L t g → ¬ Short t g stock j) → (k : ℕ) → ¬ Short t g stock k
    decided none k s = let r = earlier k s in none r.0 r.1 r.3

  -- a taker that moves more in the long run than its giver runs short, whatever the stock
  pub starves :
      turn g * length t.cycle * t.period < turn t * length g.cycle * g.period
      → (stock : ℕ) → (k : ℕ) × Short t g stock k
  starves more stock =
      let at : ℕ = first t g in
      let q : ℕ = suc (stock + total g (ended g (release t at))) in
      let same : q * span g * span t ≡ q * span t * span g = omega arith in (
        at + q * span g * length t.cycle,
        omega (
          arith,
          taker_later (q * span g) (q * span t) same at (le_refl at),
          giver_later (q * span g) (q * span t) same at (le_refl at),
          mul-le-mul_left q more,
        ),
      )

  -- how many jobs are tested, under the limits of a graph file: no offset above a million, no prefix above 16, no window too long
  pub jobs_few :
      (L : ℕ) → 0 < L → span g ∣ L → g.offset ≤ 1_000_000 → length t.prefix ≤ 16 → length g.prefix ≤ 16
      → L / t.period ≤ longest
      → jobs L t g ≤ 2_179_666
  jobs_few L pos d go tl gl w =
      let long : L ≤ 65537 * t.period = omega (arith, lt-div-mul-add {a = L} {b = t.period} (omega arith), mul-le-mul_right t.period w) in
      let wide : g.period ≤ L = omega (arith, le-mul_of_pos_right g.period okg.some_rate, le_of_dvd pos d) in
      let start : end g (length g.prefix) - t.offset ≤ t.period * 2_114_129 = omega (arith, mul-le-mul_right g.period gl) in
      omega (arith, div-le_of_le-mul t.period start)
