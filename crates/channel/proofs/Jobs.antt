-- The jobs of a side that have ended by a tick. Assumes nothing.
use mathlib.Core.Path.{◌≡◌, sym, ap, ◌∙◌}
use mathlib.Core.Bool.{cond}
use mathlib.Core.Logic.{◌↔◌}
use Prim.Native.Nat.{ℕ, ◌+◌, ◌*◌, ◌-◌, ◌/◌, ◌≤◌, ◌<◌}
use native.Mathlib.Nat.{le-div_iff_mul-le, add-mul-div_right, le-mul_of_pos_right, mul-le-mul_right}
use native.Mathlib.Omega.{arith}
use borrow.Author.Tests.{le-leb, lt-leb}
use lib.Dec.{leb}
use Rattle.channel.specs.Side.{Side, Sound, release, end, ended}
use Rattle.numbers.proofs.Sums.{cases, sum_count}

-- the number of ended jobs as code computes it
abbrev pub closed : Side → ℕ → ℕ
closed s t = (t + s.period - (s.offset + s.window)) / s.period

module _ (s : Side) (ok : Sound s) where
  period_pos : 0 < s.period
  period_pos = omega arith

  -- a job is released no earlier than its number
  pub release_late : (m : ℕ) → m ≤ release s m
  release_late m = omega (arith, le-mul_of_pos_right m period_pos)

  pub release_mono : (a b : ℕ) → a ≤ b → release s a ≤ release s b
  release_mono a b h = omega (arith, mul-le-mul_right s.period h)

  closed_iff : (m t : ℕ) → (m < closed s t) ↔ (end s m ≤ t)
  closed_iff m t = (
    λ h. omega (arith, (le-div_iff_mul-le period_pos).0 h),
    λ h. (le-div_iff_mul-le period_pos).1 (omega arith),
  )

  closed_few : (t : ℕ) → closed s t ≤ t
  closed_few t = cases (closed s t) t (λ h. h) (λ h. omega (arith, (closed_iff t t).0 h, release_late t))

  pub ended_closed : (t : ℕ) → ended s t ≡ closed s t
  unfolding ended
  ended_closed t =
      sum_count (λ m. cond (leb (end s m) t) 1 0) (closed s t) t (closed_few t)
      (λ j h. ap (λ b. cond b 1 0) (le-leb (end s j) t ((closed_iff j t).0 h)))
      (λ j h. ap (λ b. cond b 1 0) (lt-leb (end s j) t (late j h)))
    where
      late : (j : ℕ) → closed s t ≤ j → t < end s j
      late j h = cases (end s j) t (λ l. omega (arith, (closed_iff j t).1 l)) (λ l. l)

  -- what the number means
  pub ended_iff : (m t : ℕ) → (m < ended s t) ↔ (end s m ≤ t)
  ended_iff m t = rw ended_closed (closed_iff m t)

  pub ended_mono : (t u : ℕ) → t ≤ u → ended s t ≤ ended s u
  ended_mono t u h = cases (ended s t) (ended s u) (λ l. l) (λ l. omega (arith, (ended_iff (ended s u) u).1 (omega (arith, (ended_iff (ended s u) t).0 l))))

  pub ended_few : (t : ℕ) → ended s t ≤ t
  ended_few t = rw ended_closed (closed_few t)

  -- a count of ended jobs that cannot go on is the number of them
  pub ended_is : (q t : ℕ) → q ≤ ended s t → t < end s q → ended s t ≡ q
  ended_is q t h l = cases (ended s t) q (λ e. omega arith) (λ e. omega (arith, (ended_iff q t).0 e))

  -- c periods later, c more have ended
  pub ended_later : (t c : ℕ) → s.offset + s.window ≤ t → ended s (t + c * s.period) ≡ ended s t + c
  ended_later t c h =
      ended_closed (t + c * s.period)
      ∙ ap (λ x. x / s.period) (omega arith)
      ∙ add-mul-div_right (t + s.period - (s.offset + s.window)) c period_pos
      ∙ ap (λ x. x + c) (sym (ended_closed t))
