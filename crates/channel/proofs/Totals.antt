-- What the first jobs of a side move. Assumes nothing.
use mathlib.Core.Path.{◌≡◌, sym, ap, ◌∙◌, subst}
use Prim.Native.Nat.{ℕ, zero, suc, ◌+◌, ◌*◌, ◌-◌, ◌/◌, ◌%◌, ◌≤◌}
use native.Mathlib.Nat.{mod-eq_of_lt, div-add-mod', add-mod_right, add_assoc, add-zero}
use native.Mathlib.Omega.{arith}
use lib.ListN.{length, get_or}
use Rattle.graph.proofs.Rates.{in_cycle, rate_is, place_in_cycle}
use Rattle.channel.specs.Side.{Side, Sound, rate, total, turn}
use Rattle.numbers.proofs.Sums.{sum_zero, sum_suc, sum_ext, sum_split, sum_le}

pub total_mono : (s : Side) (a b : ℕ) → a ≤ b → total s a ≤ total s b
total_mono s = sum_le (rate s)

pub total_bound : (s : Side) (b : ℕ) → ((j : ℕ) → rate s j ≤ b) → (m : ℕ) → total s m ≤ m * b
total_bound s b h zero = omega (arith, sum_zero (rate s))
total_bound s b h (suc m) = omega (arith, sum_suc (rate s) m, h m, total_bound s b h m)

module _ (s : Side) (ok : Sound s) where
  -- past the prefix
  pub rate_cycle : (d : ℕ) → rate s (length s.prefix + d) ≡ get_or s.cycle (d % length s.cycle) 0
  rate_cycle d =
      let m = length s.prefix + d in
      let e : m - length s.prefix ≡ d = omega arith in
      sym (rate_is s.prefix s.cycle m s.cycle (d % length s.cycle) (in_cycle s.prefix s.cycle m (omega arith))
      (ap (λ x. x % length s.cycle) (sym e) ∙ place_in_cycle (length s.prefix) (length s.cycle) m (omega arith) (omega arith)))

  rate_again : (d : ℕ) → rate s (length s.prefix + d + length s.cycle) ≡ rate s (length s.prefix + d)
  rate_again d =
      ap (rate s) (add_assoc (length s.prefix) d (length s.cycle))
      ∙ rate_cycle (d + length s.cycle)
      ∙ ap (λ x. get_or s.cycle x 0) (add-mod_right d (length s.cycle))
      ∙ sym (rate_cycle d)

  one_turn_from : (d : ℕ) → total s (length s.prefix + d + length s.cycle) ≡ total s (length s.prefix + d) + turn s
  one_turn_from zero =
      rw (add-zero (length s.prefix))
      (sum_split (rate s) (length s.prefix) (length s.cycle)
      ∙ ap (λ x. total s (length s.prefix) + x)
      (sum_ext (λ i. rate s (length s.prefix + i)) (λ i. get_or s.cycle i 0) (length s.cycle)
      (λ j h. rate_cycle j ∙ ap (λ x. get_or s.cycle x 0) (mod-eq_of_lt h))))
  one_turn_from (suc d) =
      let a : length s.prefix + suc d + length s.cycle ≡ suc (length s.prefix + d + length s.cycle) = omega arith in
      let b : length s.prefix + suc d ≡ suc (length s.prefix + d) = omega arith in
      rw (a, b)
      (omega (
        arith,
        sum_suc (rate s) (length s.prefix + d + length s.cycle),
        sum_suc (rate s) (length s.prefix + d),
        rate_again d,
        one_turn_from d,
      ))

  one_turn : (m : ℕ) → length s.prefix ≤ m → total s (m + length s.cycle) ≡ total s m + turn s
  one_turn m h =
      let e : length s.prefix + (m - length s.prefix) ≡ m = omega arith in
      subst (λ x. total s (x + length s.cycle) ≡ total s x + turn s) e (one_turn_from (m - length s.prefix))

  -- c turns of the cycle later
  pub turns : (m c : ℕ) → length s.prefix ≤ m → total s (m + c * length s.cycle) ≡ total s m + c * turn s
  turns m zero h = let e : m + 0 * length s.cycle ≡ m = omega arith in rw e (omega arith)
  turns m (suc c) h =
      ap (total s) (omega arith)
      ∙ one_turn (m + c * length s.cycle) (omega arith)
      ∙ omega (arith, turns m c h)

  -- the total by the entries of prefix and one turn alone
  pub total_folded :
      (m : ℕ) → length s.prefix ≤ m
      → total s m ≡ total s (length s.prefix + (m - length s.prefix) % length s.cycle) + (m - length s.prefix) / length s.cycle * turn s
  total_folded m h =
      let n : ℕ = length s.cycle in
      let d : ℕ = m - length s.prefix in
      let e : length s.prefix + d % n + d / n * n ≡ m = omega (arith, div-add-mod' d n) in
      sym (ap (total s) e) ∙ turns (length s.prefix + d % n) (d / n) (omega arith)
