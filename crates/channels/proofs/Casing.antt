-- The tests of the cases, row by row. Assumes nothing.
use mathlib.Core.Path.{◌≡◌, refl, sym, ap, ◌∙◌}
use mathlib.Core.Bool.{Bool, true, false, ◌&&◌}
use Prim.Native.Nat.{ℕ, suc, ◌+◌, ◌*◌, ◌-◌, ◌%◌, ◌≤◌, ◌<◌}
use native.Mathlib.Nat.{mul-le-mul, mod-lt, add-mod}
use native.Mathlib.Numerals.{add-one}
use native.Mathlib.Omega.{arith}
use borrow.Author.Tests.{le-leb, lt-leb, lt-ltb, le-ltb}
use lib.Dec.{leb, ltb}
use lib.ListN.{length}
use Rattle.numbers.proofs.Sums.{extend}
use Rattle.channel.specs.Side as side
use Rattle.channel.specs.Side.{Side, rate, total, turn, span}
use Rattle.channel.specs.Stretches.{short_at, short_case, some_below}
use Rattle.channel.proofs.Fast.{yes_some, no_some}
use Rattle.channel.proofs.Totals.{total_bound}
use Rattle.channels.specs.Sides.{Limited}
use Rattle.channels.specs.Tables.{most_sum, latest}
use Rattle.graph.specs.Model.{max_cycle, million}

pub span_most : (s : Side) → Limited s → span s ≤ 32_000_000
span_most s ok = omega (arith, mul-le-mul {n₁ = s.period} {n₂ = 1_000_000} {m₂ = 32} ok.period_most ok.cycle_most)

-- ---- one row

-- a step, and a job of the taker by its release and what is wanted with it, in range
pub record Row (step tick wants : ℕ) : Type 0 where
  pub some_step : 1 ≤ step
  pub step_most : step ≤ max_cycle * million
  pub tick_most : tick ≤ latest
  pub wants_most : wants ≤ most_sum

-- the first i places of the giver's cycle are tested; `end` is the next one's end, and `rest` what is left of it modulo the step
pub record Rowed (g : Side) (stock step tick wants end rest i : ℕ) : Type 0 where
  pub ends : end ≡ side.end g (length g.prefix + i)
  pub leaves : rest ≡ (end + (step - 1 - tick % step)) % step
  pub none : (b : ℕ) → b < i → short_at step g stock tick wants b ≡ false

-- what is known at place i of the giver's cycle: the products fit, and the test there is that of the case
pub record Tested (g : Side) (stock step tick wants end rest i has : ℕ) : Type 0 where
  pub has_small : stock + has ≤ 4_300_000_000
  pub has_fits : (stock + has) * span g ≤ 137_600_000_000_000_000
  pub wants_fits : wants * span g ≤ 160_000_000_000_000
  pub time_fits : turn g * (tick + (rest + 1)) ≤ 169_866_720_000_000
  pub last_fits : turn g * end ≤ 104_856_000_000_000
  pub found :
      rest + 1 ≤ g.period → (stock + has) * span g + turn g * (tick + (rest + 1)) < wants * span g + turn g * end
      → true ≡ some_below (short_at step g stock tick wants) (length g.cycle)
  pub not_late : g.period < rest + 1 → short_at step g stock tick wants i ≡ false
  pub not_lacking :
      rest + 1 ≤ g.period → wants * span g + turn g * end ≤ (stock + has) * span g + turn g * (tick + (rest + 1))
      → short_at step g stock tick wants i ≡ false

module _ (g : Side) (stock step tick wants : ℕ) (ok : Row step tick wants) where
  module _ (end rest i : ℕ) (now : Rowed g stock step tick wants end rest i) where
    rest_small : rest < step
    rest_small = omega (arith, now.leaves, mod-lt (end + (step - 1 - tick % step)) {m = step} ok.some_step)

    module _ (limited : Limited g) (few : (j : ℕ) → rate g j ≤ 65535) (turn_most : turn g ≤ 2_097_120) (stock_fits : stock < 4_294_967_296)
        (less : i < length g.cycle) (has : ℕ) (is : has ≡ total g (length g.prefix + i)) where
      place_small : length g.prefix + i ≤ 47
      place_small = omega (arith, limited.prefix_most, limited.cycle_most)

      small : stock + has ≤ 4_300_000_000
      small = omega (arith, is, place_small, total_bound g 65535 few (length g.prefix + i), stock_fits)

      last_small : end ≤ 49_000_000
      last_small =
          omega (
            arith,
            now.ends,
            mul-le-mul {n₁ = length g.prefix + i} {m₁ = g.period} {n₂ = 47} {m₂ = 1_000_000} place_small limited.period_most,
            limited.offset_most,
            limited.fits,
            limited.period_most,
          )

      -- the test as the code makes it is that of the case
      is_case :
          (leb (rest + 1) g.period && ltb ((stock + has) * span g + turn g * (tick + (rest + 1))) (wants * span g + turn g * end))
          ≡ short_at step g stock tick wants i
      unfolding short_at
      is_case =
          let x : rest + 1 ≡ suc ((side.end g (length g.prefix + i) + (step - 1 - tick % step)) % step) =
          add-one rest ∙ ap suc (now.leaves ∙ ap (λ y. (y + (step - 1 - tick % step)) % step) now.ends) in
          rw (x, is, now.ends)

      pub tested : Tested g stock step tick wants end rest i has
      tested =
          record {
            has_small = small;
            has_fits = mul-le-mul {n₁ = stock + has} {m₁ = span g} {n₂ = 4_300_000_000} {m₂ = 32_000_000} small (span_most g limited);
            wants_fits = mul-le-mul {n₁ = wants} {m₁ = span g} {n₂ = 5_000_000} {m₂ = 32_000_000} (omega (arith, ok.wants_most)) (span_most g limited);
            time_fits =
                mul-le-mul {n₁ = turn g} {m₁ = tick + (rest + 1)} {n₂ = 2_097_120} {m₂ = 81_000_000} turn_most
                (omega (arith, ok.tick_most, rest_small, ok.step_most));
            last_fits = mul-le-mul {n₁ = turn g} {m₁ = end} {n₂ = 2_097_120} {m₂ = 50_000_000} turn_most (omega (arith, last_small));
            found = λ meet lacks.
                sym (yes_some (short_at step g stock tick wants) (length g.cycle) i less (sym is_case ∙ rw (le-leb (rest + 1) g.period meet) (lt-ltb _ _ lacks)));
            not_late = λ h. sym is_case ∙ rw (lt-leb (rest + 1) g.period h) refl;
            not_lacking = λ meet enough. sym is_case ∙ rw (le-leb (rest + 1) g.period meet) (le-ltb _ _ enough);
          }

    pub row_more : short_at step g stock tick wants i ≡ false → Rowed g stock step tick wants (end + g.period) ((rest + g.period % step) % step) (i + 1)
    row_more this =
        let a : ℕ = step - 1 - tick % step in
        record {
          ends = omega (arith, now.ends);
          leaves =
              let swap : end + a + g.period ≡ end + g.period + a = omega arith in
              let same : (end + a + g.period) % step ≡ (rest + g.period % step) % step =
              add-mod (end + a) g.period step ∙ ap (λ x. (x + g.period % step) % step) (sym now.leaves) in
              sym same ∙ ap (λ x. x % step) swap;
          none = λ b h. extend (λ j. short_at step g stock tick wants j ≡ false) i now.none this b (omega arith);
        }

pub row_none : (g : Side) (stock step tick wants end rest i : ℕ) → Rowed g stock step tick wants end rest i → length g.cycle ≤ i
    → false ≡ some_below (short_at step g stock tick wants) (length g.cycle)
row_none g stock step tick wants end rest i now h =
    sym (no_some (short_at step g stock tick wants) (length g.cycle) (λ b l. now.none b (omega arith)))

-- ---- all rows

-- the first i places of the taker's cycle are tested; `tick` is the next one's release
pub record Ranked (t g : Side) (stock step tick i : ℕ) : Type 0 where
  pub ticks : tick ≡ side.release t (length t.prefix + i)
  pub none : (a : ℕ) → a < i → some_below (short_case step t g stock a) (length g.cycle) ≡ false

module _ (t g : Side) (stock step : ℕ) (tick i : ℕ) (now : Ranked t g stock step tick i) where
  module _ (limited : Limited t) (few : (j : ℕ) → rate t j ≤ 65535)
      (less : i < length t.cycle) (wants : ℕ) (is : wants ≡ total t (length t.prefix + 1 + i)) where
    place_few : length t.prefix + i ≤ 47
    place_few = omega (arith, limited.prefix_most, limited.cycle_most)

    pub tick_small : tick ≤ 48_000_000
    tick_small =
        omega (
          arith,
          now.ticks,
          mul-le-mul {n₁ = length t.prefix + i} {m₁ = t.period} {n₂ = 47} {m₂ = 1_000_000} place_few limited.period_most,
          limited.offset_most,
        )

    pub wants_small : wants ≤ most_sum
    wants_small = omega (arith, is, place_few, total_bound t 65535 few (length t.prefix + 1 + i))

  module _ (wants : ℕ) (is : wants ≡ total t (length t.prefix + 1 + i)) where
    -- the row that is tested is that of the place
    row_is :
        some_below (short_at step g stock tick wants) (length g.cycle)
        ≡ some_below (short_case step t g stock i) (length g.cycle)
    row_is =
        let next : length t.prefix + 1 + i ≡ suc (length t.prefix + i) = omega arith in
        let y : wants ≡ total t (suc (length t.prefix + i)) = is ∙ ap (total t) next in
        rw (now.ticks, y)

    pub rank_found : i < length t.cycle → (r : Bool) → r ≡ some_below (short_at step g stock tick wants) (length g.cycle) → r ≡ true
        → true ≡ some_below (λ a. some_below (short_case step t g stock a) (length g.cycle)) (length t.cycle)
    rank_found less r e f =
        sym
        (yes_some (λ a. some_below (short_case step t g stock a) (length g.cycle)) (length t.cycle) i less
        (sym row_is ∙ sym e ∙ f))

    pub rank_more : (r : Bool) → r ≡ some_below (short_at step g stock tick wants) (length g.cycle) → r ≡ false
        → Ranked t g stock step (tick + t.period) (i + 1)
    rank_more r e f =
        record {
          ticks = omega (arith, now.ticks);
          none = λ a h.
              extend (λ j. some_below (short_case step t g stock j) (length g.cycle) ≡ false) i now.none (sym row_is ∙ sym e ∙ f) a (omega arith);
        }

  pub rank_none : length t.cycle ≤ i
      → false ≡ some_below (λ a. some_below (short_case step t g stock a) (length g.cycle)) (length t.cycle)
  rank_none h =
      sym (no_some (λ a. some_below (short_case step t g stock a) (length g.cycle)) (length t.cycle) (λ a l. now.none a (omega arith)))
