-- The cycles of channels in memory, one after the other. Assumes nothing.
use mathlib.Core.Path.{◌≡◌, sym, ap, ◌∙◌}
use mathlib.Core.List.{List, map}
use Prim.Native.Nat.{ℕ, ◌+◌, ◌*◌, ◌≤◌, ◌<◌}
use native.Mathlib.Nat.{add-zero}
use native.Mathlib.Omega.{arith}
use lib.ListN.{length, get_or, get_or-eq_default, length-map}
use Rattle.std.proofs.Common.{below_more}
use Rattle.std.proofs.lemmas.List.{get_or-map}
use Rattle.std.specs.Prelude.{None}
use Rattle.numbers.specs.Lists.{First}
use Rattle.numbers.proofs.Sums.{cases}
use Rattle.graph.specs.Model.{Graph, bare}
use Rattle.graph.specs.Memory.{MemoryLink, laid_link}
use Rattle.format.specs.Reader.{cycles, Hollow}
use Rattle.format.proofs.Steps.{cycle_place, cycles_length}
use Rattle.reader.specs.Reading.{FirstHollow}

module _ (cs : List MemoryLink) (g : Graph) (e : cs ≡ map laid_link g.channels) where
  same_length : length cs ≡ length g.channels
  same_length = ap length e ∙ length-map g.channels laid_link

  -- behind the last channel there is no cycle
  pub all_full : ((j : ℕ) → j < 2 * length cs → ¬ Hollow g j) → FirstHollow g None
  all_full none j =
      cases (2 * length cs) j
      (λ l h.
      let past : length (cycles g.channels) ≤ j = omega (arith, cycles_length g.channels, same_length) in
      let one : get_or (cycles g.channels) j 1 ≡ 1 = get_or-eq_default (cycles g.channels) 1 past in
      omega arith)
      (λ l. none j l)

  -- the cycles of channel i, behind those of the channels before it
  module _ (i : ℕ) (inside : i < length cs) (d : MemoryLink) where
    abbrev there : MemoryLink
    there = get_or cs i d

    within : i < length g.channels
    within = omega (arith, same_length)

    laid_there : there ≡ laid_link (get_or g.channels i (bare 0 0 0 0))
    laid_there = ap (λ (l : List MemoryLink). get_or l i d) e ∙ get_or-map laid_link g.channels i (bare 0 0 0 0) d within

    first_cycle : there.production.clen ≡ get_or (cycles g.channels) (2 * i) 1
    first_cycle =
        ap (λ (c : MemoryLink). c.production.clen) laid_there
        ∙ sym (cycle_place g.channels i 0 within (omega arith))
        ∙ ap (λ n. get_or (cycles g.channels) n 1) (add-zero (2 * i))

    second_cycle : there.consumption.clen ≡ get_or (cycles g.channels) (2 * i + 1) 1
    second_cycle =
        ap (λ (c : MemoryLink). c.consumption.clen) laid_there
        ∙ sym (cycle_place g.channels i 1 within (omega arith))

    module _ (before : (j : ℕ) → j < 2 * i → ¬ Hollow g j) where
      pub hollow_first : there.production.clen ≡ 0 → First (Hollow g) (2 * i)
      hollow_first z = (sym first_cycle ∙ z, before)

      module _ (full : ¬ (there.production.clen ≡ 0)) where
        one_more : (j : ℕ) → j < 2 * i + 1 → ¬ Hollow g j
        one_more = below_more (λ j. ¬ Hollow g j) (2 * i) before (λ z. full (first_cycle ∙ z))

        pub hollow_second : there.consumption.clen ≡ 0 → First (Hollow g) (2 * i + 1)
        hollow_second z = (sym second_cycle ∙ z, one_more)

        pub two_more : ¬ (there.consumption.clen ≡ 0) → (j : ℕ) → j < 2 * (i + 1) → ¬ Hollow g j
        two_more also j l = below_more (λ k. ¬ Hollow g k) (2 * i + 1) one_more (λ z. also (second_cycle ∙ z)) j (omega arith)
