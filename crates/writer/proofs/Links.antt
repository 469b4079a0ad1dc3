-- The records of rates, channel by channel: how many there are, their bytes, and those that are left from one channel on. Assumes nothing.
use mathlib.Core.Path.{◌≡◌, refl, ap, ap₂, sym, ◌∙◌}
use mathlib.Core.List.{List, [], ◌∷◌, ◌++◌, map, append_assoc}
use Prim.Native.Nat.{ℕ, suc, ◌+◌, ◌*◌, ◌≤◌, ◌<◌}
use native.Mathlib.Numerals.{add-one}
use native.Mathlib.Omega.{arith}
use lib.ListN.{length, get_or, take, drop, drop_of_length-le, length-append, length-map}
use lib.Seq.{drop-cons, length-take-le}
use Rattle.output.proofs.Parts.{Then}
use Rattle.numbers.specs.Lists.{All}
use Rattle.numbers.proofs.Lists.{all_at}
use Rattle.graph.specs.Model.{Rates, Link}
use Rattle.graph.specs.Memory.{MemoryRates, MemoryLink, view_rates, view_link}
use Rattle.format.specs.Record.{Record, encodes, rate, be, join}
use Rattle.format.specs.Writer.{rates_of, rates_from}
use Rattle.format.proofs.Records.{encodes_append}
use Rattle.writer.specs.Parts.{side_records, SideFits, ChannelFits}
use Rattle.writer.proofs.Rows.{row_bytes}

-- ---- one channel

abbrev pub count : MemoryRates → ℕ
count s = s.plen + s.clen

side_count : (i side : ℕ) (s : MemoryRates) → SideFits s → length (side_records i side (view_rates s)) ≡ count s
side_count i side s f =
    let pre : List ℕ = take s.plen s.prefix in
    let cyc : List ℕ = take s.clen s.cycle in
    omega (
      arith,
      length-append (map (rate i side 0) pre) (map (rate i side 1) cyc),
      length-map pre (rate i side 0),
      length-map cyc (rate i side 1),
      length-take-le s.plen s.prefix f.prefix,
      length-take-le s.clen s.cycle f.cycle,
    )

-- prefix and then cycle
pub side_then : (i side : ℕ) (r : Rates)
    → Then (encodes (side_records i side r)) (encodes (map (rate i side 0) r.prefix)) (encodes (map (rate i side 1) r.cycle))
side_then i side r = record { parts = encodes_append (map (rate i side 0) r.prefix) (map (rate i side 1) r.cycle) }

-- production and then consumption
link_sides : (i : ℕ) (c : Link) → rates_of i c ≡ side_records i 0 c.production ++ side_records i 1 c.consumption
link_sides i c = sym (append_assoc (map (rate i 0 0) c.production.prefix) (map (rate i 0 1) c.production.cycle) (side_records i 1 c.consumption))

pub link_then : (i : ℕ) (c : Link)
    → Then (encodes (rates_of i c)) (encodes (side_records i 0 c.production)) (encodes (side_records i 1 c.consumption))
link_then i c =
    record { parts = ap encodes (link_sides i c) ∙ encodes_append (side_records i 0 c.production) (side_records i 1 c.consumption) }

link_count : (i : ℕ) (c : MemoryLink) → ChannelFits c → length (rates_of i (view_link c)) ≡ count c.production + count c.consumption
link_count i c f =
    ap length (link_sides i (view_link c))
    ∙ length-append (side_records i 0 (view_rates c.production)) (side_records i 1 (view_rates c.consumption))
    ∙ ap₂ ◌+◌ (side_count i 0 c.production f.production) (side_count i 1 c.consumption f.consumption)

-- ---- channels in a row, from channel i on

abbrev pub links_from : List MemoryLink → ℕ → List Record
links_from cs i = rates_from i (map view_link (drop i cs))

module _ (cs : List MemoryLink) (i : ℕ) where
  pub links_more : (d : MemoryLink) → i < length cs → links_from cs i ≡ rates_of i (view_link (get_or cs i d)) ++ links_from cs (i + 1)
  unfolding rates_from
  links_more d h =
      ap (λ l. rates_from i (map view_link l)) (drop-cons cs i d h)
      ∙ ap (λ m. rates_of i (view_link (get_or cs i d)) ++ links_from cs m) (sym (add-one i))

  pub links_then : (d : MemoryLink) → i < length cs
      → Then (encodes (links_from cs i)) (encodes (rates_of i (view_link (get_or cs i d)))) (encodes (links_from cs (i + 1)))
  links_then d h =
      record { parts = ap encodes (links_more d h) ∙ encodes_append (rates_of i (view_link (get_or cs i d))) (links_from cs (i + 1)) }

  pub links_none : length cs ≤ i → links_from cs i ≡ []
  unfolding rates_from
  links_none h = ap (λ l. rates_from i (map view_link l)) (drop_of_length-le cs h)

-- no channel has more than two full lists on each side
pub links_few : (i : ℕ) (cs : List MemoryLink) → All ChannelFits cs → length (rates_from i (map view_link cs)) ≤ length cs * 96
unfolding rates_from
links_few i [] h = omega arith
links_few i (c ∷ cs) (f, h) =
    omega (
      arith,
      length-append (rates_of i (view_link c)) (rates_from (suc i) (map view_link cs)),
      link_count i c f,
      f.production.few,
      f.production.short,
      f.consumption.few,
      f.consumption.short,
      links_few (suc i) cs h,
    )

-- what an array is read as past its end
abbrev no_side : MemoryRates
no_side = record { prefix = []; plen = 0; cycle = []; clen = 0 }

abbrev no_link : MemoryLink
no_link = record { producer = 0; consumer = 0; initial = 0; size = 0; production = no_side; consumption = no_side }

-- The entries of channel i, and of those behind it.
pub links_count : (cs : List MemoryLink) → All ChannelFits cs → (i : ℕ) → i < length cs
    → length (links_from cs i) ≡ count (get_or cs i no_link).production + count (get_or cs i no_link).consumption + length (links_from cs (i + 1))
links_count cs h i l =
    let c : MemoryLink = get_or cs i no_link in
    omega (
      arith,
      ap length (links_more cs i no_link l),
      length-append (rates_of i (view_link c)) (links_from cs (i + 1)),
      link_count i c (all_at ChannelFits cs no_link h i l),
    )

-- ---- and their bytes, 6 for each

abbrev Six : List Record → Type 0
Six rs = length (encodes rs) ≡ length rs * 6

six_both : (qs rs : List Record) → Six qs → Six rs → Six (qs ++ rs)
six_both qs rs e f = omega (arith, ap length (encodes_append qs rs), length-append (encodes qs) (encodes rs), length-append qs rs)

six : (i side part : ℕ) (xs : List ℕ) → Six (map (rate i side part) xs)
unfolding be join
six i side part xs = omega (arith, row_bytes (rate i side part) 6 (λ x. refl) xs, length-map xs (rate i side part))

pub links_bytes : (i : ℕ) (cs : List Link) → length (encodes (rates_from i cs)) ≡ length (rates_from i cs) * 6
unfolding rates_from encodes
links_bytes i [] = refl
links_bytes i (c ∷ cs) =
    let p = c.production in
    let q = c.consumption in
    six_both (rates_of i c) (rates_from (suc i) cs)
    (six_both (map (rate i 0 0) p.prefix) _ (six i 0 0 p.prefix)
    (six_both (map (rate i 0 1) p.cycle) _ (six i 0 1 p.cycle)
    (six_both (map (rate i 1 0) q.prefix) (map (rate i 1 1) q.cycle) (six i 1 0 q.prefix) (six i 1 1 q.cycle))))
    (links_bytes (suc i) cs)
