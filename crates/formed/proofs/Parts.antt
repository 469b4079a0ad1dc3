-- Lists, sides and arrays that are formed, by their parts. Assumes nothing.
use Rattle.std.proofs.Common.{◌≡◌, ◌↔◌, IsTrue, Bool, Fits, w16, refl, ap, sym, ◌∙◌, List, [], ℕ, ◌+◌, ◌-◌, ◌≤◌, ◌<◌, All, length, get_or, take, drop, arith, length-drop, length-take-le}
use Rattle.std.proofs.lemmas.List.{get_or_default, get_or-drop, get_or-take}
use Rattle.graph.specs.Memory.{MemoryLink, MemoryRates, pad}
use Rattle.graph.proofs.Laid.{pad_of, of_pad}
use Rattle.format.specs.Ranges.{Tokens}
use Rattle.numbers.proofs.Lists.{all_at, at_all}
use Rattle.formed.specs.Formed.{SideFormed, Places}

-- ---- zero behind the first places

-- a list of n places, its first k and zeros
module _ {A : Type 0} (n : ℕ) (z : A) (xs : List A) (k : ℕ) (size : length xs ≡ n) where
  pub zeros_pad : k ≤ n → All (λ x. x ≡ z) (drop k xs) → xs ≡ pad n z (take k xs)
  zeros_pad h a =
      pad_of n z xs k size h
      (λ i b c.
      let e : k + (i - k) ≡ i = omega arith in
      ap (λ j. get_or xs j z) (sym e) ∙ sym (get_or-drop k xs (i - k) z) ∙ a (i - k) z (omega (arith, length-drop k xs)))

  pub pad_zeros : xs ≡ pad n z (take k xs) → All (λ x. x ≡ z) (drop k xs)
  pad_zeros e i d h =
      get_or-drop k xs i d
      ∙ get_or_default xs (k + i) d z (omega (arith, length-drop k xs))
      ∙ of_pad n z xs k e (k + i) (omega arith) (omega (arith, length-drop k xs))

-- ---- a side

pub record SideCounts (s : MemoryRates) : Type 0 where
  pub prefix : s.plen ≤ 16
  pub some_entry : 1 ≤ s.clen
  pub cycle : s.clen ≤ 32

pub side_counts : (s : MemoryRates) → SideFormed s → SideCounts s
side_counts s f =
    let p : s.plen ≡ length (take s.plen s.prefix) = ap (λ (x : MemoryRates). x.plen) f.padded in
    let q : s.clen ≡ length (take s.clen s.cycle) = ap (λ (x : MemoryRates). x.clen) f.padded in
    record { prefix = omega (arith, f.ranged.prefix); some_entry = omega (arith, f.ranged.some_entry); cycle = omega (arith, f.ranged.cycle) }

-- what the test of a side asks for
abbrev pub SideParts : MemoryRates → Type 0
SideParts s =
    (s.plen ≤ 16) × (1 ≤ s.clen) × (s.clen ≤ 32) × All (λ x. x ≡ 0) (drop s.plen s.prefix) × All (λ x. x ≡ 0) (drop s.clen s.cycle)

-- a side is formed where its counts are in range and zeros stand behind them, and just there; the entries are of two bytes
module _ (s : MemoryRates) (p : length s.prefix ≡ 16) (q : length s.cycle ≡ 32)
    (f : (i : ℕ) → i < 16 → Fits w16 (get_or s.prefix i 0)) (g : (i : ℕ) → i < 32 → Fits w16 (get_or s.cycle i 0)) where
  side_yes : SideParts s → SideFormed s
  side_yes t =
      let l : length (take s.plen s.prefix) ≡ s.plen = length-take-le s.plen s.prefix (omega arith) in
      let m : length (take s.clen s.cycle) ≡ s.clen = length-take-le s.clen s.cycle (omega arith) in
      let a = zeros_pad 16 0 s.prefix s.plen p t.0 t.3 in
      let b = zeros_pad 32 0 s.cycle s.clen q t.2 t.4 in
      record {
        padded = λ i. record { prefix = a i; plen = sym l i; cycle = b i; clen = sym m i };
        ranged = record {
          prefix = omega arith;
          some_entry = omega arith;
          cycle = omega arith;
          prefix_tokens =
              at_all Tokens (take s.plen s.prefix) 0 (λ i h. rw (get_or-take s.plen s.prefix i 0 (omega arith)) (omega (arith, f i (omega arith))));
          cycle_tokens =
              at_all Tokens (take s.clen s.cycle) 0 (λ i h. rw (get_or-take s.clen s.cycle i 0 (omega arith)) (omega (arith, g i (omega arith))));
        };
      }

  side_no : SideFormed s → SideParts s
  side_no f =
      let n = side_counts s f in (
        n.prefix,
        n.some_entry,
        n.cycle,
        pad_zeros 16 0 s.prefix s.plen p (ap (λ (x : MemoryRates). x.prefix) f.padded),
        pad_zeros 32 0 s.cycle s.clen q (ap (λ (x : MemoryRates). x.cycle) f.padded),
      )

  pub side_told : {b : Bool} → IsTrue b ↔ SideParts s → IsTrue b ↔ SideFormed s
  side_told t = (λ h. side_yes (t.0 h), λ f. t.1 (side_no f))

-- what is read past the end of a list of channels
abbrev pub no_link : MemoryLink
no_link =
    let none : MemoryRates = record { prefix = []; plen = 0; cycle = []; clen = 0 } in
    record { producer = 0; consumer = 0; initial = 0; size = 0; production = none; consumption = none }

-- ---- an array: its first n places, and the rest

module _ {A : Type 0} (P : A → Type 0) (z : A) (n : ℕ) (xs : List A) (few : n ≤ length xs) where
  pub places_yes : All P (take n xs) → All (λ x. x ≡ z) (drop n xs) → Places P (length xs) z n xs
  places_yes a b = record { padded = zeros_pad (length xs) z xs n refl few b; used = at_all P (take n xs) z (λ i h. a i z h) }

  pub places_no : Places P (length xs) z n xs → All P (take n xs) × All (λ x. x ≡ z) (drop n xs)
  places_no p = (λ i d h. all_at P (take n xs) d p.used i h, pad_zeros (length xs) z xs n refl p.padded)

  pub places_told : {b : Bool} → IsTrue b ↔ (All P (take n xs) × All (λ x. x ≡ z) (drop n xs)) → IsTrue b ↔ Places P (length xs) z n xs
  places_told t = (λ h. let (a, b) = t.0 h in places_yes a b, λ p. t.1 (places_no p))
