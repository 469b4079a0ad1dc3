-- Lists laid into memory and read back. Assumes nothing.
use mathlib.Core.Path.{◌≡◌, refl, ap, ap₂, sym, ◌∙◌}
use mathlib.Core.List.{List, [], ◌∷◌, ◌++◌, map, append_assoc}
use Prim.Native.Nat.{ℕ, suc, ◌+◌, ◌-◌, ◌≤◌, ◌<◌}
use native.Mathlib.Nat.{lt_of_not-le}
use native.Mathlib.Decide.{dec_le}
use native.Mathlib.Omega.{arith}
use lib.ListN.{length, get_or, take, set, replicate, length-append, length-take, length-map, length-replicate, get_or-replicate, get_or-append}
use lib.Seq.{length-take-le, get_or-take, ext_get_or, take_at, get_or-append-add, set-append_seam}
use Rattle.graph.specs.Model.{Rates, Link, Graph, no_task, no_relation}
use Rattle.graph.specs.Memory.{view_rates, view_link, view, pad, laid_rates, laid_link, zero_link, laid}

-- ---- padding

module _ {A : Type 0} (n : ℕ) (z : A) (xs : List A) where
  pub pad_length : length xs ≤ n → length (pad n z xs) ≡ n
  unfolding pad
  pad_length h = omega (arith, length-append xs (replicate (n - length xs) z), length-replicate (n - length xs) z)

  pub pad_take : take (length xs) (pad n z xs) ≡ xs
  unfolding pad
  pad_take = take_at xs (replicate (n - length xs) z) (length xs) refl

  pub pad_at : (i : ℕ) (d : A) → i < length xs → get_or (pad n z xs) i d ≡ get_or xs i d
  unfolding pad
  pad_at i d h = get_or-append xs (replicate (n - length xs) z) d i h

  -- beyond the list stands zero
  pub pad_past : (i : ℕ) (d : A) → length xs ≤ i → i < n → get_or (pad n z xs) i d ≡ z
  unfolding pad
  pad_past i d h l =
      let e : length xs + (i - length xs) ≡ i = omega arith in
      ap (λ j. get_or (xs ++ replicate (n - length xs) z) j d) (sym e)
      ∙ get_or-append-add xs (replicate (n - length xs) z) (i - length xs) d
      ∙ get_or-replicate (n - length xs) (i - length xs) z d (omega arith)

  -- a store at the end of the list makes it longer by one
  pub pad_push : (x : A) → length xs < n → set (pad n z xs) (length xs) x ≡ pad n z (xs ++ (x ∷ []))
  unfolding pad
  pad_push x h =
      let k : n - length xs ≡ suc (n - length (xs ++ (x ∷ []))) = omega (arith, length-append xs (x ∷ [])) in
      ap (λ m. set (xs ++ replicate m z) (length xs) x) k
      ∙ set-append_seam xs z (replicate (n - length (xs ++ (x ∷ []))) z) x
      ∙ sym (append_assoc xs (x ∷ []) (replicate (n - length (xs ++ (x ∷ []))) z))

-- a list of n places that holds zero from place k on is its first k places, padded; and back
module _ {A : Type 0} (n : ℕ) (z : A) (xs : List A) (k : ℕ) where
  pub pad_of : length xs ≡ n → k ≤ n → ((i : ℕ) → k ≤ i → i < n → get_or xs i z ≡ z) → xs ≡ pad n z (take k xs)
  pad_of e h f =
      let l : length (take k xs) ≡ k = length-take-le k xs (omega arith) in
      let at : (i : ℕ) → i < length xs → get_or xs i z ≡ get_or (pad n z (take k xs)) i z = λ i b. elim (dec_le k i) [
        | yes a ↦ f i a (omega arith) ∙ sym (pad_past n z (take k xs) i z (omega arith) (omega arith))
        | no a ↦ sym (pad_at n z (take k xs) i z (omega arith) ∙ get_or-take k xs i z (lt_of_not-le a))
      ] in
      ext_get_or z xs (pad n z (take k xs)) (e ∙ sym (pad_length n z (take k xs) (omega arith))) at

  pub of_pad : xs ≡ pad n z (take k xs) → (i : ℕ) → k ≤ i → i < n → get_or xs i z ≡ z
  of_pad e i h l = ap (λ ys. get_or ys i z) e ∙ pad_past n z (take k xs) i z (omega (arith, length-take k xs)) l

-- ---- what is laid into memory is read back

pub view_laid_rates : (r : Rates) → view_rates (laid_rates r) ≡ r
view_laid_rates r = λ i. record { prefix = pad_take 16 0 r.prefix i; cycle = pad_take 32 0 r.cycle i }

pub view_laid_link : (c : Link) → view_link (laid_link c) ≡ c
view_laid_link c = λ i. record {
  producer = c.producer;
  consumer = c.consumer;
  initial = c.initial;
  size = c.size;
  production = view_laid_rates c.production i;
  consumption = view_laid_rates c.consumption i;
}

view_laid_links : (cs : List Link) → map view_link (map laid_link cs) ≡ cs
view_laid_links [] = refl
view_laid_links (c ∷ cs) = ap₂ (λ (d : Link) (ds : List Link). d ∷ ds) (view_laid_link c) (view_laid_links cs)

pub view_laid : (g : Graph) → view (laid g) ≡ g
unfolding view laid
view_laid g =
    let links : map view_link (take (length g.channels) (pad 64 zero_link (map laid_link g.channels))) ≡ g.channels =
    ap (λ n. map view_link (take n (pad 64 zero_link (map laid_link g.channels)))) (sym (length-map g.channels laid_link))
    ∙ ap (map view_link) (pad_take 64 zero_link (map laid_link g.channels))
    ∙ view_laid_links g.channels in
    λ i. record {
      tasks = pad_take 32 no_task g.tasks i;
      channels = links i;
      relations = pad_take 64 no_relation g.relations i;
    }
