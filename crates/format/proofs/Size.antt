-- How long a formed graph's file, and so any file that the reader takes, can be; and that such a file is made of bytes. Assumes nothing.
use mathlib.Core.Path.{◌≡◌, refl, ap, sym, subst, ◌∙◌}
use mathlib.Core.List.{List, [], ◌∷◌, ◌++◌, map}
use Prim.Native.Nat.{ℕ, suc, ◌+◌, ◌*◌, ◌≤◌, ◌<◌}
use native.Mathlib.Omega.{arith}
use lib.ListN.{length, length-append}
use Rattle.numbers.specs.Lists.{All}
use Rattle.graph.specs.Model.{Link, Graph}
use Rattle.format.specs.Record.{Kind, a_task, a_channel, a_rate, a_relation, size, Record, task, rate, relation, kind, body, encode, encodes}
use Rattle.format.specs.Reader.{InRange, Bytes, Reads}
use Rattle.format.specs.Writer.{head, rates_of, rates_from, records, bytes, FewRates, Counts, Formed}
use Rattle.numbers.proofs.Lists.{all_left, all_right, all_append}
use Rattle.format.proofs.Records.{body_length, encode_bytes, encodes_append}
use Rattle.format.proofs.Canon.{reads_bytes}
use Rattle.format.proofs.Formed.{reads_formed}

length_encodes : (qs rs : List Record) → length (encodes (qs ++ rs)) ≡ length (encodes qs) + length (encodes rs)
length_encodes qs rs = ap length (encodes_append qs rs) ∙ length-append (encodes qs) (encodes rs)

module _ (g : Graph) where
  sort_length : {A : Type 0} (f : A → Record) (k : Kind) → ((x : A) → kind (f x) ≡ k) → (xs : List A)
      → All (InRange g) (map f xs) → length (encodes (map f xs)) ≡ length xs * suc (size k)
  unfolding encodes
  sort_length f k h [] p = omega arith
  sort_length f k h (x ∷ xs) p =
      omega (
        arith,
        length-append (body (f x)) (encodes (map f xs)),
        body_length g (f x) p.0,
        ap size (h x),
        sort_length f k h xs p.1,
      )

  channel_length : (i : ℕ) (c : Link) → FewRates c → All (InRange g) (rates_of i c)
      → length (encodes (rates_of i c)) ≤ 576
  channel_length i c few f =
      let a = map (rate i 0 0) c.production.prefix in
      let b = map (rate i 0 1) c.production.cycle in
      let d = map (rate i 1 0) c.consumption.prefix in
      let e = map (rate i 1 1) c.consumption.cycle in
      let f₁ = all_right (InRange g) a _ f in
      let f₂ = all_right (InRange g) b _ f₁ in
      omega (
        arith,
        few.production.prefix,
        few.production.cycle,
        few.consumption.prefix,
        few.consumption.cycle,
        length_encodes a (b ++ (d ++ e)),
        length_encodes b (d ++ e),
        length_encodes d e,
        sort_length (rate i 0 0) a_rate (λ x. refl) c.production.prefix (all_left (InRange g) a _ f),
        sort_length (rate i 0 1) a_rate (λ x. refl) c.production.cycle (all_left (InRange g) b _ f₁),
        sort_length (rate i 1 0) a_rate (λ x. refl) c.consumption.prefix (all_left (InRange g) d _ f₂),
        sort_length (rate i 1 1) a_rate (λ x. refl) c.consumption.cycle (all_right (InRange g) d _ f₂),
      )

  rates_length : (cs : List Link) (i : ℕ) → All FewRates cs → All (InRange g) (rates_from i cs)
      → length (encodes (rates_from i cs)) ≤ length cs * 576
  unfolding rates_from encodes
  rates_length [] i few f = omega arith
  rates_length (c ∷ cs) i few f =
      omega (
        arith,
        length_encodes (rates_of i c) (rates_from (suc i) cs),
        channel_length i c few.0 (all_left (InRange g) (rates_of i c) _ f),
        rates_length cs (suc i) few.1 (all_right (InRange g) (rates_of i c) _ f),
      )

  pub bytes_length : Formed g → length (bytes g) ≤ 39104
  unfolding bytes records
  bytes_length F =
      let n : Counts g = F.counts in
      let a = map task g.tasks in
      let b = map head g.channels in
      let d = rates_from 0 g.channels in
      let e = map relation g.relations in
      let f₁ = all_right (InRange g) a _ F.in_range in
      let f₂ = all_right (InRange g) b _ f₁ in
      omega (
        arith,
        n.tasks,
        n.channels,
        n.relations,
        length_encodes a (b ++ (d ++ e)),
        length_encodes b (d ++ e),
        length_encodes d e,
        sort_length task a_task (λ x. refl) g.tasks (all_left (InRange g) a _ F.in_range),
        sort_length head a_channel (λ x. refl) g.channels (all_left (InRange g) b _ f₁),
        rates_length g.channels 0 n.rates (all_left (InRange g) d _ f₂),
        sort_length relation a_relation (λ x. refl) g.relations (all_right (InRange g) d _ f₂),
      )

-- no file that the reader takes is longer
pub taken_length : (file : List ℕ) (g : Graph) → Reads file g → length file ≤ 39104
taken_length file g m = rw (sym (reads_bytes file g m)) (bytes_length g (reads_formed file g m))

encodes_bytes : (g : Graph) (rs : List Record) → All (InRange g) rs → Bytes (encodes rs)
unfolding encodes
encodes_bytes g [] h = tt
encodes_bytes g (r ∷ rs) h = all_append (λ b. b < 256) (encode r) (encodes rs) (encode_bytes g r h.0) (encodes_bytes g rs h.1)

-- a file that the reader takes is a list of bytes
pub taken_bytes : (file : List ℕ) (g : Graph) → Reads file g → Bytes file
unfolding bytes
taken_bytes file g m = subst Bytes (reads_bytes file g m) (encodes_bytes g (records g) (reads_formed file g m).in_range)
