-- The tests of one record, from what code has at hand. Assumes nothing.
use Rattle.std.specs.Prelude.{Result, IsTrue, ◌↔◌, nat_lt, Some}
use mathlib.Core.Path.{◌≡◌, ap, subst}
use mathlib.Core.Logic.{inr}
use mathlib.Core.List.{List}
use Prim.Native.Nat.{ℕ, suc, ◌+◌, ◌≤◌, ◌<◌}
use native.Mathlib.Numerals.{add-one}
use native.Mathlib.Omega.{arith}
use lib.ListN.{length, get_or, take, drop}
use Rattle.std.proofs.lemmas.List.{length-take}
use Rattle.std.proofs.lemmas.Bool.Decides.{nat_tests}
use Rattle.graph.specs.Model.{Graph}
use Rattle.format.specs.Record.{Kind, kind_of, size, decode}
use Rattle.format.specs.Reader.{State, ranges, InRange}
use Rattle.record.specs.declared.Test.{Test}
use Rattle.record.specs.declared.Entry.{Entry}
use Rattle.record.specs.declared.Record.{Record as Read}
use Rattle.record.specs.Fields.{entered}
use Rattle.record.specs.Fronts.{Judges, Tells}

-- one test of two facts that go together
pub through : {A P Q : Type 0} → (A ↔ P) → (P ↔ Q) → A ↔ Q
through d e = (λ a. e.0 (d.0 a), λ q. d.1 (e.1 q))

-- the ranges of a rate: its channel's number is a byte, and its tokens are two
pub rate_ranges : (g : Graph) (e : Entry) (n : ℕ) → length g.channels ≡ n → e.channel < 256 → e.tokens ≤ 65535
    → ((e.channel < n) × (e.side ≤ 1) × (e.part ≤ 1)) ↔ InRange g (entered e)
unfolding ranges
rate_ranges g e n h a b = (λ k. omega arith, λ k. omega arith)

-- room for one more, by the count
pub below : {m : ℕ} (n k : ℕ) → m ≡ n → IsTrue (nat_lt n k) ↔ (m < k)
below n k e = grind (arith, nat_tests)

-- what the tests say of the record that a body holds, they say of the place of the file that the body stands at
pub tells :
    (file : List ℕ) (at : ℕ) (k : Kind) → kind_of (get_or file at 0) ≡ Some k
    → (len : ℕ) → len ≡ size k → (bytes : List ℕ) → bytes ≡ take len (drop (at + 1) file) → len ≤ length bytes
    → (s : State) (f : Result Read Test) → Judges s (decode k bytes) f → Tells file s at f
tells file at k known len l bytes b long s f j =
    let q : bytes ≡ take (size k) (drop (suc at) file) = cc (b, l, add-one at) in
    let n : length bytes ≤ length (drop (suc at) file) = omega (arith, ap length b, length-take len (drop (at + 1) file), ap (λ n. length (drop n file)) (add-one at)) in
    rw known (inr (omega arith, subst (λ r. Judges s (decode k r) f) q j))
