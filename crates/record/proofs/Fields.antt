-- The fields of a record's body, as code reads them. Assumes nothing.
use mathlib.Core.Path.{◌≡◌, ap, ◌∙◌}
use mathlib.Core.Bool.{cond}
use mathlib.Core.List.{List, [], ◌∷◌}
use Prim.Native.Nat.{ℕ, suc, ◌+◌, ◌-◌, ◌≤◌}
use native.Mathlib.Nat.{add-zero}
use native.Mathlib.Omega.{arith}
use lib.ListN.{length, get_or, take, drop}
use Rattle.std.proofs.lemmas.List.{length-take, length-drop}
use Rattle.graph.specs.declared.Task.{Task}
use Rattle.graph.specs.declared.Relation.{Relation}
use lib.Seq.{drop-drop}
use lib.Dec.{ltb}
use lib.IntN.{pos, negsuc}
use mir.Syntax.{w32}
use Rattle.std.specs.Int.{w16, from_be_bytes}
use mir.Val.{to_z}
use Rattle.format.specs.Record.{number, unwrap, a_task, a_channel, a_rate, a_relation, split, task, channel, rate, relation, decode}
use Rattle.format.proofs.Steps.{number_more}

module _ (bs : List ℕ) (at : ℕ) where
  pub number_one : at + 1 ≤ length bs → get_or bs at 0 ≡ number (take 1 (drop at bs))
  unfolding number
  number_one h = omega (arith, number_more bs at 0 (omega arith), ap (λ n. get_or bs n 0) (add-zero at))

two_bytes : (q : List ℕ) → length q ≡ 2 → from_be_bytes w16 q ≡ number q
unfolding number
two_bytes [] h = absurd (omega arith)
two_bytes (a ∷ []) h = absurd (omega arith)
two_bytes (a ∷ b ∷ []) h = omega arith
two_bytes (a ∷ b ∷ c ∷ q) h = absurd (omega arith)

four_bytes : (q : List ℕ) → length q ≡ 4 → from_be_bytes w32 q ≡ number q
unfolding number
four_bytes [] h = absurd (omega arith)
four_bytes (a ∷ []) h = absurd (omega arith)
four_bytes (a ∷ b ∷ []) h = absurd (omega arith)
four_bytes (a ∷ b ∷ c ∷ []) h = absurd (omega arith)
four_bytes (a ∷ b ∷ c ∷ d ∷ []) h = omega arith
four_bytes (a ∷ b ∷ c ∷ d ∷ e ∷ q) h = absurd (omega arith)

-- the number that std makes of the bytes at a place
module _ (bs : List ℕ) (at : ℕ) {n : ℕ} {q : List ℕ} where
  pub two : n ≡ from_be_bytes w16 q → q ≡ take 2 (drop at bs) → at + 2 ≤ length bs → n ≡ number (take 2 (drop at bs))
  two e is h = e ∙ two_bytes q (omega (arith, ap length is, length-take 2 (drop at bs), length-drop at bs)) ∙ ap number is

  pub four : n ≡ from_be_bytes w32 q → q ≡ take 4 (drop at bs) → at + 4 ≤ length bs → n ≡ number (take 4 (drop at bs))
  four e is h = e ∙ four_bytes q (omega (arith, ap length is, length-take 4 (drop at bs), length-drop at bs)) ∙ ap number is

-- the records of each kind, by where their fields stand and how wide they are
module _ (bs : List ℕ) where
  -- the number of w bytes at a place
  abbrev pub at : ℕ → ℕ → ℕ
  at w i = number (take w (drop i bs))

  pub a_task_is : (t : Task) → t.period ≡ at 4 0 → t.offset ≡ at 4 4 → t.deadline ≡ at 4 8 → t.worst ≡ at 4 12 → t.priority ≡ at 1 16
      → task t ≡ decode a_task bs
  unfolding split
  a_task_is t p o d w r = rw (p, o, d, w, r) (simp drop-drop)

  pub a_channel_is : (p c i s : ℕ) → p ≡ at 1 0 → c ≡ at 1 1 → i ≡ at 4 2 → s ≡ at 4 6 → channel p c i s ≡ decode a_channel bs
  unfolding split
  a_channel_is p c i s e f g h = rw (e, f, g, h) (simp drop-drop)

  pub a_rate_is : (c s p x : ℕ) → c ≡ at 1 0 → s ≡ at 1 1 → p ≡ at 1 2 → x ≡ at 2 3 → rate c s p x ≡ decode a_rate bs
  unfolding split
  a_rate_is c s p x e f g h = rw (e, f, g, h) (simp drop-drop)

  pub a_relation_is : (r : Relation) → r.p ≡ at 1 0 → r.q ≡ at 1 1 → r.n ≡ at 4 2 → r.phi ≡ unwrap (at 4 6) → r.d ≡ at 4 10
      → relation r ≡ decode a_relation bs
  unfolding split
  a_relation_is r p q n f d = rw (p, q, n, f, d) (simp drop-drop)

-- two's complement as the format has it
pub as_unwrap : (x : ℕ) → to_z w32 x ≡ unwrap x
as_unwrap x = let e : 4294967296 - suc x ≡ 4294967295 - x = omega arith in ap (λ n. cond (ltb x 2147483648) (pos x) (negsuc n)) e
