-- What a reader that fills a buffer part by part has given. Assumes nothing.
use Rattle.std.proofs.Common.{◌≡◌, ℕ, ◌+◌, ◌≤◌, ◌<◌, List, ◌++◌, arith, length, take, drop, length-drop, length-take, sym, ap, ◌∙◌, subst, length-take-le, take_all, append-nil}
use Rattle.std.specs.Prelude.{None, Some, IfSome}
use Rattle.std.specs.declared.option.Option.{Option}
use Rattle.std.specs.Io.KnownBytes.{Consumes, IsAtEnd}
use Rattle.std.proofs.KnownBytes.{Consumes-trans}
use borrow.Rule.Slice.PartMut.{put_mid, mid_of, post_of}
use lib.Seq.{take-append-le, take-append-add, take_at}

-- a buffer that is full holds the first bytes
pub full : (old new : Option (List ℕ)) (bytes : List ℕ) (most : ℕ) → length bytes ≡ most → Consumes old new bytes → IfSome old (λ xs. bytes ≡ take most xs)
full None new bytes most l h = _
full (Some xs) None bytes most l h = absurd h
full (Some xs) (Some ys) bytes most l h = sym (ap (take most) h ∙ take_at bytes ys most l)

-- at the end of the input the buffer holds all of it
pub ended : (old new : Option (List ℕ)) (bytes : List ℕ) (most : ℕ) → length bytes ≤ most → Consumes old new bytes → IsAtEnd new → IfSome old (λ xs. bytes ≡ take most xs)
ended None new bytes most l h e = _
ended (Some xs) None bytes most l h e = absurd h
ended (Some xs) (Some ys) bytes most l h e =
    let whole : xs ≡ bytes = h ∙ ap (λ l'. bytes ++ l') e ∙ append-nil bytes in
    sym (ap (take most) whole ∙ take_all most bytes l)

-- a part that is lent of a buffer keeps its length
pub part_room : (at k : ℕ) (file part : List ℕ) → length part ≡ length (mid_of at k file) → at + k ≤ length file → length part ≡ k
part_room at k file part e h = e ∙ length-take-le k (drop at file) (omega (arith, length-drop at file))

module _ (at k n : ℕ) (file part : List ℕ) (within : at ≤ length file) (fits : n ≤ length part) where
  -- the bytes so far, and the first n of a part that is put behind them
  joined : take at file ++ take n part ≡ take (at + n) (put_mid at k file part)
  joined =
      sym
      (ap (λ m. take (m + n) (put_mid at k file part)) (sym (length-take-le at file within))
      ∙ take-append-add (take at file) (part ++ post_of at k file) n
      ∙ ap (λ l. take at file ++ l) (take-append-le n part (post_of at k file) fits))

  pub more : (first old new : Option (List ℕ)) → Consumes first old (take at file) → Consumes old new (take n part)
      → Consumes first new (take (at + n) (put_mid at k file part))
  more first old new so_far now = subst (Consumes first new) joined (Consumes-trans _ _ _ _ _ so_far now)

  -- and where it gives nothing, the buffer holds the whole input
  pub at_end : n ≡ 0 → 0 < length part → (first old new : Option (List ℕ)) → Consumes first old (take at file)
      → Consumes old new (take n part) × (n ≡ 0 → 0 < length part → IsAtEnd new)
      → IfSome first (λ xs. take at (put_mid at k file part) ≡ take (length (put_mid at k file part)) xs)
  at_end z room first old new so_far now =
      let whole : List ℕ = put_mid at k file part in
      let none : at + n ≡ at = omega arith in
      ended first new (take at whole) (length whole) (omega (arith, length-take at whole))
      (subst (λ m. Consumes first new (take m whole)) none (more first old new so_far now.0))
      (now.1 z room)
