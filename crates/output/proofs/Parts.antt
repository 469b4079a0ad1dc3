-- What a cursor writes, part by part. Assumes nothing.
use mathlib.Core.Path.{◌≡◌, refl, ap, sym, subst, ◌∙◌}
use mathlib.Core.List.{List, [], ◌++◌, append_assoc, append-nil}
use Prim.Native.Nat.{ℕ}
use native.Mathlib.Omega.{arith}
use lib.ListN.{length, length-append}
use Rattle.output.specs.declared.Cursor.{Cursor}
use Rattle.output.specs.Output.{put}
use Rattle.output.specs.Cursor.{HasRoom, Wrote}
use Rattle.output.proofs.Output.{put_put, put_nothing}

module _ {a : Cursor} where
  -- two parts in a row are one
  pub wrote_then : {b c : Cursor} {bs cs : List ℕ} → Wrote a bs b → Wrote b cs c → Wrote a (bs ++ cs) c
  wrote_then {b} {c} {bs} {cs} p q =
      record {
        same_output = q.same_output ∙ p.same_output;
        same_length = q.same_length ∙ p.same_length;
        bytes =
            q.bytes
            ∙ ap (λ l. put l b.at cs) p.bytes
            ∙ ap (λ n. put (put a.out.now a.at bs) n cs) p.next
            ∙ put_put a.out.now a.at bs (omega arith) cs;
        next = omega (arith, length-append bs cs);
        room = q.room;
      }

  pub wrote_same : {b : Cursor} {bs cs : List ℕ} → bs ≡ cs → Wrote a bs b → Wrote a cs b
  wrote_same {b} e p = subst (λ l. Wrote a l b) e p

  -- nothing yet
  pub wrote_nothing : HasRoom a 0 → Wrote a [] a
  wrote_nothing h =
      record { same_output = refl; same_length = refl; bytes = put_nothing a.out.now a.at; next = omega arith; room = omega arith }

-- ---- one part and then others

-- all that is to be written is bs and then cs
pub record Then (all bs cs : List ℕ) : Type 0 where
  pub parts : all ≡ bs ++ cs

module _ {all bs cs : List ℕ} (t : Then all bs cs) (a : Cursor) (room : HasRoom a (length all)) where
  pub room_first : HasRoom a (length bs)
  room_first = omega (arith, ap length t.parts, length-append bs cs)

  pub room_then : {b : Cursor} → Wrote a bs b → HasRoom b (length cs)
  room_then w = omega (arith, ap length t.parts, length-append bs cs, w.next, w.same_length)

pub wrote_both : {all bs cs : List ℕ} → Then all bs cs → {a b c : Cursor} → Wrote a bs b → Wrote b cs c → Wrote a all c
wrote_both t p q = wrote_same (sym t.parts) (wrote_then p q)

-- Of the bytes that are to be written from the cursor `first` on, for which there was room, `rest` are still to come at the cursor `now`.
pub record Left (first : Cursor) (all : List ℕ) (now : Cursor) (rest : List ℕ) : Type 0 where
  pub done : List ℕ
  pub wrote : Wrote first done now
  pub parts : all ≡ done ++ rest
  pub fits : HasRoom first (length all)

module _ {a : Cursor} {all : List ℕ} where
  pub left_start : HasRoom a (length all) → Left a all a all
  left_start h = record { done = []; wrote = wrote_nothing (omega arith); parts = refl; fits = h }

  module _ {b : Cursor} {rest bs cs : List ℕ} (l : Left a all b rest) (t : Then rest bs cs) where
    -- there is room for the next part
    pub left_room : HasRoom b (length bs)
    left_room =
        omega (arith, ap length l.parts, length-append l.done rest, ap length t.parts, length-append bs cs, l.fits, l.wrote.next, l.wrote.same_length)

    -- and then for what stands behind it
    pub left_more : {c : Cursor} → Wrote b bs c → Left a all c cs
    left_more w =
        record {
          done = l.done ++ bs;
          wrote = wrote_then l.wrote w;
          parts = l.parts ∙ ap (λ x. l.done ++ x) t.parts ∙ sym (append_assoc l.done bs cs);
          fits = l.fits;
        }

  -- until nothing is left
  pub left_none : {b : Cursor} {rest : List ℕ} → Left a all b rest → rest ≡ [] → Wrote a all b
  left_none l e = wrote_same (sym (l.parts ∙ ap (λ x. l.done ++ x) e ∙ append-nil l.done)) l.wrote
