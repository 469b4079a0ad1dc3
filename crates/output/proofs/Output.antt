-- Bytes over a part of an output, and more bytes behind them. Assumes nothing.
use mathlib.Core.Path.{◌≡◌, ap, ap₂, sym, ◌∙◌}
use mathlib.Core.List.{List, [], ◌++◌, append_assoc}
use Prim.Native.Nat.{ℕ, ◌+◌, ◌-◌, ◌≤◌}
use native.Mathlib.Nat.{add-zero, zero-add}
use native.Mathlib.Omega.{arith}
use borrow.Rule.Slice.PartMut.{put_mid}
use lib.ListN.{length, take, drop, length-append, length-drop, take-append-drop}
use lib.Seq.{take_at, drop-drop, drop_at, length-take-le}
use Rattle.output.specs.Output.{put}

module _ (out : List ℕ) (at : ℕ) (bs : List ℕ) (fits : at + length bs ≤ length out) where
  -- what stands before the next place
  front : length (take at out ++ bs) ≡ at + length bs
  front = omega (arith, length-append (take at out) bs, length-take-le at out (omega arith))

  pub put_length : length (put out at bs) ≡ length out
  unfolding put
  put_length =
      omega (
        arith,
        length-take-le at out (omega arith),
        length-append (take at out) (bs ++ drop (at + length bs) out),
        length-append bs (drop (at + length bs) out),
        length-drop (at + length bs) out,
      )

  -- two parts in a row are one
  pub put_put : (cs : List ℕ) → put (put out at bs) (at + length bs) cs ≡ put out at (bs ++ cs)
  unfolding put
  put_put cs =
      let rest : List ℕ = drop (at + length bs) out in
      let more : at + length bs + length cs ≡ at + length (bs ++ cs) = omega (arith, length-append bs cs) in
      let whole : take at out ++ (bs ++ rest) ≡ (take at out ++ bs) ++ rest = sym (append_assoc (take at out) bs rest) in
      let behind : drop (at + length bs + length cs) (take at out ++ (bs ++ rest)) ≡ drop (at + length (bs ++ cs)) out =
      ap (drop (at + length bs + length cs)) whole
      ∙ sym (drop-drop (length cs) (at + length bs) ((take at out ++ bs) ++ rest))
      ∙ ap (drop (length cs)) (drop_at (take at out ++ bs) rest (at + length bs) front)
      ∙ drop-drop (length cs) (at + length bs) out
      ∙ ap (λ n. drop n out) more in
      ap (λ l. l ++ (cs ++ drop (at + length bs + length cs) (take at out ++ (bs ++ rest))))
      (ap (take (at + length bs)) whole ∙ take_at (take at out ++ bs) rest (at + length bs) front)
      ∙ ap (λ l. (take at out ++ bs) ++ (cs ++ l)) behind
      ∙ append_assoc (take at out) bs (cs ++ drop (at + length (bs ++ cs)) out)
      ∙ ap (λ l. take at out ++ l) (sym (append_assoc bs cs (drop (at + length (bs ++ cs)) out)))

-- a part at the front
pub put_front : (out bs : List ℕ) → put out 0 bs ≡ bs ++ drop (length bs) out
unfolding put
put_front out bs = ap (λ n. bs ++ drop n out) (zero-add (length bs))

-- nothing
pub put_nothing : (out : List ℕ) (at : ℕ) → out ≡ put out at []
unfolding put
put_nothing out at = sym (ap (λ n. take at out ++ drop n out) (add-zero at) ∙ take-append-drop at out)

-- a copy into a part, as code makes it
pub put_part : (out : List ℕ) (at : ℕ) (bs : List ℕ) {part : List ℕ} → part ≡ bs → put_mid at (at + length bs - at) out part ≡ put out at bs
unfolding put
put_part out at bs e =
    let n : at + (at + length bs - at) ≡ at + length bs = omega arith in
    ap₂ (λ (b d : List ℕ). take at out ++ (b ++ d)) e (drop-drop (at + length bs - at) at out ∙ ap (λ k. drop k out) n)
