-- Lines of figures written one behind the other, as a loop writes them. Assumes nothing.
use mathlib.Core.Path.{◌≡◌, sym, ap, ◌∙◌}
use mathlib.Core.List.{List, [], ◌∷◌, ◌++◌, append_assoc, append-nil}
use Prim.Native.Nat.{ℕ, suc, ◌+◌, ◌<◌}
use native.Mathlib.Nat.{add-zero}
use native.Mathlib.Numerals.{add-one}
use native.Mathlib.Omega.{arith}
use lib.ListN.{length, get_or, take}
use lib.Seq.{take-suc, length-take-le}
use Rattle.output.specs.declared.Cursor.{Cursor}
use Rattle.output.specs.Cursor.{Wrote}
use Rattle.output.proofs.Parts.{wrote_then, wrote_same}
use Rattle.lines.specs.Lines.{space, feed, word, figure_lines}

-- the line of figure x, which is figure i
abbrev line : ℕ → ℕ → List ℕ
line i x = word i space ++ word x feed

-- one figure more is one line more
line_more : (i : ℕ) (xs : List ℕ) (x : ℕ) → figure_lines i (xs ++ (x ∷ [])) ≡ figure_lines i xs ++ line (i + length xs) x
unfolding figure_lines
line_more i [] x = append-nil (line i x) ∙ ap (λ n. line n x) (sym (add-zero i))
line_more i (y ∷ xs) x =
    let e : suc i + length xs ≡ i + length (y ∷ xs) = omega arith in
    ap (λ l. line i y ++ l) (line_more (suc i) xs x ∙ ap (λ n. figure_lines (suc i) xs ++ line n x) e)
    ∙ sym (append_assoc (line i y) (figure_lines (suc i) xs) (line (i + length (y ∷ xs)) x))

-- the lines of the first i figures, and those of one figure more once its words are put behind them
pub figure_put : (figures : List ℕ) (i : ℕ) {first now half last : Cursor} → i < length figures
    → Wrote first (figure_lines 0 (take i figures)) now → Wrote now (word i space) half → Wrote half (word (get_or figures i 0) feed) last
    → Wrote first (figure_lines 0 (take (i + 1) figures)) last
figure_put figures i h done p q =
    let x : ℕ = get_or figures i 0 in
    let size : 0 + length (take i figures) ≡ i = omega (arith, length-take-le i figures (omega arith)) in
    let more : figure_lines 0 (take i figures) ++ line i x ≡ figure_lines 0 (take (i + 1) figures) =
    ap (λ m. figure_lines 0 (take i figures) ++ line m x) (sym size)
    ∙ sym (line_more 0 (take i figures) x)
    ∙ ap (figure_lines 0) (sym (take-suc figures i 0 h) ∙ ap (λ m. take m figures) (sym (add-one i))) in
    wrote_same more (wrote_then done (wrote_then p q))
