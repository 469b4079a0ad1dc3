-- From words in the output to what is printed for a file. Assumes nothing.
use mathlib.Core.Path.{◌≡◌, refl, sym, ap, subst, ◌∙◌}
use mathlib.Core.List.{List, ◌++◌}
use Prim.Native.Nat.{ℕ, ◌≤◌}
use native.Mathlib.Omega.{arith}
use lib.ListN.{length, take, drop, replicate}
use lib.Seq.{take_at, drop_at}
use Rattle.reply.specs.declared.Numbers.{Numbers}
use Rattle.reply.specs.Reply.{Reply, numbered}
use Rattle.output.specs.declared.Cursor.{Cursor}
use Rattle.output.specs.Cursor.{Wrote}
use Rattle.output.specs.Output.{put}
use Rattle.output.proofs.Output.{put_front}
use Rattle.output.proofs.Parts.{wrote_then, wrote_same}
use Rattle.checker.specs.Check.{ChecksFile}
use Rattle.lines.specs.Lines.{space, feed, word, reply_line, figure_lines, lines, shown, Prints, Printed}

-- a text at the front of the output
placed : (file text before after : List ℕ) (n : ℕ) → n ≡ length text → n ≤ length after → after ≡ put before 0 text → Prints file text → Printed file before after n
placed file text before after n size room e t =
    let whole : after ≡ text ++ drop (length text) before = e ∙ put_front before text in
    let front : take n after ≡ text = ap (take n) whole ∙ take_at text (drop (length text) before) n (sym size) in
    record {
      inside = room;
      front = size ∙ ap length (sym front);
      prints = subst (Prints file) (sym front) t;
      rest = ap (drop n) whole ∙ drop_at text (drop (length text) before) n (sym size) ∙ ap (λ m. drop m before) (sym size);
    }

-- the words of a reply's numbers and the lines of its figures, written from the front
pub printed : (file : List ℕ) (r : Reply) (report : List ℕ) → ChecksFile file (replicate 32 0) r report → (x : Numbers) → x ≡ numbered r
    → {a b c d e : Cursor} → a.at ≡ 0 → Wrote a (word x.number space) b → Wrote b (word x.place space) c → Wrote c (word x.job feed) d
    → Wrote d (figure_lines 0 (take (shown r) report)) e → Printed file a.out.now e.out.now e.at
printed file r report checks x same {a} {b} {c} {d} {e} z number place job figures =
    let text : List ℕ = lines (numbered r) (take (shown r) report) in
    let head : Wrote a (reply_line x) d = wrote_then number (wrote_then place job) in
    let w : Wrote a text e = wrote_then (wrote_same (ap reply_line same) head) figures in
    placed file text a.out.now e.out.now e.at (omega (arith, w.next)) w.room (w.bytes ∙ ap (λ n. put a.out.now n text) z)
    (record { reply = r; report = report; checks = checks; text = refl })
