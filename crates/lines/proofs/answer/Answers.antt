-- `lines::answer` meets its contract: the reply's line, and a line for each figure. Assumes nothing.
use mathlib.Core.Path.{◌≡◌, ap}
use borrow.Author.Rules.{rules}
use lib.ListN.{take}
use Rattle.output.proofs.Parts.{wrote_same}
use Rattle.lines.specs.Lines.{space, word, figure_lines, shown}
use Rattle.lines.proofs.Printing.{printed}
use Rattle.lines.proofs.answer.Goals as goal

pub returns : goal.returns
returns c =
    let k = c.check_file-reply in
    let shows : c.unwrap_or.result ≡ shown k.result = search rules in
    let p = printed c.args.file.now k.result k.new.report k.ensures c.from-numbers.result c.from-numbers.ensures c.new-cursor.ensures.front
    (wrote_same (ap (λ n. word n space) c.from.ensures) c.put_word.ensures.word) c.put_word-2.ensures.word c.put_word-3.ensures.word
    (wrote_same (ap (λ n. figure_lines 0 (take n k.new.report)) shows) c.put_figures.ensures) in
    rw c.place.ensures (rw c.new-cursor.ensures.same_bytes at p)
