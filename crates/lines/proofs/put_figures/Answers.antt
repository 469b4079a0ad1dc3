-- `lines::put_figures` meets its contract: a turn writes one line more. Assumes nothing.
use mathlib.Core.Path.{ap}
use native.Mathlib.Omega.{arith}
use Rattle.output.proofs.Parts.{wrote_nothing, wrote_same}
use Rattle.lines.specs.Lines.{feed, word, figure_lines}
use Rattle.lines.proofs.Figures.{figure_put}
use Rattle.lines.proofs.put_figures.Goals as goal

pub loop-i-init : goal.loop-i-init
unfolding figure_lines
loop-i-init c = record { short = omega arith; wrote = wrote_nothing (omega arith) }

pub loop-i-preserved : goal.loop-i-preserved
loop-i-preserved c =
    record {
      short = omega arith;
      wrote = figure_put _ _ (omega arith) c.loop-i.invariant.wrote c.put_word.ensures.word
          (wrote_same (ap (λ n. word n feed) c.from.ensures) c.put_word-in-loop-i.ensures.word);
    }
