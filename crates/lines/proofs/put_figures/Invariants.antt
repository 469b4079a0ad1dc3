-- What the loop of `lines::put_figures` keeps: the lines of the figures so far are written. Assumes nothing.
use Prim.Native.Nat.{◌+◌, ◌*◌, ◌≤◌}
use lib.ListN.{take}
use Rattle.output.specs.Cursor.{Wrote}
use Rattle.lines.specs.Lines.{figure_lines}
use Rattle.lines.proofs.put_figures.Given as goal

abbrev pub invariant-loop-i : goal.invariant-loop-i
invariant-loop-i l = record {
  short : l.cursor.at ≤ l.initial.cursor.at + l.i * 42;
  wrote : Wrote l.initial.cursor (figure_lines 0 (take l.i l.figures)) l.cursor;
}
