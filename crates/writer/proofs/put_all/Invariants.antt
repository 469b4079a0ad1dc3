-- What the loop of `writer::put_all` keeps: the records from here on are left. Assumes nothing.
use Rattle.output.proofs.Parts.{Left}
use Rattle.writer.proofs.Rows.{from}
use Rattle.writer.proofs.put_all.Given as goal

abbrev pub invariant-loop-item : goal.invariant-loop-item
invariant-loop-item g l = Left l.initial.to (from g.T.Item.as_record l.items 0) l.to (from g.T.Item.as_record l.items l.item-index)
