-- What the loop of `writer::put_list` keeps: the records from here on are left. Assumes nothing.
use Rattle.format.specs.Record.{rate}
use Rattle.output.proofs.Parts.{Left}
use Rattle.writer.proofs.Rows.{from}
use Rattle.writer.proofs.put_list.Given as goal

abbrev pub invariant-loop-tokens : goal.invariant-loop-tokens
invariant-loop-tokens l = Left l.initial.to (from (rate l.channel l.side l.part) l.list 0) l.to (from (rate l.channel l.side l.part) l.list l.tokens-index)
