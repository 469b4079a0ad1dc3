-- What the loop of `writer::put_rates` keeps: the records from this channel on are left. Assumes nothing.
use Rattle.format.specs.Record.{encodes}
use Rattle.output.proofs.Parts.{Left}
use Rattle.writer.proofs.Links.{links_from}
use Rattle.writer.proofs.put_rates.Given as goal

abbrev pub invariant-loop-i : goal.invariant-loop-i
invariant-loop-i l = Left l.initial.to (encodes (links_from l.channels 0)) l.to (encodes (links_from l.channels l.i))
