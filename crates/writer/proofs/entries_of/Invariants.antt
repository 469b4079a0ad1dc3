-- What the loop of `writer::entries_of` keeps: the entries from this channel on are not counted yet. Assumes nothing.
use Rattle.std.proofs.Common.{◌≡◌, ◌+◌, length}
use Rattle.writer.proofs.Links.{links_from}
use Rattle.writer.proofs.entries_of.Given as goal

abbrev pub invariant-loop-c : goal.invariant-loop-c
invariant-loop-c l = l.total + length (links_from l.channels l.c-index) ≡ length (links_from l.channels 0)
