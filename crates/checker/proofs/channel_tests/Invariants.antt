-- What the loop of `checker::channel_tests` keeps: the channels before c pass. Assumes nothing.
use Prim.Native.Nat.{ℕ, ◌<◌}
use lib.ListN.{get_or}
use Rattle.std.specs.Prelude.{Ok}
use Rattle.formed.proofs.Parts.{no_link}
use Rattle.checker.specs.Channels.{Tells}
use Rattle.checker.proofs.channel_tests.Given as goal

abbrev pub invariant-loop-c : goal.invariant-loop-c
invariant-loop-c l = (k : ℕ) → k < l.c → Tells l.tasks k (get_or l.channels k no_link) (Ok tt)
