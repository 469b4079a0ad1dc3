-- The channel of zeros is what stands past the last channel. Assumes nothing.
use Rattle.std.proofs.Common.{refl}
use Rattle.graph.specs.Memory.{pad}
use Rattle.formed.proofs.entry.ChannelEntry.NONE.Goals as goal

pub returns : goal.returns
unfolding pad
returns c = refl
