-- The counts of a well-formed graph. Assumes nothing.
use Rattle.std.proofs.Common.{◌≡◌, ap, sym, subst, length, take}
use Rattle.numbers.specs.Lists.{All}
use Rattle.graph.specs.Memory.{Memory, view, laid}
use Rattle.formed.specs.Formed.{WellFormed, ChannelFormed}
use Rattle.formed.proofs.Whole.{Told, well_no}

module _ (g : Memory) (w : WellFormed g) where
  -- 1 to 32 tasks, at most 64 channels, at most 64 relations
  pub counts : Told g
  counts = well_no g w

  -- the list of tasks is as long as its count says
  pub count_tasks : length (view g).tasks ≡ g.ntasks
  unfolding laid
  count_tasks = sym (ap (λ (x : Memory). x.ntasks) w.padded)

  -- its channels name tasks of it, are in range, and hold zero behind their rates
  pub channels_formed : All (ChannelFormed (length (view g).tasks)) (take g.nchannels g.channels)
  channels_formed = subst (λ n. All (ChannelFormed n) (take g.nchannels g.channels)) (sym count_tasks) counts.channels.used
