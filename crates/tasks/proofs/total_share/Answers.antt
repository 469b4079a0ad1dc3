-- `tasks::total_share` meets its contract: each task is in range. Assumes nothing.
use Rattle.std.proofs.iter.Serving.{serving}
use Rattle.tasks.proofs.Load.{each}
use Rattle.tasks.proofs.total_share.Goals as goal

pub sum-requires-clause-can : goal.sum-requires-clause-can
sum-requires-clause-can c = let all = each _ c.list.ensures.in_range in grind (serving, all)
