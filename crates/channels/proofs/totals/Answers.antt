-- `channels::totals` meets its contract. Assumes nothing.
use mathlib.Core.Path.{refl, ◌∙◌}
use native.Mathlib.Omega.{arith}
use Rattle.channels.proofs.Tables.{filled_none, filled_more, filled_all}
use Rattle.channels.proofs.totals.Goals as goal

pub loop-job-init : goal.loop-job-init
loop-job-init c = filled_none _ _ _ refl refl

pub loop-job-preserved : goal.loop-job-preserved
loop-job-preserved c =
    filled_more _ _ _ _ _ c.from-sum.result c.loop-job.invariant c.requires (omega arith)
    (c.from-sum.ensures ∙ c.rate_at.ensures) (omega (arith, c.from-sum.ensures))

pub returns : goal.returns
returns c = filled_all _ _ c.requires _ _ _ c.loop-job.invariant (omega arith)
