-- `response::Rivals::demand` meets its contract: the demand fits. Assumes nothing.
use Rattle.std.proofs.Common.{rules}
use Rattle.response.proofs.Hindrance.{demand_fits}
use Rattle.response.proofs.Rivals.demand.Goals as goal

pub sum-requires-clause-fits : goal.sum-requires-clause-fits
sum-requires-clause-fits c = let fits = demand_fits _ _ _ c.ranges.own.fits c.ranges.w.fits c.self.invariant.0 c.self.invariant.1 in search (rules, fits)

pub overflow_add-result : goal.overflow_add-result
overflow_add-result c = let fits = demand_fits _ _ _ c.ranges.own.fits c.ranges.w.fits c.self.invariant.0 c.self.invariant.1 in search (rules, fits)
