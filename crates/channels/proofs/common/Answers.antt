-- `channels::common` meets its contract. Assumes nothing.
use Rattle.channels.proofs.Multiples.{reduced_more, reduced_all}
use Rattle.channels.proofs.common.Goals as goal

pub loop-rest-preserved : goal.loop-rest-preserved
loop-rest-preserved c = reduced_more _ _ _ _ _ c.loop-rest.invariant c.loop-rest-test.true

pub returns : goal.returns
returns c = reduced_all _ _ _ _ _ c.loop-rest.invariant c.requires.some_a c.requires.some_b c.loop-rest-test.false
