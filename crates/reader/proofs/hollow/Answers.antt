-- `reader::hollow` meets its contract: by the two cycles of channel i. Assumes nothing.
use native.Mathlib.Omega.{arith}
use Rattle.reader.proofs.Whole.{all_full, hollow_first, hollow_second, two_more}
use Rattle.reader.proofs.hollow.Goals as goal

pub returns-then-channel-eq0 : goal.returns-then-channel-eq0
returns-then-channel-eq0 c =
    λ g e. hollow_first _ g e c.loop-i.i c.loop-i-test.true _ (c.loop-i.invariant g e) c.if-channel-eq0.true

pub returns-then-channel-eq0-2 : goal.returns-then-channel-eq0-2
returns-then-channel-eq0-2 c =
    λ g e. hollow_second _ g e c.loop-i.i c.loop-i-test.true _ (c.loop-i.invariant g e) c.if-channel-eq0.false c.if-channel-eq0-2.true

pub loop-i-preserved : goal.loop-i-preserved
loop-i-preserved c =
    λ g e. two_more _ g e c.loop-i.i c.loop-i-test.true _ (c.loop-i.invariant g e) c.if-channel-eq0.false c.if-channel-eq0-2.false

pub returns : goal.returns
returns c = λ g e. all_full _ g e (λ j l. c.loop-i.invariant g e j (omega (arith, c.loop-i-test.false)))
