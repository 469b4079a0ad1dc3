-- `reader::push` meets its contract: by the part. Assumes nothing.
use native.Mathlib.Omega.{arith}
use Rattle.reader.proofs.Stored.{pushes_prefix, pushes_cycle}
use Rattle.reader.proofs.push.Goals as goal

pub returns-in-0 : goal.returns-in-0
returns-in-0 c = λ r e. pushes_prefix c.args.side.now r e c.args.part c.args.tokens _ _ c.in-0.is _ c.append.ensures

pub returns-in_default : goal.returns-in_default
returns-in_default c =
    λ r e. pushes_cycle c.args.side.now r e c.args.part c.args.tokens _ _ (λ z. absurd (omega arith)) _ c.append-in_default.ensures
