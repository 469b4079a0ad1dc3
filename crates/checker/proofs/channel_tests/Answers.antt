-- `checker::channel_tests` meets its contract: the channels before c pass. Assumes nothing.
use native.Mathlib.Omega.{arith}
use Rattle.std.proofs.lemmas.Result.{err_from_is_err_and}
use Rattle.checker.proofs.Channels.{spoilt, fine}
use Rattle.checker.proofs.channel_tests.Goals as goal

pub returns-in_err-channel_test : goal.returns-in_err-channel_test
returns-in_err-channel_test c =
    λ room.
    let p = err_from_is_err_and c.from_residual.result c.from_residual.ensures.1 in
    rw (p.1, p.2)
    (spoilt c.args.tasks.now c.args.channels.now c.requires room c.loop-c.c c.in_err-channel_test.field-0.0 (omega arith) c.loop-c.invariant c.in_err-channel_test.ensures)

pub returns : goal.returns
returns c = λ room. fine c.args.tasks.now c.args.channels.now c.requires room (λ k h. c.loop-c.invariant k (omega arith))
