-- `exports::ghadibosh_check` meets its contract: the checker's reply, told as three numbers. Assumes nothing.
use Rattle.exports.proofs.ghadibosh_check.Goals as goal

pub returns : goal.returns
returns c = record { reply = _; checks = c.check_file-reply.ensures; numbers = c.tell.ensures }
