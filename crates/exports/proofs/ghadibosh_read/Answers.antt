-- `exports::ghadibosh_read` meets its contract: the reader's reply, told as three numbers. Assumes nothing.
use Rattle.exports.proofs.ghadibosh_read.Goals as goal

pub returns : goal.returns
returns c = record { reading = _; gives = c.read-reply.ensures; numbers = c.tell.ensures }
