-- `sender::sending::smbus_within` meets its contract: the frame's length is the carrier's own of packet k, and 0 where
-- there is none.
-- Assumes nothing.
use Rattle.std.proofs.Common.{arith}
use Rattle.std.proofs.lemmas.Grind.{common_steps}
use Rattle.sender.specs.Sending.{smbus_size}
use Rattle.sender.proofs.sending.smbus_within.Goals as goal

pub returns-clause-size : goal.returns-clause-size
unfolding smbus_size
returns-clause-size c = grind (arith, common_steps)

pub returns-in_err-packet-clause-size : goal.returns-in_err-packet-clause-size
unfolding smbus_size
returns-in_err-packet-clause-size c = grind (arith, common_steps)
