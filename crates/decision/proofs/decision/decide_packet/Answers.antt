-- `decision::decision::decide_packet` meets its contract: a packet that passed its checks has 5 bytes at least.
-- Assumes nothing.
use Rattle.std.proofs.Common.{arith}
use Rattle.decision.proofs.Passed.{packet_sized}
use Rattle.decision.proofs.decision.decide_packet.Goals as goal

pub overflow_sub-packet : goal.overflow_sub-packet
overflow_sub-packet c =
    let a = c.args in
    omega (arith, packet_sized a.most a.receiver.setup a.packet.now c.in-Ok.ensures c.requires)

pub overflow_cast-packet : goal.overflow_cast-packet
overflow_cast-packet c =
    let a = c.args in
    omega (arith, packet_sized a.most a.receiver.setup a.packet.now c.in-Ok.ensures c.requires)
