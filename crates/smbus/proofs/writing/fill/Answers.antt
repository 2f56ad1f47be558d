-- `smbus::writing::fill` meets its contract: the copies lay the head and the packet, and the last store their PEC.
-- Assumes nothing.
use Rattle.std.proofs.Common.{rules, arith}
use Rattle.smbus.proofs.Framing.{copied-length, filled}
use Rattle.smbus.proofs.writing.fill.Goals as goal

pub bounds-out-size : goal.bounds-out-size
bounds-out-size c =
    let a = c.args in
    let p = a.packet in
    let kept = copied-length a.destination a.source a.out.now p.header.now p.body.now (omega arith) in search rules

pub returns : goal.returns
returns c =
    let a = c.args in
    let p = a.packet in
    let whole = filled a.destination a.source a.out.now p.header.now p.body.now (omega arith) in search rules
