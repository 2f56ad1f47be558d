-- `pcc::writing::fill` meets its contract: what is laid one after the other is the region's front.
-- Assumes nothing.
use Rattle.std.proofs.Common.{rules, arith}
use Rattle.pcc.proofs.Writings.{filled}
use Rattle.pcc.proofs.writing.fill.Goals as goal

pub returns : goal.returns
returns c =
    let a = c.args in
    let p = a.packet in
    let whole = filled a.region.now p.header.now p.body.now a.id a.notify (omega arith) in search rules
