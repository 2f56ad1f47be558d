-- `rack::path::from_ring` meets its contract: what the ring's own promise says of the output holds whatever the message
-- rules answer.
-- Assumes nothing.
use mathlib.Core.Path.{ap, ◌∙◌}
use native.Mathlib.Omega.{arith}
use Rattle.std.proofs.Common.{Ok, rules}
use Rattle.rack.proofs.Carriers.{ring_brings_lem, ring_fits, ring_front}
use Rattle.rack.proofs.path.from_ring.Goals as goal

pub slice_bounds-give-end : goal.slice_bounds-give-end
slice_bounds-give-end c =
    let fits = ring_fits _ _ _ c.args.offered.flags _ _ c.args.out.now c.read.result c.read.ensures.answer _ _
    (c.in-Ok-Packet.is ∙ ap Ok c.in-Ok-Packet.field-0-is) in
    omega arith

pub slice_bounds-give-end-in-Ok-Packet : goal.slice_bounds-give-end-in-Ok-Packet
slice_bounds-give-end-in-Ok-Packet c =
    let fits = ring_fits _ _ _ c.args.offered.flags _ _ c.args.out.now c.read.result c.read.ensures.answer _ _
    (c.in-Ok-Packet.is ∙ ap Ok c.in-Ok-Packet.field-0-is) in search rules

pub returns-in-Ok-Packet-clause-arrival : goal.returns-in-Ok-Packet-clause-arrival
returns-in-Ok-Packet-clause-arrival c =
    let o = c.args.offered in
    let brings = ring_brings_lem _ _ _ o.flags _ _ c.args.out.now c.read.result c.read.ensures.answer _
    (c.in-Ok-Packet.is ∙ ap Ok c.in-Ok-Packet.field-0-is) in
    let front = ring_front _ _ _ o.flags _ _ c.args.out.now c.read.result c.read.ensures.answer _ _
    (c.in-Ok-Packet.is ∙ ap Ok c.in-Ok-Packet.field-0-is) in
    rw (brings, c.give.ensures, ← front, ← c.read.ensures.output)
