-- `decision::decision::decide_within` meets its contract: 1 and 2, old slots freed, and the packet decided on.
-- Assumes nothing.
use Rattle.std.proofs.Common.{◌++◌, length, sym, ap, ◌∙◌, arith}
use Rattle.octets.specs.Checks.{first_failing}
use Rattle.mctp.specs.Packet.{body_of}
use Rattle.mctp.specs.Key.{header_of}
use Rattle.slots.specs.declared.state.Receiver.{Receiver}
use Rattle.slots.proofs.States.{most_bounds}
use Rattle.decision.specs.Checks.{packet_order, source_order}
use Rattle.decision.specs.Rules.{ruled}
use Rattle.decision.proofs.Passed.{setup_passed, aged_refused, aged_expired, aged_decided}
use Rattle.decision.proofs.decision.decide_within.Goals as goal

pub returns-in-Err : goal.returns-in-Err
returns-in-Err c =
    let a = c.args in
    let same = aged_refused a.most a.time a.receiver a.size a.packet.now _ c.in-Err.ensures in
    record { receiver = sym same.0; plan = sym same.1 }

pub decide_packet-requires : goal.decide_packet-requires
decide_packet-requires c =
    let a = c.args in
    let passed = setup_passed a.most a.receiver a.size c.in_default.ensures in
    omega (arith, most_bounds a.most a.receiver passed.0)

pub returns : goal.returns
returns c =
    let a = c.args in
    let passed = setup_passed a.most a.receiver a.size c.in_default.ensures in
    record {
      receiver =
          c.expired-aged.ensures ∙ sym (aged_expired a.most a.time a.receiver a.size a.packet.now passed.0 passed.1);
      plan = c.decide_packet.ensures
          ∙ ap
          (λ (q : Receiver). first_failing
          (packet_order a.most q.setup a.packet.now ++ source_order a.packet.now)
          (ruled q.slots (header_of a.packet.now) (length (body_of a.packet.now))))
          c.expired-aged.ensures
          ∙ sym (aged_decided a.most a.time a.receiver a.size a.packet.now passed.0 passed.1);
    }
