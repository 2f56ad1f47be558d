-- `sender::sending::output_within` meets its contract: header and body laid one behind the other are packet k.
-- Assumes nothing.
use mathlib.Core.Path.{sym, ap, ◌∙◌}
use mathlib.Core.List.{List}
use Prim.Native.Nat.{ℕ}
use native.Mathlib.Omega.{arith}
use lib.ListN.{length-append}
use Rattle.octets.specs.Bytes.{laid}
use Rattle.std.proofs.lemmas.Grind.{common_steps}
use Rattle.sender.specs.Sending.{output_refusal, output_written}
use Rattle.sender.proofs.Sendings.{laid_pieces, by_output}
use Rattle.sender.proofs.sending.output_within.Goals as goal

pub returns-clause-output : goal.returns-clause-output
returns-clause-output c =
    let there = c.in_ok-packet.ensures in
    let packet = c.in_ok-packet.packet in
    let size = length-append packet.header packet.body.now in
    c.lay-2.ensures
    ∙ ap (λ (o : List ℕ). laid o 4 packet.body.now) c.lay.ensures
    ∙ laid_pieces c.args.out.now packet.header packet.body.now there.header (omega arith)
    ∙ (by_output _ _ _ _ (sym there.number) _ there.packet c.args.out.now (omega (arith, size, there.header))).2

pub returns-then-out-size-clause-output : goal.returns-then-out-size-clause-output
unfolding output_refusal output_written
returns-then-out-size-clause-output c = grind (arith, common_steps)

pub returns-in_err-packet-clause-output : goal.returns-in_err-packet-clause-output
unfolding output_refusal output_written
returns-in_err-packet-clause-output c = grind (arith, common_steps)
