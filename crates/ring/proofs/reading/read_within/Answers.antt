-- `ring::reading::read_within` meets its contract: a found packet is copied, and every other answer leaves the output.
-- Assumes nothing.
use mathlib.Core.Path.{◌≡◌, refl, ap, sym, ◌∙◌}
use Prim.Native.Nat.{ℕ}
use native.Mathlib.Omega.{arith}
use lib.ListN.{take}
use Rattle.std.specs.Prelude.{Ok}
use Rattle.octets.specs.Bytes.{fronted}
use Rattle.ring.specs.Answers.{found_in}
use Rattle.ring.specs.Reading as reading
use Rattle.ring.specs.Round.{round_from}
use Rattle.ring.specs.declared.reading.Found.{Found}
use Rattle.ring.specs.declared.reading.Found.TheVariants.{Packet}
use Rattle.ring.proofs.Readings.{good, good_copied, good_output}
use Rattle.ring.proofs.reading.read_within.Goals as goal

-- what was found is a packet by the definitions too
packet : {f : Found} {r : reading.Found} {size next : ℕ} → found_in (Ok f) ≡ r → f ≡ Packet size next
    → r ≡ reading.packet size next
packet e is = sym e ∙ ap (λ (f : Found). found_in (Ok f)) is

pub next-at-requires : goal.next-at-requires
next-at-requires c =
    let g = good _ _ _ _ _ _ _ _ _ (packet c.in_ok-found.ensures c.in-Packet.is) in
    (g.set_up.size.high, g.from.below, omega (arith, g.set_up.size.low))

pub copy_out-requires : goal.copy_out-requires
copy_out-requires c =
    let g = good _ _ _ _ _ _ _ _ _ (packet c.in_ok-found.ensures c.in-Packet.is) in
    rw c.next-at.ensures (good_copied _ _ _ _ _ _ _ _ _ g)

pub returns-in-Packet-clause-output : goal.returns-in-Packet-clause-output
returns-in-Packet-clause-output c =
    let g = good _ _ _ _ _ _ _ _ _ (packet c.in_ok-found.ensures c.in-Packet.is) in
    c.copy_out.ensures
    ∙ ap (λ (p : ℕ). fronted c.args.out.now (take c.in-Packet.size (round_from p c.args.ring.now))) c.next-at.ensures
    ∙ good_output _ _ _ _ _ _ _ _ _ g c.args.out.now refl
