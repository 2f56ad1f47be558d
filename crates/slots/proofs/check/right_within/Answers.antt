-- `slots::check::right_within` meets its contract: an array of four has four slots.
-- Assumes nothing.
use Rattle.std.proofs.Common.{◌≡◌, Bool, ◌&&◌, length, sym, ap, eq-eqb}
use mathlib.Core.Bool.{and-true, and_assoc}
use Rattle.mctp.specs.Packet.{body_right}
use Rattle.slots.specs.Setup.{right_setup}
use Rattle.slots.specs.Tallies.{gathering_in, held_in, right_tallies}
use Rattle.slots.specs.State.{each_right, all_apart, right_state}
use Rattle.slots.proofs.check.right_within.Goals as goal

pub returns : goal.returns
unfolding right_state
returns c =
    let most = c.args.most in
    let r = c.args.receiver in
    let four : length r.slots ≡ 4 = c.well_formed.1.0.1.1.1.0.1.0.1 in
    rw (
      eq-eqb (length r.slots) 4 four,
      and-true,
      c.body_right.ensures,
      c.setup_right.ensures,
      c.slots_right.ensures,
      c.right_tallies.ensures,
    )
    (ap (λ (t : Bool). t && right_tallies r.tallies (gathering_in r.slots) (held_in r.slots))
    (sym (and_assoc (body_right most && right_setup r.setup) (each_right most r.setup r.slots) (all_apart r.slots))))
