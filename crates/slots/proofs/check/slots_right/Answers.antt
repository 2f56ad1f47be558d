-- `slots::check::slots_right` meets its contract.
-- Assumes nothing.
use Rattle.std.proofs.Common.{sym, arith}
use mathlib.Core.Bool.{and-true}
use Rattle.slots.specs.Slots.{slot_at}
use Rattle.slots.specs.Tallies.{sum_of}
use Rattle.slots.proofs.Gathering.{none_gathers, one_gathers}
use Rattle.slots.proofs.check.slots_right.Goals as goal

pub returns-then-gathering-eq0 : goal.returns-then-gathering-eq0
unfolding sum_of
returns-then-gathering-eq0 c = sym (none_gathers _ _ _ _ _ _ (omega arith))

pub returns-then-gathering-eq1 : goal.returns-then-gathering-eq1
unfolding sum_of
returns-then-gathering-eq1 c =
    let slots = c.args.slots.now in
    rw (
      c.each_right-right.ensures,
      one_gathers (slot_at slots 0) (slot_at slots 1) (slot_at slots 2) (slot_at slots 3) (omega arith),
      and-true,
    )
