-- `slots::age::expired` meets its contract. The invariant: the slots that were looked through are as they are to be.
-- Assumes nothing.
use Rattle.std.proofs.Common.{◌≡◌}
use Rattle.slots.specs.Ages.{expired_to}
use Rattle.slots.proofs.age.expired.Given as goal

abbrev pub invariant-loop-slot : goal.invariant-loop-slot
invariant-loop-slot l = l.next ≡ expired_to l.time l.initial.next l.slot
