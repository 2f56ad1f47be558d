-- `slots::state::Slot::has_key` meets its contract: the derived equality of keys is the test on all four parts.
-- Assumes nothing.
use Rattle.std.proofs.Common.{◌∙◌}
use mathlib.Core.Bool.{and_assoc}
use Rattle.mctp.specs.Key.{same_key}
use Rattle.slots.proofs.state.Slot.has_key.Goals as goal

pub returns-in-Gathering : goal.returns-in-Gathering
unfolding same_key
returns-in-Gathering c = rw c.in-Gathering.is (c.eq.ensures ∙ simp and_assoc)
