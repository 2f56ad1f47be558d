-- `receiver::giving::give_within` meets its contract: the decision on a receiver without old slots, carried out.
-- Assumes nothing.
use Rattle.std.proofs.Common.{sym}
use Rattle.receiver.specs.Step.{offered_to, step_of}
use Rattle.receiver.proofs.giving.give_within.Goals as goal

pub returns : goal.returns
unfolding step_of offered_to
returns c =
    let decided = c.decide_within-decided.ensures in
    rw (sym decided.plan, sym decided.receiver, sym c.offered-counted.ensures) c.carry_out.ensures
