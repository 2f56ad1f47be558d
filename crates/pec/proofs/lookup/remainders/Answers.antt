-- `pec::lookup::remainders` meets its contract: the test of the table, computed once over the code's own array.
-- Assumes nothing.
use Rattle.pec.specs.Remainder.{poly_step, eight_steps}
use Rattle.pec.proofs.lookup.remainders.Goals as goal

pub returns : goal.returns
unfolding poly_step eight_steps
returns c = tt
