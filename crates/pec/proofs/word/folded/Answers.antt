-- `pec::word::folded` meets its contract.
-- Assumes nothing.
use native.Mathlib.Omega.{arith}
use Rattle.pec.proofs.Shifts.{folded, folded_right_lem}
use Rattle.pec.proofs.word.folded.Goals as goal

pub returns : goal.returns
unfolding folded
returns c = folded_right_lem c.args.w (omega arith)
