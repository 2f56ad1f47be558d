-- `pec::word::shifted_word` meets its contract.
-- Assumes nothing.
use native.Mathlib.Omega.{arith}
use Rattle.pec.proofs.Shifts.{shifted_word, shifted_word_right_lem}
use Rattle.pec.proofs.word.shifted_word.Goals as goal

pub returns : goal.returns
unfolding shifted_word
returns c = shifted_word_right_lem c.args.w (omega arith)
