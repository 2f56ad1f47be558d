-- `pec::pec` meets its contract.
-- Assumes nothing.
use mathlib.Core.Path.{◌∙◌}
use Rattle.pec.specs.Remainder.{poly_step, eight_steps, byte_step, pec_of}
use Rattle.pec.specs.Words.{word_from}
use Rattle.pec.proofs.pec.Goals as goal

-- In front of the bytes stands the word 0, whose remainder is 0.
pub returns : goal.returns
unfolding word_from byte_step eight_steps poly_step pec_of
returns c = c.remainder.ensures ∙ c.behind.ensures
