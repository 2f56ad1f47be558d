-- `octets::word::word_at` meets its contract.
-- Assumes nothing.
use mathlib.Core.Path.{◌∙◌}
use Rattle.octets.proofs.Words.{word_of_part}
use Rattle.octets.proofs.word.word_at.Goals as goal

pub returns : goal.returns
returns g c =
    c.word.ensures
    ∙ word_of_part _ _ _ _ _ _ _ _ c.part-four.ensures c.byte_at.ensures c.byte_at-2.ensures c.byte_at-3.ensures
    c.byte_at-4.ensures
