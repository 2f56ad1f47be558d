-- The library's conversion gives the word that the definition does.
-- Assumes nothing.
use native.Mathlib.Omega.{arith}
use Rattle.octets.specs.Words.{word_at}
use Rattle.octets.proofs.word.LowFirstByteOrder.word.Goals as goal

pub returns : goal.returns
unfolding word_at
returns c = omega (arith, c.from_le_bytes.ensures)
