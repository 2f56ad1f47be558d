-- The library's four bytes are those of the definition.
-- Assumes nothing.
use Rattle.octets.specs.Words.{word_bytes}
use Rattle.octets.proofs.word.LowFirstByteOrder.bytes.Goals as goal

pub returns : goal.returns
unfolding word_bytes
returns c = c.to_le_bytes.ensures
