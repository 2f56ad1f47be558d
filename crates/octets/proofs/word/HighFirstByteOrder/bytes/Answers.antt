-- The library's four bytes are those of the definition.
-- Assumes nothing.
use Rattle.octets.specs.Words.{word_bytes}
use Rattle.octets.proofs.word.HighFirstByteOrder.bytes.Goals as goal

pub returns : goal.returns
unfolding word_bytes
returns c = c.to_be_bytes.ensures
