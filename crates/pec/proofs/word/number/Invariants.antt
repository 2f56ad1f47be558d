-- `pec::word::number` meets its contract. The loop's invariant: the word is the number that the bytes passed make.
-- Assumes nothing.
use mathlib.Core.Path.{◌≡◌}
use Rattle.pec.specs.Words.{number_at}
use Rattle.pec.proofs.word.number.Given as goal

abbrev pub invariant-loop-b : goal.invariant-loop-b
invariant-loop-b l = l.w ≡ number_at l.s 0 l.b-index
