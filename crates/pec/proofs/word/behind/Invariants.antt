-- `pec::word::behind` meets its contract. The loop's invariant: the word, with the bytes that are left, has the
-- remainder of the first word with all of them.
-- Assumes nothing.
use mathlib.Core.Path.{◌≡◌}
use Prim.Native.Nat.{◌+◌, ◌*◌, ◌%◌}
use lib.ListN.{length, drop}
use Rattle.pec.specs.Remainder.{pec_from}
use Rattle.pec.specs.Words.{word_pec}
use Rattle.pec.proofs.word.behind.Given as goal

abbrev pub invariant-loop-eight : goal.invariant-loop-eight
invariant-loop-eight l =
    pec_from (word_pec l.all) (drop (length l.s % 8 + l.eight-index * 8) l.s) ≡ pec_from (word_pec l.w) l.s
