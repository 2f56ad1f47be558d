-- `pec::lookup::remainder` meets its contract: the two entries that are read.
-- Assumes nothing.
use mathlib.Core.Path.{◌≡◌, ap, ap₂, ◌∙◌}
use mathlib.Core.List.{List, [], ◌∷◌}
use Prim.Native.Nat.{ℕ, ◌/◌, ◌%◌, ◌<◌}
use native.Mathlib.Omega.{arith}
use lib.Bits.{bit_xor, xor_lt}
use lib.Dec.{T}
use lib.ListN.{length, get_or}
use Rattle.pec.specs.Remainder.{eight_steps}
use Rattle.pec.specs.Table.{table_test}
use Rattle.pec.specs.Words.{word_pec}
use Rattle.pec.proofs.Fold.{eight_byte}
use Rattle.pec.proofs.Table.{entry}
use Rattle.pec.proofs.Words.{two_entries}
use Rattle.pec.proofs.lookup.remainder.Goals as goal

-- the upper of the two bytes gives the place i, what stands there and the lower one the place j
module _ (table bytes : List ℕ) (two i j : ℕ) (test : T (table_test table)) (size : length table ≡ 256)
    (few : two < 65536) (halves : bytes ≡ two / 256 % 256 ∷ two % 256 ∷ []) (first : i ≡ get_or bytes 0 0)
    (second : j ≡ bit_xor (get_or table i 0) (get_or bytes 1 0)) where
  rule : (k : ℕ) → k < 256 → get_or table k 0 ≡ eight_steps k
  rule k h = entry table test k (omega arith)

  high : i ≡ two / 256
  high =
      let upper : get_or bytes 0 0 ≡ two / 256 % 256 = ap (λ (l : List ℕ). get_or l 0 0) halves in
      omega arith

  place : j ≡ bit_xor (eight_steps (two / 256)) (two % 256)
  place =
      second
      ∙ ap₂ bit_xor (rule i (omega (arith, high)) ∙ ap eight_steps high) (ap (λ (l : List ℕ). get_or l 1 0) halves)

  inside : j < 256
  inside = rw place (xor_lt 8 (eight_steps (two / 256)) (two % 256) (eight_byte (two / 256)) (omega arith))

  read : get_or table j 0 ≡ word_pec two
  read = rule j inside ∙ ap eight_steps place ∙ two_entries two few

pub bounds-table-from-2 : goal.bounds-table-from-2
bounds-table-from-2 c =
    inside _ _ c.folded.result _ _ c.remainders-table.ensures
    (omega (arith, c.remainders-table.type_inv)) c.folded.type_inv
    c.to_be_bytes.ensures c.from.ensures c.from-2.ensures

pub returns : goal.returns
returns c =
    read _ _ c.folded.result _ _ c.remainders-table.ensures
    (omega (arith, c.remainders-table.type_inv)) c.folded.type_inv
    c.to_be_bytes.ensures c.from.ensures c.from-2.ensures
    ∙ c.folded.ensures
