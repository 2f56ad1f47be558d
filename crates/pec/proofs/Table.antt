-- The table's rule at each entry, from the one test over the whole table.
-- Assumes nothing.
use mathlib.Core.Path.{◌≡◌, ◌∙◌}
use mathlib.Core.List.{List, [], ◌∷◌}
use Prim.Native.Nat.{ℕ, zero, suc, ◌+◌, ◌<◌}
use native.Mathlib.Nat.{add-zero, zero-add, add-suc, suc-add, le_of_suc-le-suc, not-suc-le-zero}
use lib.Dec.{T, eqb, eqb→eq}
use lib.ListN.{length, get_or}
use Rattle.pec.specs.Remainder.{eight_steps}
use Rattle.pec.specs.Table.{entries_right, table_test}
use Rattle.pec.proofs.Tests.{both}

entry_from : (xs : List ℕ) (i : ℕ) → T (entries_right i xs) → (k : ℕ) → k < length xs
    → get_or xs k 0 ≡ eight_steps (i + k)
entry_from [] i t k h = absurd (not-suc-le-zero h)
entry_from (x ∷ xs) i t zero h =
    rw add-zero (eqb→eq x (eight_steps i) (both (eqb x (eight_steps i)) (entries_right (suc i) xs) t).0)
entry_from (x ∷ xs) i t (suc k) h =
    entry_from xs (suc i) (both (eqb x (eight_steps i)) (entries_right (suc i) xs) t).1 k (le_of_suc-le-suc h)
    ∙ rw (suc-add, add-suc)

pub entry : (table : List ℕ) → T (table_test table) → (k : ℕ) → k < length table → get_or table k 0 ≡ eight_steps k
entry table t k h = entry_from table 0 t k h ∙ rw zero-add
