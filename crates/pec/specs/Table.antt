-- The test of the remainder table, which antt computes over the whole of it. Document 01, "Some places and their
-- forms".
-- Assumes nothing.
use Rattle.std.specs.Prelude.{Bool, true, ◌&&◌, List, [], ◌∷◌, ℕ, suc, eqb}
use Rattle.pec.specs.Remainder.{eight_steps}

-- The entries, the first of which stands at place i, are each eight polynomial steps from their place.
abbrev pub entries_right : ℕ → List ℕ → Bool
entries_right i [] = true
entries_right i (x ∷ xs) = eqb x (eight_steps i) && entries_right (suc i) xs

-- "a single computed test ties each entry to eight polynomial steps"
abbrev pub table_test : List ℕ → Bool
table_test table = entries_right 0 table
