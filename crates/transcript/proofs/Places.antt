-- No whole record at a place: no frame is left from there on.
-- Assumes nothing.
use mathlib.Core.Path.{◌≡◌, refl}
use mathlib.Core.List.{List, []}
use Prim.Native.Nat.{ℕ}
use lib.ListN.{drop}
use Rattle.records.specs.declared.record.Record.{Record}
use Rattle.records.specs.declared.record.Record.TheVariants.{Whole, Cut, End}
use Rattle.records.specs.Record.{record_at, records_of}
use Rattle.records.proofs.Walks.{walk_at_end, walk_at_cut}

-- any answer but the first kind
pub no_whole : (input : List ℕ) (at : ℕ) (r : Record) → ((start size : ℕ) → r ≡ Whole start size → ⊥)
    → record_at input at ≡ r
    → records_of (drop at input) ≡ []
no_whole input at (Whole start size) other e = absurd (other start size refl)
no_whole input at Cut other e = walk_at_cut input at e
no_whole input at End other e = walk_at_end input at e
