-- A ring's length and a pointer into it, as numbers.
-- Assumes nothing.
use mathlib.Core.Path.{◌≡◌}
use mathlib.Core.Bool.{true}
use Prim.Native.Nat.{ℕ, ◌%◌, ◌≤◌, ◌<◌}
use borrow.Author.Tests.{eqb-true, ltb-true, eq-eqb, lt-ltb}
use lib.Dec.{ltb, eqb}
use Rattle.octets.specs.Choice.{within}
use Rattle.octets.proofs.Choice.{both, within_bounds, within_holds}
use Rattle.mmbi.specs.Pointers.{length_right, pointer_right}

-- a length inside the rule
pub record Length (length : ℕ) : Type 0 where
  pub low : 128 ≤ length
  pub high : length ≤ 65536
  pub fours : length % 4 ≡ 0

pub length_facts : (length : ℕ) → length_right length ≡ true → Length length
length_facts length e =
    let h = both (within 128 65536 length) (eqb (length % 4) 0) e in
    let b = within_bounds 128 65536 length h.0 in
    record { low = b.0; high = b.1; fours = eqb-true (length % 4) 0 h.1 }

pub length_holds : (length : ℕ) → Length length → length_right length ≡ true
length_holds length h = rw (within_holds 128 65536 length h.low h.high, eq-eqb (length % 4) 0 h.fours)

-- what 12 lets through
pub record Pointer (length pointer : ℕ) : Type 0 where
  pub fours : pointer % 4 ≡ 0
  pub below : pointer < length

pub pointer_facts : (length pointer : ℕ) → pointer_right length pointer ≡ true → Pointer length pointer
pointer_facts length pointer e =
    let h = both (eqb (pointer % 4) 0) (ltb pointer length) e in
    record { fours = eqb-true (pointer % 4) 0 h.0; below = ltb-true pointer length h.1 }

pub pointer_holds : (length pointer : ℕ) → Pointer length pointer → pointer_right length pointer ≡ true
pointer_holds length pointer h = rw (eq-eqb (pointer % 4) 0 h.fours, lt-ltb pointer length h.below)
