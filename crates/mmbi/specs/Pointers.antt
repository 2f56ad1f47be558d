-- Which lengths a ring may have, and which numbers are pointers into it (document 01, "MMBI descriptor, state and
-- ring").
-- Assumes nothing.
use Rattle.std.specs.Prelude.{ℕ, ◌%◌, Bool, ◌&&◌, ltb, eqb}
use Rattle.octets.specs.Choice.{within}

-- "each ring length is a multiple of 4 from 128 to 65,536 (house rule)"
abbrev pub length_right : ℕ → Bool
length_right length = within 128 65536 length && eqb (length % 4) 0

-- "Pointers are byte offsets, multiples of 4"; 12: "not a multiple of 4, or not below the length"
abbrev pub pointer_right : ℕ → ℕ → Bool
pointer_right length pointer = eqb (pointer % 4) 0 && ltb pointer length
