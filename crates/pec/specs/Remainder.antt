-- The PEC, the check byte of an SMBus frame, from its polynomial alone: bit by bit, with no table. Document 01, "SMBus
-- frame".
-- Assumes nothing.
use mathlib.Core.List.{List, foldl}
use Rattle.std.specs.Prelude.{ℕ, ◌*◌, ◌/◌, ◌%◌}
use Rattle.std.specs.Int.Bits.{bit_xor}

-- "polynomial x^8 + x^2 + x + 1": what it has below x^8, a bit for each term.
abbrev pub low_terms : ℕ
low_terms = 7

-- One bit of the division: the remainder moves up by one bit, and where an x^8 falls out, the low terms take its place.
unfoldable pub poly_step : ℕ → ℕ
poly_step r = bit_xor (r * 2 % 256) (r / 128 % 2 * low_terms)

-- "highest bit of each byte first"
-- The eight bits of a byte that stands in the remainder: a step takes the highest bit out.
unfoldable pub eight_steps : ℕ → ℕ
eight_steps r = poly_step (poly_step (poly_step (poly_step (poly_step (poly_step (poly_step (poly_step r)))))))

-- A byte b comes to the remainder r.
unfoldable pub byte_step : ℕ → ℕ → ℕ
byte_step r b = eight_steps (bit_xor r b)

-- The bytes s come to the remainder r, in order.
unfoldable pub pec_from : ℕ → List ℕ → ℕ
pec_from r s = foldl byte_step r s

-- "The PEC is the remainder of all bytes before it: .. start 0, .. nothing inverted."
unfoldable pub pec_of : List ℕ → ℕ
pec_of s = pec_from 0 s
