-- The remainder: what a step makes of its outermost bits; it stays a byte, and it is worked out part by part.
-- Assumes nothing.
use mathlib.Core.Path.{◌≡◌, refl}
use mathlib.Core.List.{List, [], ◌∷◌, ◌++◌, foldl-append}
use Prim.Native.Nat.{ℕ, ◌*◌, ◌/◌, ◌%◌, ◌<◌}
use native.Mathlib.Omega.{arith}
use lib.Bits.{xor_lt}
use lib.Dec.{lit<}
use Rattle.pec.specs.Remainder.{low_terms, poly_step, eight_steps, byte_step, pec_from, pec_of}

-- "highest bit of each byte first": bit 7 falls out and leaves the low terms, bit 0 moves up.
pub highest_first : (poly_step 0x80 ≡ 0x07) × (poly_step 0x01 ≡ 0x02)
unfolding poly_step
highest_first = (refl, refl)

pub poly_byte : (r : ℕ) → poly_step r < 256
unfolding poly_step
poly_byte r = xor_lt 8 (r * 2 % 256) (r / 128 % 2 * low_terms) (omega arith) (omega arith)

pub eight_byte : (r : ℕ) → eight_steps r < 256
unfolding eight_steps
eight_byte r = poly_byte _

byte_byte : (r b : ℕ) → byte_step r b < 256
unfolding byte_step
byte_byte r b = eight_byte _

from_byte : (r : ℕ) (s : List ℕ) → r < 256 → pec_from r s < 256
unfolding pec_from
from_byte r [] h = h
from_byte r (b ∷ s) h = from_byte (byte_step r b) s (byte_byte r b)

-- The PEC is a byte.
pub pec_byte : (s : List ℕ) → pec_of s < 256
unfolding pec_of
pec_byte s = from_byte 0 s (lit< tt)

-- The PEC of a list that goes on.
pub pec_append : (s t : List ℕ) → pec_of (s ++ t) ≡ pec_from (pec_of s) t
unfolding pec_of pec_from
pec_append s t = foldl-append byte_step 0 s t

pub pec_last : (s : List ℕ) (b : ℕ) → pec_of (s ++ (b ∷ [])) ≡ byte_step (pec_of s) b
unfolding pec_from
pec_last s b = pec_append s (b ∷ [])
