-- What the rules on wrong bits don't cover: two good frames at one address that differ in two bits, 127 places apart.
-- Assumes nothing.
use mathlib.Core.Path.{◌≡◌, refl}
use mathlib.Core.List.{List, [], ◌∷◌}
use Prim.Native.Nat.{ℕ, ◌+◌}
use lib.ListN.{length, get_or}
use Rattle.pec.specs.Remainder.{poly_step, eight_steps, byte_step, pec_from, pec_of}
use Rattle.pec.specs.Wire.{bits_of, wire, differences}
use Rattle.smbus.specs.Reading.{end_of, before_end, refusal_of}

-- a frame of 26 bytes, whose body of 17 is zeros,
abbrev pub zero_body : List ℕ
zero_body =
    0x40 ∷ 0x0F ∷ 0x16 ∷ 0x23 ∷ 0x01 ∷ 0x09 ∷ 0x0A ∷ 0xC8 ∷ 0x00
    ∷ 0x00 ∷ 0x00 ∷ 0x00 ∷ 0x00 ∷ 0x00 ∷ 0x00 ∷ 0x00 ∷ 0x00 ∷ 0x00 ∷ 0x00 ∷ 0x00 ∷ 0x00 ∷ 0x00 ∷ 0x00 ∷ 0x00 ∷ 0x00
    ∷ 0x43 ∷ []

-- and the same with the first bit of its byte 9 and the last bit of its byte 24 set: the PEC is the same
abbrev pub two_bits : List ℕ
two_bits =
    0x40 ∷ 0x0F ∷ 0x16 ∷ 0x23 ∷ 0x01 ∷ 0x09 ∷ 0x0A ∷ 0xC8 ∷ 0x00
    ∷ 0x80 ∷ 0x00 ∷ 0x00 ∷ 0x00 ∷ 0x00 ∷ 0x00 ∷ 0x00 ∷ 0x00 ∷ 0x00 ∷ 0x00 ∷ 0x00 ∷ 0x00 ∷ 0x00 ∷ 0x00 ∷ 0x00 ∷ 0x01
    ∷ 0x43 ∷ []

-- Both lie behind byte 3, whose bits end at place 31. The polynomial divides x^127 + 1, so the PEC stays as it is.
pub record TwoPass : Type 0 where
  pub one-length : length zero_body ≡ 26
  pub other_length : length two_bits ≡ 26
  pub one_good : refusal_of 64 zero_body 32 ≡ 0
  pub other_good : refusal_of 64 two_bits 32 ≡ 0
  pub two : differences (wire zero_body) (wire two_bits) ≡ 2
  pub first : get_or (wire two_bits) 72 0 ≡ 1 + get_or (wire zero_body) 72 0
  pub second : get_or (wire two_bits) (72 + 127) 0 ≡ 1 + get_or (wire zero_body) (72 + 127) 0

pub two_pass : TwoPass
unfolding refusal_of end_of before_end pec_of pec_from byte_step eight_steps poly_step differences wire bits_of
two_pass =
    record {
      one-length = refl;
      other_length = refl;
      one_good = refl;
      other_good = refl;
      two = refl;
      first = refl;
      second = refl;
    }
