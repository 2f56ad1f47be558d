-- The order of the checks on literal bytes: where two neighbouring checks both fail, the earlier one gives the number.
-- Assumes nothing.
use mathlib.Core.Path.{◌≡◌, refl}
use mathlib.Core.List.{List, [], ◌∷◌}
use Prim.Native.Nat.{ℕ}
use Rattle.pec.specs.Remainder.{poly_step, eight_steps, byte_step, pec_from, pec_of}
use Rattle.smbus.specs.Reading.{end_of, before_end, refusal_of}
use Rattle.smbus.specs.Writing.{write_refusal}

-- document 01's frame with another head: the PEC is then wrong as well
abbrev headed : ℕ → ℕ → ℕ → ℕ → List ℕ
headed destination command count source =
    destination ∷ command ∷ count ∷ source ∷ 0x01 ∷ 0x09 ∷ 0x0A ∷ 0xC8 ∷ 0x00 ∷ 0x71 ∷ []

-- "Check order, reading: 1 (own address over 127), 3 (frame not 10 to 73 bytes), 4 (bit 0 set, or not ours),
-- 5 (byte 1), 6 (count + 4 not the frame's length), 7 (bit 0 of byte 3 clear), 8."
pub record Reading : Type 0 where
  pub body_own : refusal_of 63 [] 128 ≡ 1
  pub own_three : refusal_of 64 [] 128 ≡ 1
  pub three_bit : refusal_of 64 (0x43 ∷ []) 32 ≡ 3
  pub bit_ours : refusal_of 64 (headed 0x43 0x0F 0x06 0x23) 32 ≡ 4
  pub bit_five : refusal_of 64 (headed 0x41 0x0E 0x06 0x23) 32 ≡ 4
  pub ours_five : refusal_of 64 (headed 0x42 0x0E 0x06 0x23) 32 ≡ 4
  pub five_six : refusal_of 64 (headed 0x40 0x0E 0x07 0x23) 32 ≡ 5
  pub six_seven : refusal_of 64 (headed 0x40 0x0F 0x07 0x22) 32 ≡ 6
  pub seven_eight : refusal_of 64 (headed 0x40 0x0F 0x06 0x22) 32 ≡ 7
  pub eight : refusal_of 64 (headed 0x40 0x0F 0x06 0x25) 32 ≡ 8

pub reading : Reading
unfolding refusal_of end_of before_end pec_of pec_from byte_step eight_steps poly_step
reading =
    record {
      body_own = refl;
      own_three = refl;
      three_bit = refl;
      bit_ours = refl;
      bit_five = refl;
      ours_five = refl;
      five_six = refl;
      six_seven = refl;
      seven_eight = refl;
      eight = refl;
    }

-- "Writing: 1 (either address over 127), 3 (packet size), 2 (output shorter than the frame)."
pub record Writing : Type 0 where
  pub body_to : write_refusal 63 0 4 128 128 ≡ 1
  pub to_by : write_refusal 64 0 4 128 128 ≡ 1
  pub to_three : write_refusal 64 0 4 128 17 ≡ 1
  pub by_three : write_refusal 64 0 4 32 128 ≡ 1
  pub three_two : write_refusal 64 0 4 32 17 ≡ 3
  pub two : write_refusal 64 9 5 32 17 ≡ 2

pub writing : Writing
unfolding write_refusal
writing =
    record { body_to = refl; to_by = refl; to_three = refl; by_three = refl; three_two = refl; two = refl }
