-- The good frame of document 01, "Numbers to check", read and written by computation.
-- Assumes nothing.
use mathlib.Core.Path.{◌≡◌, refl, ap, ◌∙◌}
use mathlib.Core.List.{List, [], ◌∷◌, ◌++◌}
use Prim.Native.Nat.{ℕ, ◌≤◌}
use native.Mathlib.Omega.{arith}
use lib.ListN.{length, drop, replicate}
use Rattle.octets.specs.Bytes.{fronted}
use Rattle.pec.specs.Remainder.{poly_step, eight_steps, byte_step, pec_from, pec_of}
use Rattle.smbus.specs.Layout.{head_of, covered_of, frame_of}
use Rattle.smbus.specs.Reading.{end_of, before_end, refusal_of, part_of, packet_of, source_address_of}
use Rattle.smbus.specs.Writing.{write_refusal, size_of, written_of}
use Rattle.smbus.proofs.Writings.{good_number}
use Rattle.smbus.proofs.Answers.{output_written_lem}

-- `40 0F 06 23 01 09 0A C8 00 71`
abbrev pub literal_frame : List ℕ
literal_frame = 64 ∷ 15 ∷ 6 ∷ 35 ∷ 1 ∷ 9 ∷ 10 ∷ 200 ∷ 0 ∷ 113 ∷ []

-- `01 09 0A C8 00`
abbrev pub literal_packet : List ℕ
literal_packet = 1 ∷ 9 ∷ 10 ∷ 200 ∷ 0 ∷ []

-- "is a good frame for address 0x20"
pub literal_good : refusal_of 64 literal_frame 32 ≡ 0
unfolding refusal_of end_of before_end pec_of pec_from byte_step eight_steps poly_step
literal_good = refl

pub literal_packet_lem : packet_of 64 literal_frame 32 ≡ literal_packet
unfolding packet_of part_of refusal_of end_of before_end pec_of pec_from byte_step eight_steps poly_step
literal_packet_lem = refl

-- 0x11
pub literal_source : source_address_of 64 literal_frame 32 ≡ 17
unfolding source_address_of refusal_of end_of before_end pec_of pec_from byte_step eight_steps poly_step
literal_source = refl

-- written from 0x11 to 0x20 it is that frame
pub literal_frame_lem : frame_of 32 17 literal_packet ≡ literal_frame
unfolding frame_of covered_of head_of pec_of pec_from byte_step eight_steps poly_step
literal_frame_lem = refl

pub literal_number : (room : ℕ) → 10 ≤ room → write_refusal 64 room 5 32 17 ≡ 0
literal_number room h = good_number 64 room 5 32 17 (omega arith)

pub literal_size : (room : ℕ) → 10 ≤ room → size_of 64 room 5 32 17 ≡ 10
unfolding size_of
literal_size room h = rw (literal_number room h)

pub literal_output : (out : List ℕ) → 10 ≤ length out
    → written_of 64 out literal_packet 32 17 ≡ literal_frame ++ drop 10 out
unfolding fronted
literal_output out h =
    output_written_lem 64 out literal_packet 32 17 (literal_number (length out) h) ∙ ap (fronted out) literal_frame_lem

-- the limits of the checks: "own address over 127", "frame not 10 to 73 bytes", "packet size"
pub record Limits : Type 0 where
  pub own_127 : refusal_of 64 (frame_of 127 17 literal_packet) 127 ≡ 0
  pub bytes_9 : refusal_of 64 (replicate 9 0) 32 ≡ 3
  pub bytes_10 : refusal_of 64 (replicate 10 0) 32 ≡ 4
  pub bytes_73 : refusal_of 64 (replicate 73 0) 32 ≡ 4
  pub bytes_74 : refusal_of 64 (replicate 74 0) 32 ≡ 3
  pub addresses_127 : write_refusal 64 10 5 127 127 ≡ 0
  pub packet_68 : write_refusal 64 73 68 32 17 ≡ 0
  pub packet_69 : write_refusal 64 74 69 32 17 ≡ 3

pub limits : Limits
unfolding refusal_of write_refusal end_of before_end frame_of covered_of head_of pec_of pec_from byte_step eight_steps
    poly_step
limits =
    record {
      own_127 = refl;
      bytes_9 = refl;
      bytes_10 = refl;
      bytes_73 = refl;
      bytes_74 = refl;
      addresses_127 = refl;
      packet_68 = refl;
      packet_69 = refl;
    }
