-- What is written reads back: every packet has a good frame, and a frame gives the packet, the sender and the number 0
-- at its destination.
-- Assumes nothing.
use mathlib.Core.Path.{◌≡◌, ap, ◌∙◌}
use mathlib.Core.List.{List, [], ◌∷◌}
use Prim.Native.Nat.{ℕ, ◌+◌, ◌-◌, ◌/◌, ◌≤◌}
use native.Mathlib.Omega.{arith}
use lib.ListN.{length, get_or, take}
use lib.Seq.{take_at}
use Rattle.octets.specs.Bytes.{fronted}
use Rattle.pec.specs.Remainder.{pec_of}
use Rattle.pec.proofs.Checks.{checked_made, checked_last}
use Rattle.smbus.specs.Layout.{head_of, covered_of, frame_of}
use Rattle.smbus.specs.Reading.{end_of, before_end, refusal_of, part_of, packet_of, source_address_of}
use Rattle.smbus.specs.Writing.{frame_size, write_refusal, written_of}
use Rattle.smbus.proofs.Framing.{frame-length}
use Rattle.smbus.proofs.Readings.{Good, good_number}
use Rattle.smbus.proofs.Writings.{good}
use Rattle.smbus.proofs.Answers.{good_packet, good_source, output_written_lem}

module _ (most destination source : ℕ) (packet : List ℕ) where
  abbrev frame : List ℕ
  frame = frame_of destination source packet

  part_frame : part_of frame ≡ packet
  unfolding part_of frame_of covered_of head_of
  part_frame =
      let end = pec_of (covered_of destination source packet) ∷ [] in
      take_at packet end (length frame - 5) (omega (arith, frame-length destination source packet))

  source_frame : get_or frame 3 0 / 2 ≡ source
  unfolding frame_of covered_of head_of
  source_frame = omega arith

  module _ (least : 64 ≤ most) (largest : most ≤ 246) (to : destination ≤ 127) (short : 5 ≤ length packet)
      (long : length packet ≤ 4 + most) where
    -- "Every packet of 5 to 68 bytes has a good arrival": its frame, at its destination.
    pub frame_good : Good most frame destination
    unfolding frame_of covered_of head_of end_of before_end
    frame_good =
        let size : length frame ≡ 5 + length packet = frame-length destination source packet in
        let checked : end_of frame ≡ pec_of (before_end frame) =
        checked_last frame (checked_made (covered_of destination source packet)) in
        omega arith

    pub frame_number : refusal_of most frame destination ≡ 0
    frame_number = good_number most frame destination frame_good

    pub frame_packet : packet_of most frame destination ≡ packet
    frame_packet = good_packet most frame destination frame_number ∙ part_frame

    pub frame_source : source_address_of most frame destination ≡ source
    frame_source = good_source most frame destination frame_number ∙ source_frame

    frame_read : (refusal_of most frame destination ≡ 0) × (packet_of most frame destination ≡ packet)
        × (source_address_of most frame destination ≡ source)
    frame_read = (frame_number, frame_packet, frame_source)

-- A written frame, taken from the output's front and read at its destination, gives the packet, the sender and the
-- number 0.
module _ (most : ℕ) (out packet : List ℕ) (destination source : ℕ)
    (e : write_refusal most (length out) (length packet) destination source ≡ 0) where
  abbrev written : List ℕ
  written = take (frame_size (length packet)) (written_of most out packet destination source)

  pub written_frame : written ≡ frame_of destination source packet
  unfolding fronted
  written_frame =
      ap (take (5 + length packet)) (output_written_lem most out packet destination source e)
      ∙ take_at (frame_of destination source packet) _ (5 + length packet) (frame-length destination source packet)

  read_back : (refusal_of most written destination ≡ 0) × (packet_of most written destination ≡ packet)
      × (source_address_of most written destination ≡ source)
  read_back =
      let g = good most (length out) (length packet) destination source e in
      rw written_frame (frame_read most destination source packet g.least g.largest g.to g.short g.long)

  pub back_number : refusal_of most written destination ≡ 0
  back_number = read_back.0

  pub back_packet : packet_of most written destination ≡ packet
  back_packet = read_back.1

  pub back_source : source_address_of most written destination ≡ source
  back_source = read_back.2
