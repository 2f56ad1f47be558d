-- The order of the refusals on literal numbers: where two neighbouring checks both fail, the earlier one gives the
-- number. "1 for a number out of range, then 3 for the message, then 23 for k past the end, then the carrier's own, or
-- 2 for a bare packet's output"
-- Assumes nothing.
use mathlib.Core.Path.{◌≡◌, refl}
use mathlib.Core.Bool.{true}
use mathlib.Core.List.{[], ◌∷◌}
use Rattle.mctp.specs.Key.{header_bytes}
use Rattle.smbus.specs.Writing as frames
use Rattle.pcc.specs.Writing as regions
use Rattle.mmbi.specs.Interface.{normal_runtime, state_of}
use Rattle.ring.specs.Writing as rings
use Rattle.sender.specs.Cutting.{packet_at, count_refusal, cut_refusal}
use Rattle.sender.specs.Sending.{output_refusal, smbus_refusal, pcc_refusal, ring_entered}
use Rattle.sender.proofs.Literal.{headed, answering}

-- "1 .., then 3 .., then 23"
pub record Cutting : Type 0 where
  pub body_heading : cut_refusal 63 (headed 9 10 true 8 3) 1 0 ≡ 1
  pub body_message : count_refusal 63 0 ≡ 1
  pub heading_message : cut_refusal 64 (headed 9 10 true 8 3) 0 0 ≡ 1
  pub message_end : cut_refusal 64 answering 1025 17 ≡ 3
  pub empty_end : cut_refusal 64 answering 0 0 ≡ 3
  pub end : cut_refusal 64 answering 1 1 ≡ 23

pub cutting : Cutting
unfolding count_refusal cut_refusal
cutting =
    record {
      body_heading = refl;
      body_message = refl;
      heading_message = refl;
      message_end = refl;
      empty_end = refl;
      end = refl;
    }

-- ", then the carrier's own", of which 1 comes here too, "or 2 for a bare packet's output"
pub record Sending : Type 0 where
  pub end_output : output_refusal 64 answering (0 ∷ []) 1 0 ≡ 23
  pub output : output_refusal 64 answering (0 ∷ []) 0 4 ≡ 2
  pub end_smbus : smbus_refusal 64 answering (0 ∷ []) 1 0 128 128 ≡ 23
  pub smbus : smbus_refusal 64 answering (0 ∷ []) 0 0 128 17 ≡ 1
  pub smbus_room : smbus_refusal 64 answering (0 ∷ []) 0 9 32 17 ≡ 2
  pub end_pcc : pcc_refusal 64 answering (0 ∷ []) 1 0 256 ≡ 23
  pub pcc : pcc_refusal 64 answering (0 ∷ []) 0 0 256 ≡ 1
  pub end_ring : ring_entered 64 answering (0 ∷ []) 1 127 127 normal_runtime (record { read = 1; write = 1 })
      ≡ rings.refused 23
  pub ring : ring_entered 64 answering (0 ∷ []) 0 127 127 normal_runtime (record { read = 1; write = 1 })
      ≡ rings.refused 1
  pub ring_pointer : ring_entered 64 answering (0 ∷ []) 0 128 128 normal_runtime (record { read = 1; write = 1 })
      ≡ rings.refused 12

pub sending : Sending
unfolding output_refusal smbus_refusal pcc_refusal ring_entered cut_refusal packet_at header_bytes frames.write_refusal
    regions.write_refusal rings.entered_of state_of
sending =
    record {
      end_output = refl;
      output = refl;
      end_smbus = refl;
      smbus = refl;
      smbus_room = refl;
      end_pcc = refl;
      pcc = refl;
      end_ring = refl;
      ring = refl;
      ring_pointer = refl;
    }
