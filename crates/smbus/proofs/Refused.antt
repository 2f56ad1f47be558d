-- What stands beside each number: a refused frame has no part and no sender, a refused write has no length and leaves
-- the output; since a definition and its code could be wrong alike.
-- Assumes nothing.
use mathlib.Core.Path.{◌≡◌, refl}
use mathlib.Core.List.{List, [], ◌∷◌, ◌++◌, map}
use Prim.Native.Nat.{ℕ}
use lib.ListN.{length, take, set, replicate}
use Rattle.octets.specs.Bytes.{fronted}
use Rattle.mctp.specs.declared.refusal.Refusal.TheVariants.{Room, Pec}
use Rattle.pec.specs.Remainder.{poly_step, eight_steps, byte_step, pec_from, pec_of}
use Rattle.std.proofs.Common.{Ok, Err}
use Rattle.smbus.specs.Answers.{number_read, source_read, number_written, size_written}
use Rattle.smbus.specs.Layout.{head_of, covered_of, frame_of}
use Rattle.smbus.specs.Reading.{end_of, before_end, refusal_of, part_of, packet_of, source_address_of}
use Rattle.smbus.specs.Writing.{write_refusal, size_of, written_of}
use Rattle.smbus.proofs.Literal.{literal_frame, literal_packet}

-- what reading gives: the number, the packet, the sender
record FrameRead : Type 0 where
  number : ℕ
  packet : List ℕ
  source : ℕ

abbrev read_as : ℕ → List ℕ → ℕ → FrameRead
read_as most frame own =
    record {
      number = refusal_of most frame own;
      packet = packet_of most frame own;
      source = source_address_of most frame own;
    }

abbrev none : ℕ → FrameRead
none n = record { number = n; packet = []; source = 0 }

abbrev whole : FrameRead
whole = record { number = 0; packet = literal_packet; source = 17 }

-- 1: a largest body of 63 and of 247, and own addresses from 128 on; 0: the bodies between, and address 32
pub refused_setups :
    map (λ (most : ℕ). read_as most literal_frame 32) (63 ∷ 64 ∷ 246 ∷ 247 ∷ [])
    ++ map (read_as 64 literal_frame) (128 ∷ 160 ∷ 255 ∷ [])
    ≡ none 1 ∷ whole ∷ whole ∷ none 1 ∷ replicate 3 (none 1)
unfolding refusal_of packet_of part_of source_address_of end_of before_end pec_of pec_from byte_step eight_steps
    poly_step
refused_setups = refl

-- 3: document 01's frame cut to no byte, to four, to nine, and made longer than 73
pub refused_sizes :
    map (λ (n : ℕ). read_as 64 (take n literal_frame) 32) (0 ∷ 4 ∷ 9 ∷ 10 ∷ [])
    ++ map (λ (n : ℕ). read_as 64 (literal_frame ++ replicate n 0) 32) (64 ∷ 246 ∷ [])
    ≡ none 3 ∷ none 3 ∷ none 3 ∷ whole ∷ none 3 ∷ none 3 ∷ []
unfolding refusal_of packet_of part_of source_address_of end_of before_end pec_of pec_from byte_step eight_steps
    poly_step
refused_sizes = refl

-- and for a largest body of 246: frames of 255 and of 256 bytes
pub refused_long : map (λ (n : ℕ). refusal_of 246 (replicate n 0) 32) (9 ∷ 10 ∷ 255 ∷ 256 ∷ []) ≡ 3 ∷ 4 ∷ 4 ∷ 3 ∷ []
unfolding refusal_of
refused_long = refl

-- 4, by the first byte: bit 0 set, another address, 0
pub refused_addresses :
    map (λ (b : ℕ). read_as 64 (set literal_frame 0 b) 32) (0x41 ∷ 0x42 ∷ 0x3E ∷ 0xC0 ∷ 0 ∷ []) ≡ replicate 5 (none 4)
unfolding refusal_of packet_of part_of source_address_of end_of before_end pec_of pec_from byte_step eight_steps
    poly_step
refused_addresses = refl

-- 5, by the second, 6, by the third, 7, by the fourth
pub refused_heads :
    map (λ (b : ℕ). read_as 64 (set literal_frame 1 b) 32) (0 ∷ 0x0E ∷ 0x10 ∷ 0x8F ∷ [])
    ++ map (λ (b : ℕ). read_as 64 (set literal_frame 2 b) 32) (0 ∷ 5 ∷ 7 ∷ 10 ∷ 0x86 ∷ [])
    ++ map (λ (b : ℕ). read_as 64 (set literal_frame 3 b) 32) (0x22 ∷ 0x24 ∷ 0xFE ∷ [])
    ≡ replicate 4 (none 5) ++ replicate 5 (none 6) ++ replicate 3 (none 7)
unfolding refusal_of packet_of part_of source_address_of end_of before_end pec_of pec_from byte_step eight_steps
    poly_step
refused_heads = refl

-- 8: another PEC, another sender, another byte of the packet
pub refused_pecs :
    read_as 64 (set literal_frame 9 0x70) 32
    ∷ read_as 64 (set literal_frame 9 0xF1) 32
    ∷ read_as 64 (set literal_frame 3 0x25) 32
    ∷ read_as 64 (set literal_frame 8 1) 32
    ∷ []
    ≡ replicate 4 (none 8)
unfolding refusal_of packet_of part_of source_address_of end_of before_end pec_of pec_from byte_step eight_steps
    poly_step
refused_pecs = refl

-- `part` alone asks no check: what stands behind the head and before the PEC of any frame, in the shortest ones nothing
pub parts :
    map (λ (n : ℕ). part_of (take n literal_frame)) (0 ∷ 4 ∷ 5 ∷ 6 ∷ 9 ∷ 10 ∷ [])
    ≡ [] ∷ [] ∷ [] ∷ (1 ∷ []) ∷ (1 ∷ 9 ∷ 10 ∷ 200 ∷ []) ∷ literal_packet ∷ []
unfolding part_of
parts = refl

-- what writing gives: the number, the frame's length, the output
record FrameWritten : Type 0 where
  number : ℕ
  size : ℕ
  output : List ℕ

abbrev wrote_as : ℕ → ℕ → List ℕ → ℕ → ℕ → FrameWritten
wrote_as most room packet destination source =
    record {
      number = write_refusal most room (length packet) destination source;
      size = size_of most room (length packet) destination source;
      output = written_of most (replicate room 238) packet destination source;
    }

abbrev left : ℕ → ℕ → FrameWritten
left n room = record { number = n; size = 0; output = replicate room 238 }

abbrev sent : ℕ → FrameWritten
sent rest = record { number = 0; size = 10; output = literal_frame ++ replicate rest 238 }

-- 1: the largest body, either address
pub unwritten_setups :
    map (λ (most : ℕ). wrote_as most 12 literal_packet 32 17) (63 ∷ 64 ∷ 246 ∷ 247 ∷ [])
    ++ map (λ (to : ℕ). wrote_as 64 12 literal_packet to 17) (128 ∷ 255 ∷ [])
    ++ map (wrote_as 64 12 literal_packet 32) (128 ∷ 255 ∷ [])
    ≡ (left 1 12 ∷ sent 2 ∷ sent 2 ∷ left 1 12 ∷ []) ++ replicate 4 (left 1 12)
unfolding write_refusal size_of written_of fronted frame_of covered_of head_of pec_of pec_from byte_step eight_steps
    poly_step
unwritten_setups = refl

-- 3: packets of 0, 4 and 69 bytes; 2: an output of 0 and of 9 bytes, where the frame has 10
pub unwritten_sizes :
    map (λ (n : ℕ). wrote_as 64 80 (replicate n 1) 32 17) (0 ∷ 4 ∷ 69 ∷ [])
    ++ map (λ (room : ℕ). wrote_as 64 room literal_packet 32 17) (0 ∷ 9 ∷ 10 ∷ 11 ∷ [])
    ≡ replicate 3 (left 3 80) ++ (left 2 0 ∷ left 2 9 ∷ sent 0 ∷ sent 1 ∷ [])
unfolding write_refusal size_of written_of fronted frame_of covered_of head_of pec_of pec_from byte_step eight_steps
    poly_step
unwritten_sizes = refl

-- and for a largest body of 246: packets of 250 and 251 bytes, and an output one byte too short
pub unwritten_long :
    write_refusal 246 255 250 32 17 ∷ write_refusal 246 256 251 32 17 ∷ write_refusal 246 254 250 32 17 ∷ []
    ≡ 0 ∷ 3 ∷ 2 ∷ []
unfolding write_refusal
unwritten_long = refl

-- the calls' answers in document 01's numbers: no value is another one's
pub answers_read :
    map number_read (Ok (record { source = 17 }) ∷ Err Pec ∷ [])
    ++ map source_read (Ok (record { source = 17 }) ∷ Err Pec ∷ [])
    ≡ 0 ∷ 8 ∷ 17 ∷ 0 ∷ []
answers_read = refl

pub answers_written :
    map number_written (Ok 10 ∷ Err Room ∷ [])
    ++ map size_written (Ok 10 ∷ Err Room ∷ [])
    ≡ 0 ∷ 2 ∷ 10 ∷ 0 ∷ []
answers_written = refl
