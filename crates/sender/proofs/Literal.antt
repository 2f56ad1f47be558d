-- Packets written out, and the borders of every range, since a definition and its code could be wrong alike.
-- Assumes nothing.
use mathlib.Core.Path.{◌≡◌, refl}
use mathlib.Core.Bool.{Bool, true, false}
use mathlib.Core.List.{List, [], ◌∷◌, ◌++◌, map}
use Prim.Native.Nat.{ℕ}
use lib.Dec.{lit≤}
use lib.ListN.{replicate}
use Rattle.octets.specs.Bytes.{laid, fronted}
use Rattle.octets.specs.Words.{word_bytes}
use Rattle.mctp.specs.Key.{flags_for, header_bytes}
use Rattle.smbus.proofs.Literal.{literal_frame, literal_size, literal_output}
use Rattle.pcc.proofs.Literal.{literal_region, literal_written, literal_quiet}
use Rattle.mmbi.specs.declared.pointer.Pointers.{Pointers}
use Rattle.mmbi.specs.Interface.{normal_runtime, asked_by_host, state_of}
use Rattle.ring.specs.Layout.{header_for, ring_bytes}
use Rattle.ring.specs.Numbers.{filled_of, room_of, next_of}
use Rattle.ring.specs.Round.{round_from, stored}
use Rattle.ring.specs.Writing.{entered, refused, entered_of}
use Rattle.ring.proofs.Literal.{written}
use Rattle.sender.specs.declared.heading.Heading.{Heading}
use Rattle.sender.specs.Cutting.{packets_in, packet_header, packet_at, heading_right, count_refusal, count_of}
use Rattle.sender.specs.Cutting.{cut_refusal}
use Rattle.sender.specs.Sending.{output_refusal, output_size, output_written, smbus_size, smbus_written, pcc_written}
use Rattle.sender.specs.Sending.{ring_entered, ring_written}
use Rattle.sender.specs.Whole.{along, all_packets, all_bodies}

-- a heading by its five numbers
abbrev pub headed : (destination source : ℕ) (owner : Bool) (tag first : ℕ) → Heading
headed destination source owner tag first =
    record {
      key = record {
        destination = record { 0 = destination };
        source = record { 0 = source };
        owner = owner;
        tag = tag;
      };
      first = first;
    }

-- from EID 10 to EID 9, tag owner, tag 5, first sequence 3: document 01's flags BD, 0D, 5D
abbrev pub answering : Heading
answering = headed 9 10 true 5 3

abbrev pub message130 : List ℕ
message130 = replicate 64 1 ++ (replicate 64 2 ++ replicate 2 3)

-- BD is 1011 1101, 0D is 0000 1101, 5D is 0101 1101
pub of_130 : all_packets 64 answering message130
    ≡ (1 ∷ 9 ∷ 10 ∷ 0xBD ∷ replicate 64 1)
    ∷ (1 ∷ 9 ∷ 10 ∷ 0x0D ∷ replicate 64 2)
    ∷ (1 ∷ 9 ∷ 10 ∷ 0x5D ∷ 3 ∷ 3 ∷ [])
    ∷ []
unfolding along packet_at packet_header header_bytes flags_for
of_130 = refl

pub bodies_of_130 : all_bodies 64 message130 ≡ replicate 64 1 ∷ replicate 64 2 ∷ (3 ∷ 3 ∷ []) ∷ []
unfolding along
bodies_of_130 = refl

-- a length that is a multiple of 64: the last body is full, and none is empty. A broadcast from a sender without an
-- EID, which doesn't own the tag: 92 is 1001 0010, 62 is 0110 0010
pub of_128 : all_packets 64 (headed 255 0 false 2 1) (replicate 64 7 ++ replicate 64 8)
    ≡ (1 ∷ 255 ∷ 0 ∷ 0x92 ∷ replicate 64 7) ∷ (1 ∷ 255 ∷ 0 ∷ 0x62 ∷ replicate 64 8) ∷ []
unfolding along packet_at packet_header header_bytes flags_for
of_128 = refl

-- one packet: start and end. F7 is 1111 0111, C8 is 1100 1000
pub of_64 : all_packets 64 (headed 0 254 false 7 3) (replicate 64 9) ≡ (1 ∷ 0 ∷ 254 ∷ 0xF7 ∷ replicate 64 9) ∷ []
unfolding along packet_at packet_header header_bytes flags_for
of_64 = refl

pub of_1 : all_packets 64 (headed 9 10 true 0 0) (0 ∷ []) ≡ (1 ∷ 9 ∷ 10 ∷ 0xC8 ∷ 0 ∷ []) ∷ []
unfolding along packet_at packet_header header_bytes flags_for
of_1 = refl

-- the largest body that a set-up may ask for
pub of_250 : all_packets 246 answering (replicate 246 1 ++ replicate 4 2)
    ≡ (1 ∷ 9 ∷ 10 ∷ 0xBD ∷ replicate 246 1) ∷ (1 ∷ 9 ∷ 10 ∷ 0x4D ∷ 2 ∷ 2 ∷ 2 ∷ 2 ∷ []) ∷ []
unfolding along packet_at packet_header header_bytes flags_for
of_250 = refl

-- "its length divided by 64, rounded up", on both sides of each border; 3 for a message of 0 or 1,025 bytes
pub counts : map (packets_in 64) (1 ∷ 63 ∷ 64 ∷ 65 ∷ 127 ∷ 128 ∷ 129 ∷ 1023 ∷ 1024 ∷ [])
    ≡ 1 ∷ 1 ∷ 1 ∷ 2 ∷ 2 ∷ 2 ∷ 3 ∷ 16 ∷ 16 ∷ []
counts = refl

pub count_borders : (map (count_refusal 64) (0 ∷ 1 ∷ 1024 ∷ 1025 ∷ []) ≡ 3 ∷ 0 ∷ 0 ∷ 3 ∷ [])
    × (map (count_of 64) (0 ∷ 1 ∷ 1024 ∷ 1025 ∷ []) ≡ 0 ∷ 1 ∷ 16 ∷ 0 ∷ [])
    × (map (λ (most : ℕ). count_refusal most 1) (63 ∷ 64 ∷ 246 ∷ 247 ∷ []) ≡ 1 ∷ 0 ∷ 0 ∷ 1 ∷ [])
unfolding count_refusal count_of
count_borders = (refl, refl, refl)

-- "a destination (0, 8 to 254 or 255), a source (0 or 8 to 254)", a tag of three bits, a sequence number of two
abbrev eids : List ℕ
eids = 0 ∷ 1 ∷ 7 ∷ 8 ∷ 254 ∷ 255 ∷ []

pub ranges :
    (map (λ (e : ℕ). heading_right (headed e 10 true 5 3)) eids ≡ true ∷ false ∷ false ∷ true ∷ true ∷ true ∷ [])
    × (map (λ (e : ℕ). heading_right (headed 9 e true 5 3)) eids ≡ true ∷ false ∷ false ∷ true ∷ true ∷ false ∷ [])
    × (map (λ (tag : ℕ). heading_right (headed 9 10 false tag 0)) (0 ∷ 7 ∷ 8 ∷ []) ≡ true ∷ true ∷ false ∷ [])
    × (map (λ (first : ℕ). heading_right (headed 9 10 true 0 first)) (0 ∷ 3 ∷ 4 ∷ []) ≡ true ∷ true ∷ false ∷ [])
ranges = (refl, refl, refl, refl)

-- 23 from the first packet that isn't there on
pub ends : (map (cut_refusal 64 answering 130) (0 ∷ 2 ∷ 3 ∷ 4 ∷ []) ≡ 0 ∷ 0 ∷ 23 ∷ 23 ∷ [])
    × (map (cut_refusal 64 answering 128) (0 ∷ 1 ∷ 2 ∷ []) ≡ 0 ∷ 0 ∷ 23 ∷ [])
    × (map (cut_refusal 64 answering 1024) (15 ∷ 16 ∷ 1024 ∷ []) ≡ 0 ∷ 23 ∷ 23 ∷ [])
    × (map (cut_refusal 64 answering 1) (0 ∷ 1 ∷ 0x400_0000_0000_0000 ∷ []) ≡ 0 ∷ 23 ∷ 23 ∷ [])
unfolding cut_refusal
ends = (refl, refl, refl, refl)

-- each call on bytes that are written out: the last packet of 130 bytes, in an output of eight
pub in_an_output : (output_size 64 answering message130 2 8 ≡ 6)
    × (output_written 64 answering message130 2 (replicate 8 0xEE)
    ≡ 1 ∷ 9 ∷ 10 ∷ 0x5D ∷ 3 ∷ 3 ∷ 0xEE ∷ 0xEE ∷ [])
unfolding output_refusal output_size output_written fronted cut_refusal packet_at packet_header header_bytes flags_for
in_an_output = (refl, refl)

-- one byte from EID 10 to EID 9: from address 0x11 to 0x20 it is document 01's frame
abbrev alone : Heading
alone = headed 9 10 true 0 0

pub as_a_frame : (smbus_size 64 alone (0 ∷ []) 0 12 0x20 0x11 ≡ 10)
    × (smbus_written 64 alone (0 ∷ []) 0 (replicate 12 0xEE) 0x20 0x11 ≡ literal_frame ++ (0xEE ∷ 0xEE ∷ []))
unfolding smbus_size smbus_written cut_refusal packet_at packet_header header_bytes flags_for
as_a_frame = (literal_size 12 (lit≤ tt), literal_output (replicate 12 0xEE) (lit≤ tt))

-- under id 3 it is pcc's region, with notify and without
pub in_a_region : (pcc_written 64 alone (0 ∷ []) 0 (replicate 84 0xFF) 3 true ≡ literal_region)
    × (pcc_written 64 alone (0 ∷ []) 0 (replicate 84 0xFF) 3 false ≡ laid literal_region 4 (0 ∷ []))
unfolding pcc_written cut_refusal packet_at packet_header header_bytes flags_for
in_a_region = (literal_written, literal_quiet)

-- in a ring of bytes EE, with packets from byte 100 on before it: from byte 120 on, over the end
abbrev behind : Pointers
behind = record { read = 100; write = 120 }

pub in_a_ring : (ring_entered 64 alone (0 ∷ []) 0 128 128 normal_runtime behind ≡ entered 4)
    × (ring_written 64 alone (0 ∷ []) 0 (replicate 128 238) 128 normal_runtime behind ≡ written)
unfolding ring_entered ring_written cut_refusal packet_at packet_header header_bytes flags_for state_of entered_of
    filled_of
    room_of next_of round_from stored fronted ring_bytes header_for word_bytes
in_a_ring = (refl, refl)

-- and not into one of another length than was configured, while a reset is asked, or where there is no room
pub not_in_a_ring : (ring_entered 64 alone (0 ∷ []) 0 128 132 normal_runtime behind ≡ refused 1)
    × (ring_entered 64 alone (0 ∷ []) 0 128 128 asked_by_host behind ≡ refused 11)
    × (ring_entered 64 alone (0 ∷ []) 0 128 128 normal_runtime (record { read = 4; write = 0 }) ≡ refused 2)
unfolding ring_entered cut_refusal packet_at packet_header header_bytes flags_for state_of entered_of filled_of room_of
not_in_a_ring = (refl, refl, refl)
