-- What the carriers find in literal arrivals: the packet with what they know beside it, or why there is none; and what
-- is told of it and left.
-- Assumes nothing.
use mathlib.Core.Path.{◌≡◌, refl}
use mathlib.Core.Bool.{true, false}
use mathlib.Core.List.{List, [], ◌∷◌, ◌++◌, map}
use Prim.Native.Nat.{ℕ}
use lib.ListN.{take, replicate}
use Rattle.octets.specs.Bytes.{laid}
use Rattle.octets.specs.Words.{word_at, word_bytes}
use Rattle.mctp.specs.Key.{same_key}
use Rattle.smbus.specs.Reading as frames
use Rattle.smbus.proofs.Literal as frame
use Rattle.pcc.specs.Reading as regions
use Rattle.pcc.proofs.Literal.{literal_packet, literal_region, lengthened}
use Rattle.pcc.proofs.Literal as region
use Rattle.mmbi.specs.declared.interface.Flags.{Flags}
use Rattle.mmbi.specs.Interface.{normal_runtime, state_of}
use Rattle.mmbi.proofs.States.{sixteen}
use Rattle.ring.specs.Numbers.{filled_of, next_of}
use Rattle.ring.specs.Round.{round_from}
use Rattle.ring.specs.Layout as bytes
use Rattle.ring.specs.Reading as reading
use Rattle.ring.proofs.Literal as ring
use Rattle.slots.specs.declared.state.Receiver.{Receiver}
use Rattle.slots.specs.State.{multiple, right_numbers, right_slot, clash, right_state}
use Rattle.slots.specs.Tallies.{sum_of}
use Rattle.slots.proofs.Literal.{with_slots_lem, tallied, gathering}
use Rattle.receiver.specs.Step as rules
use Rattle.receiver.proofs.Laws.{wrong_refused}
use Rattle.rack.specs.declared.answer.Beside.{Beside}
use Rattle.rack.specs.declared.answer.Beside.TheVariants.{Source, Notify, Next}
use Rattle.rack.specs.Arrivals.{Arrival, Brought, by_smbus, by_pcc, by_ring, packet, none}
use Rattle.rack.specs.Arrivals.{Without, empty, skipped, refused}
use Rattle.rack.specs.Arrivals.{smbus_brings, pcc_brings, ring_brings, brings}
use Rattle.rack.specs.Answers.{given, nothing, arrived_of}

-- document 01's frame, from address 11
pub by_smbus_lem : brings 64 (by_smbus frame.literal_frame 32) ≡ packet frame.literal_packet (Source 0x11)
unfolding smbus_brings
by_smbus_lem = rw (frame.literal_good, frame.literal_packet_lem, frame.literal_source)

-- pcc's region, which asks to be notified
pub by_pcc_lem : brings 64 (by_pcc literal_region 3) ≡ packet literal_packet (Notify true)
unfolding pcc_brings
by_pcc_lem = rw (region.literal_number, region.literal_packet_lem, region.literal_notify)

-- a ring of 128 bytes in normal runtime, read from and up to these pointers
abbrev from : List ℕ → ℕ → ℕ → Brought
from s read write = brings 64 (by_ring s 128 normal_runtime read write (replicate 68 0))

-- ring's packet over the end; nothing; another kind; a header alone; padding that the length doesn't hold
pub by_ring_lem : from ring.written 120 4
    ∷ from ring.written 4 4
    ∷ from (0 ∷ 0 ∷ 0 ∷ 5 ∷ replicate 124 0) 0 12
    ∷ from (0 ∷ 0 ∷ 0 ∷ 4 ∷ replicate 124 0) 0 12
    ∷ from (0 ∷ 0 ∷ 1 ∷ 4 ∷ replicate 124 0) 0 12
    ∷ []
    ≡ packet ring.packet (Next 4) ∷ none empty ∷ none (skipped 14 4) ∷ none (skipped 3 4) ∷ none (refused 13) ∷ []
unfolding ring_brings state_of reading.found_of reading.judged filled_of next_of round_from bytes.packet_of word_at
by_ring_lem = refl

-- ring's packet in each of the sixteen flag states, from 0000 to 1111: good in 1010, 1011 and 1110
pub by_state :
    map (λ (f : Flags). brings 64 (by_ring ring.written 128 f 120 4 (replicate 68 0))) sixteen
    ≡ replicate 10 (none (refused 11))
    ++ (packet ring.packet (Next 4)
    ∷ packet ring.packet (Next 4)
    ∷ none (refused 11)
    ∷ none (refused 11)
    ∷ packet ring.packet (Next 4)
    ∷ none (refused 11)
    ∷ [])
unfolding ring_brings state_of reading.found_of reading.judged filled_of next_of round_from bytes.packet_of word_at
by_state = refl

-- refused by SMBus: an own address over 127; a frame of one byte; bit 0 of byte 0; not ours; byte 1; the count; bit 0
-- of byte 3. Nothing stands beside the number
abbrev altered : ℕ → ℕ → ℕ → ℕ → Arrival
altered destination command count source =
    by_smbus (destination ∷ command ∷ count ∷ source ∷ 0x01 ∷ 0x09 ∷ 0x0A ∷ 0xC8 ∷ 0x00 ∷ 0x71 ∷ []) 32

pub refused_by_smbus :
    map (brings 64)
    (by_smbus frame.literal_frame 128
    ∷ by_smbus (0 ∷ []) 32
    ∷ altered 0x41 0x0F 0x06 0x23
    ∷ altered 0x42 0x0F 0x06 0x23
    ∷ altered 0x40 0x0E 0x06 0x23
    ∷ altered 0x40 0x0F 0x07 0x23
    ∷ altered 0x40 0x0F 0x06 0x22
    ∷ [])
    ≡ map (λ (n : ℕ). none (refused n)) (1 ∷ 3 ∷ 4 ∷ 4 ∷ 5 ∷ 6 ∷ 7 ∷ [])
unfolding smbus_brings frames.refusal_of
refused_by_smbus = refl

-- by PCC: an id over 255; a region of 83 bytes; another id's; another command; a length of 8 and of 73. The region asks
-- to be notified, and nothing tells of it
pub refused_by_pcc :
    map (brings 64)
    (by_pcc literal_region 256
    ∷ by_pcc (take 83 literal_region) 3
    ∷ by_pcc literal_region 4
    ∷ by_pcc (laid literal_region 12 (0x4E ∷ [])) 3
    ∷ by_pcc (lengthened 8) 3
    ∷ by_pcc (lengthened 73) 3
    ∷ [])
    ≡ map (λ (n : ℕ). none (refused n)) (1 ∷ 2 ∷ 9 ∷ 5 ∷ 3 ∷ 3 ∷ [])
unfolding pcc_brings regions.refusal_of laid word_at word_bytes literal_region lengthened
refused_by_pcc = refl

-- by ring: a length that isn't the lent ring's; an output under 68; a pointer that is no multiple of 4, or the length;
-- a packet longer than filled
pub refused_by_ring : brings 64 (by_ring ring.written 132 normal_runtime 120 4 (replicate 68 0))
    ∷ brings 64 (by_ring ring.written 128 normal_runtime 120 4 (replicate 67 0))
    ∷ from ring.written 121 4
    ∷ from ring.written 120 128
    ∷ from ring.written 120 0
    ∷ []
    ≡ map (λ (n : ℕ). none (refused n)) (1 ∷ 2 ∷ 12 ∷ 12 ∷ 13 ∷ [])
unfolding ring_brings state_of reading.found_of reading.judged filled_of next_of round_from bytes.packet_of word_at
refused_by_ring = refl

-- 14 and 3 with the pointer after the packet: one of 12 bytes in all, from byte 120 on, over the end; and one of 76,
-- whose MCTP packet has 72 bytes
pub skipped_behind : from (0 ∷ 0 ∷ 0 ∷ 0 ∷ replicate 116 238 ++ (0 ∷ 0 ∷ 11 ∷ 5 ∷ 1 ∷ 9 ∷ 10 ∷ 200 ∷ [])) 120 8
    ∷ from (0 ∷ 0 ∷ 72 ∷ 4 ∷ replicate 124 0) 0 80
    ∷ []
    ≡ none (skipped 14 4) ∷ none (skipped 3 76) ∷ []
unfolding ring_brings state_of reading.found_of reading.judged filled_of next_of round_from bytes.packet_of word_at
skipped_behind = refl

-- "A carrier's refusal never reaches the slots", and "frees nothing": at a count at which every slot is old, and in a
-- state and with a memory that 1 and 2 refuse, the number alone is told, and all stays
abbrev old : Receiver
old = tallied 9 9 10 3 (with_slots_lem (gathering 4 64) (gathering 5 64) (gathering 6 1024) (gathering 7 64))

abbrev reasons : List Without
reasons = empty ∷ skipped 14 4 ∷ skipped 3 76 ∷ refused 8 ∷ []

pub not_reached : map (λ (w : Without). arrived_of 64 5000 old (7 ∷ []) (none w)) reasons
    ≡ map (λ (w : Without). record { told = nothing w; receiver = old; memory = 7 ∷ [] }) reasons
not_reached = refl

-- what the carrier knows stands beside the message rules' answer, be it a refusal: 1, in that state
pub beside_a_refusal :
    map (λ (b : Beside). arrived_of 64 5000 old (7 ∷ []) (packet ring.packet b))
    (Next 4 ∷ Source 0x11 ∷ Notify true ∷ Notify false ∷ [])
    ≡ map (λ (b : Beside). record { told = given b (rules.refused 1); receiver = old; memory = 7 ∷ [] })
    (Next 4 ∷ Source 0x11 ∷ Notify true ∷ Notify false ∷ [])
unfolding right_state right_slot right_numbers multiple clash same_key sum_of
beside_a_refusal = rw (wrong_refused 64 5000 old (7 ∷ []) ring.packet refl)

-- and any other answer
pub beside_any_answer : (time : ℕ) (r : Receiver) (m p : List ℕ) (b : Beside)
    → let left = rules.step_of 64 time r m p in
    arrived_of 64 time r m (packet p b)
    ≡ record { told = given b left.said; receiver = left.receiver; memory = left.memory }
beside_any_answer time r m p b = refl
