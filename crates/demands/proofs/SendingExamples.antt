-- No premise is empty: each theorem of Sending that has one, used on an input that meets all of its premises at once.
-- Assumes nothing.
use mathlib.Core.Path.{◌≡◌, refl}
use mathlib.Core.Bool.{true, false}
use mathlib.Core.List.{[], ◌∷◌, ◌++◌, map}
use mathlib.Core.Logic.{◌⊎◌, inl, inr}
use Prim.Native.Nat.{ℕ, zero, suc, ◌≤◌}
use native.Mathlib.Omega.{arith}
use lib.Dec.{lit≤, lit<}
use lib.ListN.{length, replicate}
use Rattle.octets.specs.Bytes.{laid}
use Rattle.octets.specs.Checks.{Hold}
use Rattle.mctp.specs.Key.{header_bytes}
use Rattle.smbus.specs.Writing as frames
use Rattle.pcc.specs.Writing as regions
use Rattle.mmbi.specs.Interface.{normal_runtime, state_of}
use Rattle.ring.specs.Writing as rings
use Rattle.slots.specs.declared.state.Setup.{Setup}
use Rattle.slots.specs.Slots.{free_slot}
use Rattle.slots.specs.Changes.{fresh}
use Rattle.decision.specs.Checks.{packet_order, source_order}
use Rattle.receiver.specs.Step.{held, done}
use Rattle.messages.specs.Run.{rules, Ran, at_once, run_packets}
use Rattle.sender.specs.Cutting.{packet_at, heading_right, message_right, count_of, cut_refusal}
use Rattle.sender.specs.Sending.{output_refusal, output_size, output_written, smbus_refusal, smbus_written}
use Rattle.sender.specs.Sending.{pcc_refusal, pcc_written}
use Rattle.sender.specs.Sending.{ring_entered, ring_written}
use Rattle.sender.specs.Whole.{along, all_packets}
use Rattle.sender.specs.Ranges.{InRange}
use Rattle.sender.proofs.Literal.{headed, answering, message130}
use Rattle.demands.specs.Presenting.{present}
use Rattle.demands.specs.Sending.{GivesMessage}
use Rattle.demands.specs.Ways.{Way, smbus_way, pcc_way, ring_way, empty_pointers, arrivals, way_right}
use Rattle.demands.proofs.Numbers.{empty}
use Rattle.demands.proofs.Sending as sending

-- the card at EID 9
abbrev nine : Setup
nine = record { own = record { 0 = 9 }; limit = 1000 }

-- the least and the largest of each number
pub these_may_be_sent : ((heading_right (headed 0 0 true 0 0) ≡ true) × (message_right 1 ≡ true))
    × ((heading_right (headed 255 254 false 7 3) ≡ true) × (message_right 1024 ≡ true))
these_may_be_sent = (
  sending.these_may_be_sent (headed 0 0 true 0 0) (0 ∷ []) (inl refl) (inl refl) (lit≤ tt) (lit≤ tt) (lit≤ tt)
      (lit≤ tt) (lit≤ tt),
  sending.these_may_be_sent (headed 255 254 false 7 3) (replicate 1024 0) (inr (lit≤ tt)) (inr (lit≤ tt)) (lit≤ tt)
      (lit≤ tt) (lit≤ tt) (lit≤ tt) (lit≤ tt),
)

answering_in_range : InRange answering
answering_in_range =
    record { destination = inr (lit≤ tt); source = inr (lit≤ tt, lit≤ tt); tag = lit≤ tt; first = lit≤ tt }

-- the reserved destination 4, and a first sequence number of 5; and none of the numbers of `answering`
pub one_exactly_if_out_of_range : ((cut_refusal 64 (headed 4 10 true 5 0) 130 2 ≡ 1)
    × (cut_refusal 64 (headed 9 10 true 5 5) 130 2 ≡ 1))
    × (cut_refusal 64 answering 130 2 ≡ 1 → ⊥)
one_exactly_if_out_of_range = (
  (
    (sending.one_exactly_if_out_of_range (headed 4 10 true 5 0) (lit≤ tt) message130 2).0 (λ h. four h.destination),
    (sending.one_exactly_if_out_of_range (headed 9 10 true 5 5) (lit≤ tt) message130 2).0
        (λ h. omega (arith, h.first)),
  ),
  (λ e. (sending.one_exactly_if_out_of_range answering (lit≤ tt) message130 2).1 e answering_in_range),
)
  where
    four : (◌≡◌ {A = ℕ} 4 0) ⊎ (8 ≤ 4) → ⊥
    four (inl e) = omega (arith, e)
    four (inr h) = omega (arith, h)

-- no byte, and one too many
pub three_exactly_if_no_message :
    (cut_refusal 64 answering 0 0 ≡ 3) × (cut_refusal 64 answering 1025 0 ≡ 3)
three_exactly_if_no_message = (
  (sending.three_exactly_if_no_message answering (lit≤ tt) answering_in_range [] 0).0 (inl refl),
  (sending.three_exactly_if_no_message answering (lit≤ tt) answering_in_range (replicate 1025 0) 0).0 (inr (lit< tt)),
)

-- the last packet, and the first past the end
pub a_packet_is_there_or_past_the_end : (cut_refusal 64 answering 130 2 ≡ 0) × (cut_refusal 64 answering 130 3 ≡ 23)
a_packet_is_there_or_past_the_end = (
  (sending.a_packet_is_there_or_past_the_end answering message130 2 refl refl).0 (lit< tt),
  (sending.a_packet_is_there_or_past_the_end answering message130 3 refl refl).1 (lit≤ tt),
)

-- the last packet on each way: six bytes, and an output of five
pub an_output_takes_packet_k : (output_size 64 answering message130 2 6 ≡ 6)
    × (output_refusal 64 answering message130 2 5 ≡ 2)
unfolding packet_at header_bytes
an_output_takes_packet_k = (
  ((sending.an_output_takes_packet_k answering message130 2 (replicate 6 0) a_packet_is_there_or_past_the_end.0).0
      (lit≤ tt)).1,
  (sending.an_output_takes_packet_k answering message130 2 (replicate 5 0) a_packet_is_there_or_past_the_end.0).1
      (lit< tt),
)

pub as_smbus_writes_it : smbus_written 64 answering message130 2 (replicate 11 0) 32 17
    ≡ frames.written_of 64 (replicate 11 0) (packet_at 64 answering message130 2) 32 17
as_smbus_writes_it =
    (sending.as_smbus_writes_it answering message130 2 (replicate 11 0) 32 17 a_packet_is_there_or_past_the_end.0).2

pub as_pcc_writes_it : pcc_written 64 answering message130 2 (replicate 84 0) 3 true
    ≡ regions.written_of 64 (replicate 84 0) 3 true (packet_at 64 answering message130 2)
as_pcc_writes_it =
    (sending.as_pcc_writes_it answering message130 2 (replicate 84 0) 3 true a_packet_is_there_or_past_the_end.0).1

pub as_a_ring_writes_it :
    ring_written 64 answering message130 2 (replicate 128 0) 128 normal_runtime (record { read = 100; write = 120 })
    ≡ rings.written_of 64 (replicate 128 0) 128 true 100 120 (packet_at 64 answering message130 2)
unfolding state_of
as_a_ring_writes_it =
    (sending.as_a_ring_writes_it answering message130 2 (replicate 128 0) 128 normal_runtime
    (record { read = 100; write = 120 }) a_packet_is_there_or_past_the_end.0).1

pub their_number_is_told : count_of 64 130 ≡ length (all_packets 64 answering message130)
their_number_is_told = sending.their_number_is_told answering message130 refl

pub the_rules_take_every_packet : Hold (packet_order 64 nine (packet_at 64 answering message130 2)
    ++ source_order (packet_at 64 answering message130 2))
the_rules_take_every_packet = sending.the_rules_take_every_packet nine answering message130 2 refl refl (lit< tt)

-- 130 bytes, at the last count: held, held, done
abbrev fed : Ran
fed = run_packets 64 (fresh nine) empty (at_once 4294967295 (all_packets 64 answering message130))

pub they_give_that_message : GivesMessage 64 nine empty message130 fed
they_give_that_message =
    sending.they_give_that_message 4294967295 nine empty answering message130 refl refl refl refl refl (lit< tt)

pub three_answers : fed.answers
    ≡ rules (held 0 64 false) ∷ rules (held 0 128 false) ∷ rules (done 0 130 false) ∷ []
unfolding along
three_answers = they_give_that_message.answers

pub one_message : fed.messages ≡ message130 ∷ []
one_message = they_give_that_message.messages

-- every slot is free, three packets were offered, one message is done
pub all_free : fed.receiver
    ≡ record {
      setup = nine;
      slots = replicate 4 free_slot;
      tallies = record { gathering = 0; held = 0; offered = 3; done = 1 };
    }
all_free = they_give_that_message.receiver

pub front_alone : fed.memory
    ≡ laid empty 0 message130
front_alone = they_give_that_message.memory

-- a broadcast, to a receiver without an EID, whose memory holds something
pub they_give_a_broadcast : GivesMessage 64 (record { own = record { 0 = 0 }; limit = 1 }) (replicate 4096 7) message130
    (run_packets 64 (fresh (record { own = record { 0 = 0 }; limit = 1 })) (replicate 4096 7)
    (at_once 5 (all_packets 64 (headed 255 0 false 2 1) message130)))
they_give_a_broadcast =
    sending.they_give_that_message 5 (record { own = record { 0 = 0 }; limit = 1 }) (replicate 4096 7)
    (headed 255 0 false 2 1) message130 refl refl refl refl refl (lit< tt)

-- cut by 64, and by 246, for a receiver that takes 246
pub they_give_it_to_a_larger_receiver :
    GivesMessage 64 nine empty message130
    (run_packets 246 (fresh nine) empty (at_once 0 (all_packets 64 answering message130)))
    × GivesMessage 246 nine empty message130
    (run_packets 246 (fresh nine) empty (at_once 0 (all_packets 246 answering message130)))
they_give_it_to_a_larger_receiver = (
  sending.they_give_it_to_a_larger_receiver 64 246 0 nine empty answering message130 refl refl (lit≤ tt) refl refl
      refl refl refl (lit< tt),
  sending.they_give_it_to_a_larger_receiver 246 246 0 nine empty answering message130 refl refl (lit≤ tt) refl refl
      refl refl refl (lit< tt),
)

-- a frame, a region, and then a ring that is empty at its last pointer, so that the packet runs over the ring's end
abbrev ways : ℕ → Way
ways zero = smbus_way (replicate 73 0) 32 17
ways (suc zero) = pcc_way (replicate 84 0) 3 true
ways (suc (suc k)) = ring_way (replicate 128 0) 124 (replicate 68 0)

ways_right : (k : ℕ) → way_right (ways k) ≡ true
ways_right zero = refl
ways_right (suc zero) = refl
ways_right (suc (suc k)) = refl

-- the largest numbers that each carrier takes are right, and outputs may be longer
pub ways_at_their_borders :
    map way_right
    (smbus_way (replicate 73 0) 127 127
    ∷ smbus_way (replicate 74 0) 0 0
    ∷ pcc_way (replicate 85 0) 255 false
    ∷ ring_way (replicate 132 0) 128 (replicate 69 0)
    ∷ ring_way (replicate 65536 0) 0 (replicate 68 0)
    ∷ [])
    ≡ replicate 5 true
ways_at_their_borders = refl

pub they_give_it_on_any_mix_of_paths : GivesMessage 64 nine empty message130
    (present 64 (fresh nine) empty (at_once 7 (arrivals 64 answering message130 ways)))
they_give_it_on_any_mix_of_paths =
    sending.they_give_it_on_any_mix_of_paths 7 nine empty answering message130 ways refl refl refl refl refl (lit< tt)
    (λ k h. sending.right_numbers_are_never_refused answering message130 (ways k) k refl refl h (ways_right k))

-- nothing is written: no room, an address that is none, an id that is none, a pointer that is none
pub nothing_is_written_to_an_output : output_written 64 answering message130 0 (replicate 67 5) ≡ replicate 67 5
unfolding output_refusal cut_refusal packet_at header_bytes
nothing_is_written_to_an_output =
    sending.nothing_is_written_to_an_output answering message130 0 (replicate 67 5) (λ e. omega arith)

pub nothing_is_written_as_a_frame : smbus_written 64 answering message130 0 (replicate 73 5) 128 17 ≡ replicate 73 5
unfolding smbus_refusal cut_refusal frames.write_refusal
nothing_is_written_as_a_frame =
    sending.nothing_is_written_as_a_frame answering message130 0 (replicate 73 5) 128 17 (λ e. omega arith)

pub nothing_is_written_to_a_region : pcc_written 64 answering message130 0 (replicate 84 5) 256 true ≡ replicate 84 5
unfolding pcc_refusal cut_refusal regions.write_refusal
nothing_is_written_to_a_region =
    sending.nothing_is_written_to_a_region answering message130 0 (replicate 84 5) 256 true (λ e. omega arith)

pub nothing_is_written_to_a_ring :
    ring_written 64 answering message130 0 (replicate 128 5) 128 normal_runtime (empty_pointers 1) ≡ replicate 128 5
unfolding ring_entered cut_refusal packet_at header_bytes rings.entered_of state_of
nothing_is_written_to_a_ring =
    sending.nothing_is_written_to_a_ring answering message130 0 (replicate 128 5) 128 normal_runtime
    (empty_pointers 1) 12
    refl
