-- No premise is empty: each theorem of Demands that has one, used on an input that meets all of its premises at once.
-- Assumes nothing.
use mathlib.Core.Path.{◌≡◌, refl, ap, ◌∙◌}
use mathlib.Core.Bool.{Bool, true, false}
use mathlib.Core.List.{List, [], ◌∷◌, ◌++◌, map}
use Prim.Native.Nat.{ℕ, ◌+◌, ◌<◌}
use native.Mathlib.Omega.{arith}
use lib.Dec.{lit≤}
use lib.ListN.{length, take, drop, replicate}
use Rattle.octets.specs.Bytes.{Below, fronted}
use Rattle.octets.specs.Words.{low_first, word_at, word_bytes}
use Rattle.octets.proofs.Below.{below_zeros}
use Rattle.mctp.specs.Key.{key_of}
use Rattle.pec.proofs.Tests.{all_bytes_lem}
use Rattle.smbus.specs.Layout.{frame_of}
use Rattle.smbus.specs.Reading as smbus
use Rattle.smbus.specs.Writing as frames
use Rattle.smbus.proofs.Layouts.{frame_bytes}
use Rattle.smbus.proofs.Literal.{literal_frame, literal_packet, literal_good}
use Rattle.smbus.proofs.OddChanges.{three_bits, three_bits_lem, wrong_pec, wrong_pec_lem, wrong_pec_bytes}
use Rattle.smbus.proofs.RoundTrip.{frame_number}
use Rattle.smbus.proofs.Windows.{across_border, across_border_lem}
use Rattle.pcc.specs.Layout.{region_for, region_of, region_with}
use Rattle.pcc.specs.Reading as pcc
use Rattle.pcc.specs.Writing as regions
use Rattle.pcc.proofs.RoundTrip.{every_number}
use Rattle.mmbi.specs.declared.change.Act.TheVariants.{ClearUp}
use Rattle.mmbi.specs.declared.change.Change.TheVariants.{Controller}
use Rattle.mmbi.specs.declared.interface.Flags.{Flags}
use Rattle.mmbi.specs.Interface.{flags_of, normal_runtime, asked_by_host, asked_by_controller, state_of, may_read}
use Rattle.mmbi.specs.Interface.{may_write}
use Rattle.descriptor.specs.declared.configuration.Area.TheVariants.{B2h}
use Rattle.descriptor.specs.Configuration.{area_place, inside, clear, allowed}
use Rattle.descriptor.proofs.Literal.{window_image, image_configuration, image_found}
use Rattle.window.specs.declared.word.Pointer.TheVariants.{H2bWrite}
use Rattle.window.specs.Places as window
use Rattle.window.specs.Words as words
use Rattle.window.specs.PutBack.{RingChanged}
use Rattle.ring.specs.Numbers.{filled_of, next_of}
use Rattle.ring.specs.Layout.{packet_of, whole_for, header_for, ring_bytes, RingLayout}
use Rattle.ring.specs.Runs.{arrival_ring, all_sized, space_for, all_bytes, queued, all_readable, read_all}
use Rattle.ring.specs.Round.{round_from, stored}
use Rattle.ring.specs.Reading as taking
use Rattle.ring.specs.Writing as putting
use Rattle.ring.proofs.Literal as image
use Rattle.slots.specs.declared.state.SlotState.TheVariants.{Free}
use Rattle.slots.specs.Slots.{free_slot, slot_at, has_key, first_of, slot_of, lowest_free}
use Rattle.slots.specs.Changes.{with_slot, freed_of}
use Rattle.slots.specs.Tallies.{sum_of}
use Rattle.slots.specs.Ages.{expired_to}
use Rattle.slots.proofs.Literal.{tallied}
use Rattle.receiver.specs.Effects.{Unchanged, SlotFreed}
use Rattle.receiver.specs.Step.{refused, held, done, step_of}
use Rattle.messages.specs.Run.{give, rules, Ran, run, run_packets}
use Rattle.messages.specs.Message.{calls_of, packet_replies, slot_for, Accepted, AcceptedAlone}
use Rattle.rack.specs.declared.answer.Beside.TheVariants.{Source, Notify, Next}
use Rattle.rack.specs.Arrivals as carrier
use Rattle.rack.specs.Arrivals.{Arrival, Brought, by_smbus, by_pcc, by_ring, brings}
use Rattle.rack.specs.Answers.{given, nothing, arrived_of}
use Rattle.demands.specs.Presenting.{arrival, present, packet_in, packets_of}
use Rattle.demands.proofs.Numbers.{card, empty, packet_with}
use Rattle.demands.proofs.Checked.{literal_brought}
use Rattle.demands.proofs.Demands as demands
use Rattle.demands.proofs.Steps.{stranger, gathering, crowded, middles, steps}

-- the packet that the shut-outs and these examples send, in bytes
small : Below 256 literal_packet
small = all_bytes_lem literal_packet tt

-- DEMAND 1

-- an empty frame
pub no_frame : brings 64 (by_smbus [] 32) ≡ carrier.none (carrier.refused 3)
unfolding carrier.smbus_brings smbus.refusal_of
no_frame = refl

pub without_a_packet : arrival 64 0 card empty (by_smbus [] 32)
    ≡ record { told = nothing (carrier.refused 3); receiver = card; memory = empty }
without_a_packet = demands.without_a_packet 0 card empty (by_smbus [] 32) (carrier.refused 3) no_frame

-- document 01's frame, come to a memory of no bytes
pub refused_uncounted : Unchanged card [] (arrival 64 0 card [] (by_smbus literal_frame 32)).receiver
    (arrival 64 0 card [] (by_smbus literal_frame 32)).memory
refused_uncounted =
    demands.refused_uncounted 0 card [] (by_smbus literal_frame 32) (Source 17) 2
    (ap (λ (c : Brought). (arrived_of 64 0 card [] c).told) literal_brought ∙ ap (given (Source 17)) steps.no_memory)
    (lit≤ tt)

pub given_uncounted : Unchanged card [] (step_of 64 0 card [] literal_packet).receiver
    (step_of 64 0 card [] literal_packet).memory
given_uncounted = demands.given_uncounted 0 card [] literal_packet 2 steps.no_memory (lit≤ tt)

-- and to another EID: one packet was offered
pub refused_by_the_rules : Unchanged (tallied 0 0 1 0 stranger) empty
    (arrival 64 0 stranger empty (by_smbus literal_frame 32)).receiver
    (arrival 64 0 stranger empty (by_smbus literal_frame 32)).memory
unfolding expired_to
refused_by_the_rules =
    demands.refused_by_the_rules 0 stranger empty (by_smbus literal_frame 32) (Source 17) 16
    (ap (λ (c : Brought). (arrived_of 64 0 stranger empty c).told) literal_brought
    ∙ ap (given (Source 17)) steps.not_ours) (lit≤ tt) (λ e. omega arith) (λ e. omega arith) (λ e. omega arith)

pub given_and_refused : Unchanged (tallied 0 0 1 0 stranger) empty
    (step_of 64 0 stranger empty literal_packet).receiver (step_of 64 0 stranger empty literal_packet).memory
unfolding expired_to
given_and_refused =
    demands.given_and_refused 0 stranger empty literal_packet 16 steps.not_ours (lit≤ tt) (λ e. omega arith)
    (λ e. omega arith) (λ e. omega arith)

-- which says: the whole receiver, and the memory
pub one_offered : ((step_of 64 0 stranger empty literal_packet).receiver ≡ tallied 0 0 1 0 stranger)
    × ((step_of 64 0 stranger empty literal_packet).memory ≡ empty)
one_offered = (given_and_refused.receiver, given_and_refused.memory)

-- sequence 0 where 1 is the next, by a region
abbrev wrong : List ℕ
wrong = packet_with 0x00 1 7

abbrev wrong_region : List ℕ
wrong_region = region_for 3 true wrong

wrong_brought : brings 64 (by_pcc wrong_region 3) ≡ carrier.packet wrong (Notify true)
wrong_brought = (demands.every_packet_by_pcc wrong 3 true (all_bytes_lem wrong tt) refl (lit≤ tt)).1

pub refused_and_freed : SlotFreed (key_of wrong) (tallied 1 1 2 0 gathering) empty
    (arrival 64 0 gathering empty (by_pcc wrong_region 3)).receiver
    (arrival 64 0 gathering empty (by_pcc wrong_region 3)).memory
unfolding expired_to
refused_and_freed =
    demands.refused_and_freed 0 gathering empty wrong (by_pcc wrong_region 3) (Notify true) 20 wrong_brought
    (ap (λ (c : Brought). (arrived_of 64 0 gathering empty c).told) wrong_brought
    ∙ ap (given (Notify true)) steps.not_next) (lit≤ tt)

pub given_and_freed : SlotFreed (key_of wrong) (tallied 1 1 2 0 gathering) empty
    (step_of 64 0 gathering empty wrong).receiver (step_of 64 0 gathering empty wrong).memory
unfolding expired_to
given_and_freed = demands.given_and_freed 0 gathering empty wrong 20 steps.not_next (lit≤ tt)

-- which says: a slot of the four that has the key, the whole receiver, and the memory
pub one_freed : (i : ℕ) × (i < 4) × (has_key (key_of wrong) (slot_at gathering.slots i) ≡ true)
    × ((step_of 64 0 gathering empty wrong).receiver ≡ with_slot (tallied 1 1 2 0 gathering) i free_slot)
    × ((step_of 64 0 gathering empty wrong).memory ≡ empty)
one_freed =
    let f = given_and_freed in
    (f.slot, f.one_of_four, f.has_the_key, f.receiver, f.memory)

-- slot 4, which no receiver has
pub not_freed : freed_of 64 card 4 ≡ card
not_freed = demands.not_freed card 4 (λ e. omega (arith, steps.no_slot))

-- the window of document 003's tables, written out
pub cut_ring_is_never_1 : (readable running : Bool) (read write n : ℕ)
    → (taking.found_of 64 (window.area_of window_image image_configuration B2h)
    (area_place image_configuration B2h).length readable read write n ≡ taking.refused 1 → ⊥)
    × (putting.entered_of 64 (length (window.area_of window_image image_configuration B2h))
    (area_place image_configuration B2h).length running read write n ≡ putting.refused 1 → ⊥)
cut_ring_is_never_1 = demands.cut_ring_is_never_1 window_image image_configuration B2h refl image_found

pub a_write_stays_in_its_ring : RingChanged window_image image_configuration B2h
    (putting.written_of 64 (window.area_of window_image image_configuration B2h) 128 true 0 0 literal_packet)
a_write_stays_in_its_ring =
    demands.a_write_stays_in_its_ring window_image image_configuration B2h refl image_found 128 true 0 0 literal_packet

-- 12: pointer 2 is no multiple of 4
no_pointer : words.store_refusal (length window_image) image_configuration H2bWrite 2 ≡ 12
unfolding words.store_refusal allowed inside clear
no_pointer = refl

pub not_stored : words.stored window_image image_configuration H2bWrite
    (record { pointer = 2; bit1 = true; bit0 = false }) ≡ window_image
not_stored =
    demands.not_stored window_image image_configuration H2bWrite (record { pointer = 2; bit1 = true; bit0 = false })
    (λ e. omega (arith, no_pointer))

pub pointer_not_stored : words.stored_pointer window_image image_configuration H2bWrite 2 ≡ window_image
pointer_not_stored =
    demands.pointer_not_stored window_image image_configuration H2bWrite 2 (λ e. omega (arith, no_pointer))

-- a window without its last byte
too_short : allowed 339 image_configuration ≡ false
unfolding allowed inside clear
too_short = refl

pub flags_not_stored : words.stored_flags (take 339 window_image) image_configuration (Controller ClearUp)
    ≡ take 339 window_image
flags_not_stored = demands.flags_not_stored (take 339 window_image) image_configuration (Controller ClearUp) too_short

-- no room for a frame, nor for a region; a ring that isn't running
no_room : (frames.write_refusal 64 0 5 32 17 ≡ 2) × (regions.write_refusal 64 0 3 5 ≡ 2)
unfolding frames.write_refusal regions.write_refusal
no_room = (refl, refl)

pub frame_not_written : frames.written_of 64 [] literal_packet 32 17 ≡ []
frame_not_written = demands.frame_not_written [] literal_packet 32 17 (λ e. omega (arith, no_room.0))

pub region_not_written : regions.written_of 64 [] 3 true literal_packet ≡ []
region_not_written = demands.region_not_written [] 3 true literal_packet (omega (arith, no_room.1))

not_running : putting.entered_of 64 128 128 false 0 0 5 ≡ putting.refused 11
unfolding putting.entered_of
not_running = refl

pub ring_not_written : putting.written_of 64 (replicate 128 238) 128 false 0 0 literal_packet ≡ replicate 128 238
ring_not_written = demands.ring_not_written (replicate 128 238) 128 false 0 0 literal_packet 11 not_running

-- DEMAND 2

pub good_frame_is_the_layout : literal_frame
    ≡ frame_of 32 (smbus.source_address_of 64 literal_frame 32) (smbus.packet_of 64 literal_frame 32)
good_frame_is_the_layout = demands.good_frame_is_the_layout literal_frame 32 literal_good

-- a frame's ten bytes, a region's 84
writable : (frames.write_refusal 64 10 5 32 17 ≡ 0) × (regions.write_refusal 64 84 3 5 ≡ 0)
unfolding frames.write_refusal regions.write_refusal
writable = (refl, refl)

abbrev ten : List ℕ
ten = replicate 10 238

pub written_frame_is_the_layout : frames.written_of 64 ten literal_packet 32 17
    ≡ fronted ten (frame_of 32 17 literal_packet)
written_frame_is_the_layout = demands.written_frame_is_the_layout ten literal_packet 32 17 writable.0

pub frame_reads_back : brings 64
    (by_smbus (take (frames.frame_size 5) (frames.written_of 64 ten literal_packet 32 17)) 32)
    ≡ carrier.packet literal_packet (Source 17)
frame_reads_back = demands.frame_reads_back ten literal_packet 32 17 writable.0

abbrev bare : List ℕ
bare = replicate 84 238

pub written_region_is_the_layout : regions.written_of 64 bare 3 true literal_packet
    ≡ fronted bare (region_of 3 true literal_packet)
written_region_is_the_layout = demands.written_region_is_the_layout bare 3 true literal_packet writable.1

pub region_reads_back : brings 64 (by_pcc (regions.written_of 64 bare 3 true literal_packet) 3)
    ≡ carrier.packet literal_packet (Notify true)
region_reads_back = demands.region_reads_back bare 3 true literal_packet writable.1

-- a region made for the packet
abbrev made : List ℕ
made = region_for 3 true literal_packet

pub good_region_is_the_layout : take (16 + length (pcc.packet_of 64 made 3)) made
    ≡ region_with 3 (word_at low_first made 4) (pcc.packet_of 64 made 3)
good_region_is_the_layout =
    demands.good_region_is_the_layout made 3 (demands.every_packet_by_pcc literal_packet 3 true small refl (lit≤ tt)).0
    (every_number 64 3 true literal_packet refl (lit≤ tt) refl)

-- a ring of bytes EE, written over its end
abbrev round : List ℕ
round = replicate 128 238

written : putting.entered_of 64 128 128 true 120 120 5 ≡ putting.entered 4
written = (image.image_written).0

pub written_ring_packet_is_the_layout : putting.written_of 64 round 128 true 120 120 image.packet
    ≡ stored round 120 (ring_bytes image.packet)
written_ring_packet_is_the_layout =
    demands.written_ring_packet_is_the_layout round 128 true 120 120 image.packet 4 written

readable : may_read (state_of asked_by_controller) ≡ true
unfolding state_of
readable = refl

pub ring_reads_back : brings 64
    (by_ring (putting.written_of 64 round 128 true 120 120 image.packet) 128 asked_by_controller 120 4
    (replicate 68 0)) ≡ carrier.packet image.packet (Next 4)
ring_reads_back =
    demands.ring_reads_back round 128 true 120 120 image.packet 4 asked_by_controller
    (replicate 68 0) written readable (lit≤ tt)

-- the ring so written
pub good_ring_packet_is_the_layout :
    RingLayout (round_from 120 image.written) (packet_of (round_from 120 image.written))
    × (length (packet_of (round_from 120 image.written)) ≡ 5) × (4 ≡ next_of 128 120 (whole_for 5))
good_ring_packet_is_the_layout =
    demands.good_ring_packet_is_the_layout image.written 128 true 120 4 68 5 4 (all_bytes_lem image.written tt)
    (image.image_read).0

-- three packets in the ring of bytes EE, over its end
three_fit : (all_sized 64 image.three ≡ true) × (space_for image.three ≡ 36)
unfolding all_sized space_for
three_fit = (refl, refl)

-- the first is read in normal runtime, and then the controller asks; the host asks before any is read
abbrev controller_asks : List Flags
controller_asks = normal_runtime ∷ asked_by_controller ∷ asked_by_controller ∷ []

abbrev host_asks : List Flags
host_asks = replicate 3 asked_by_host

all_readable_lem : (all_readable controller_asks ≡ true) × (all_readable host_asks ≡ true)
unfolding all_readable state_of
all_readable_lem = (refl, refl)

abbrev ReadBack : List Flags → Type 0
ReadBack states =
    read_all 64 128 (queued 64 128 round 100 image.three).ring (replicate 68 0)
    (queued 64 128 round 100 image.three).write states 100 ≡ image.three

pub what_is_queued_is_read_back : ReadBack controller_asks × ReadBack host_asks
what_is_queued_is_read_back =
    let read : (states : List Flags) → all_readable states ≡ true → length states ≡ 3 → ReadBack states =
    λ states may many. demands.what_is_queued_is_read_back round 128 100 image.three states (replicate 68 0) refl refl
    three_fit.0 (omega (arith, three_fit.1)) may many (lit≤ tt) in
    (read controller_asks all_readable_lem.0 refl, read host_asks all_readable_lem.1 refl)

-- the ring with the three in it, of which the first has been read: the other two are still there
two_left : take (filled_of 128 112 8) (round_from 112 (image.three_kept).ring) ≡ all_bytes (drop 1 image.three)
unfolding filled_of round_from all_bytes ring_bytes header_for word_bytes
two_left = refl

two_right : (all_sized 64 (drop 1 image.three) ≡ true) × (all_readable (replicate 2 asked_by_controller) ≡ true)
unfolding all_sized all_readable state_of
two_right = (refl, refl)

pub what_is_still_there_is_read_back : read_all 64 128 (image.three_kept).ring (replicate 68 0) 8
    (replicate 2 asked_by_controller) 112 ≡ drop 1 image.three
what_is_still_there_is_read_back =
    demands.what_is_still_there_is_read_back (image.three_kept).ring 128 112 8 (drop 1 image.three)
    (replicate 2 asked_by_controller) (replicate 68 0) refl refl two_right.0 two_left two_right.1 refl (lit≤ tt)

pub nothing_is_queued_while_a_reset_is_asked :
    ((putting.entered_of 64 128 128 (may_write (state_of asked_by_host)) 100 8 5 ≡ putting.refused 11)
    × (putting.written_of 64 (image.three_kept).ring 128 (may_write (state_of asked_by_host)) 100 8 literal_packet
    ≡ (image.three_kept).ring))
    × ((putting.entered_of 64 128 128 (may_write (state_of asked_by_controller)) 100 8 5 ≡ putting.refused 11)
    × (putting.written_of 64 (image.three_kept).ring 128 (may_write (state_of asked_by_controller)) 100 8 literal_packet
    ≡ (image.three_kept).ring))
nothing_is_queued_while_a_reset_is_asked =
    demands.nothing_is_queued_while_a_reset_is_asked (image.three_kept).ring 128 100 8 literal_packet refl refl

-- document 01's message of 130, with something of each kind between its packets and a count that wraps, to a receiver
-- whose four slots are taken, but old
abbrev whole : Ran
whole =
    run 64 crowded empty
    (give 4294967000 (packet_with 0xBD 64 1) ∷ (calls_of middles ++ (give 1500 (packet_with 0x5D 2 3) ∷ [])))

abbrev middle : Ran
middle =
    run 64 (step_of 64 4294967000 crowded empty (packet_with 0xBD 64 1)).receiver
    (step_of 64 4294967000 crowded empty (packet_with 0xBD 64 1)).memory (calls_of middles)

pub messages_are_put_together : Accepted card (packet_with 0xBD 64 1) middles (packet_with 0x5D 2 3) whole middle
    (slot_for card.slots (key_of (packet_with 0xBD 64 1)))
unfolding expired_to sum_of
messages_are_put_together =
    demands.messages_are_put_together crowded empty 4294967000 (packet_with 0xBD 64 1) middles 1500
    (packet_with 0x5D 2 3)
    steps.whole

-- which says: held in slot 0 and not again, the middle held, done; the message; and the slot is free
pub message_of_130 : (whole.answers ≡ rules (held 0 64 false) ∷ (middle.answers ++ (rules (done 0 130 false) ∷ [])))
    × (packet_replies middles middle.answers ≡ rules (held 0 128 false) ∷ [])
    × (whole.messages ≡ middle.messages ++ ((replicate 64 1 ++ replicate 64 2 ++ replicate 2 3) ∷ []))
    × (slot_at whole.receiver.slots 0 ≡ Free)
unfolding slot_for slot_of lowest_free first_of
message_of_130 =
    let a = messages_are_put_together in
    (a.answers, a.held_so_far, a.messages, a.slot_free)

pub a_message_of_one_packet :
    AcceptedAlone card literal_packet (run 64 crowded empty (give 4294967000 literal_packet ∷ []))
    (slot_for card.slots (key_of literal_packet))
unfolding expired_to sum_of
a_message_of_one_packet =
    demands.a_message_of_one_packet 4294967000 crowded empty literal_packet steps.right_crowded refl
    (omega (arith, steps.room_then)) steps.one_packet refl

pub message_of_1 : let ran = run 64 crowded empty (give 4294967000 literal_packet ∷ []) in
    (ran.answers ≡ rules (done 0 1 false) ∷ []) × (ran.messages ≡ (0 ∷ []) ∷ [])
    × (slot_at ran.receiver.slots 0 ≡ Free)
unfolding slot_for slot_of lowest_free first_of
message_of_1 = let a = a_message_of_one_packet in (a.answers, a.messages, a.slot_free)

-- DEMAND 3

-- each packet keeps its arrival's count
pub counts_kept : packets_of 64
    ((1000, by_smbus literal_frame 32) ∷ (5, by_smbus [] 32) ∷ (2001, by_smbus literal_frame 32) ∷ [])
    ≡ (1000, literal_packet) ∷ (2001, literal_packet) ∷ []
unfolding packets_of
counts_kept =
    λ j. packet_in 1000 (literal_brought j) ++ (packet_in 5 (no_frame j) ++ (packet_in 2001 (literal_brought j) ++ []))

-- a start, and its end 1,000 ms or 1,001 ms later, by two regions
abbrev by_regions : ℕ → List (ℕ × Arrival)
by_regions time =
    (7, by_pcc (region_for 3 true (packet_with 0x80 1 7)) 3)
    ∷ (time, by_pcc (region_for 3 true (packet_with 0x50 1 8)) 3)
    ∷ []

regions_bring : (time : ℕ) → packets_of 64 (by_regions time)
    ≡ (7, packet_with 0x80 1 7) ∷ (time, packet_with 0x50 1 8) ∷ []
unfolding packets_of
regions_bring time =
    let first = (demands.every_packet_by_pcc (packet_with 0x80 1 7) 3 true
    (all_bytes_lem (packet_with 0x80 1 7) tt) refl
    (lit≤ tt)).1 in
    let second = (demands.every_packet_by_pcc (packet_with 0x50 1 8) 3 true
    (all_bytes_lem (packet_with 0x50 1 8) tt) refl
    (lit≤ tt)).1 in
    λ j. packet_in 7 (first j) ++ (packet_in time (second j) ++ [])

pub the_path_does_not_matter : ((present 64 card empty (by_regions 1007)).answers
    ≡ rules (held 0 1 false) ∷ rules (done 0 2 false) ∷ [])
    × ((present 64 card empty (by_regions 1008)).answers ≡ rules (held 0 1 false) ∷ rules (refused 19) ∷ [])
the_path_does_not_matter = (
  by_regions_lem 1007 ∙ steps.ends_in_time,
  by_regions_lem 1008 ∙ steps.ends_late,
)
  where
    by_regions_lem : (time : ℕ) → (present 64 card empty (by_regions time)).answers
        ≡ (run_packets 64 card empty ((7, packet_with 0x80 1 7) ∷ (time, packet_with 0x50 1 8) ∷ [])).answers
    by_regions_lem time =
        ap (λ (ran : Ran). ran.answers) (demands.the_path_does_not_matter card.setup empty (by_regions time))
        ∙ ap (λ (l : List (ℕ × List ℕ)). (run_packets 64 card empty l).answers) (regions_bring time)

pub every_packet_by_smbus : Below 256 (frame_of 32 17 literal_packet)
    × (brings 64 (by_smbus (frame_of 32 17 literal_packet) 32) ≡ carrier.packet literal_packet (Source 17))
every_packet_by_smbus = demands.every_packet_by_smbus literal_packet 32 17 small refl (lit≤ tt) (lit≤ tt)

pub every_packet_by_pcc : Below 256 (region_for 3 true literal_packet)
    × (brings 64 (by_pcc (region_for 3 true literal_packet) 3) ≡ carrier.packet literal_packet (Notify true))
every_packet_by_pcc = demands.every_packet_by_pcc literal_packet 3 true small refl (lit≤ tt)

pub every_packet_by_ring : Below 256 (arrival_ring 65536 literal_packet)
    × (brings 64
    (by_ring (arrival_ring 65536 literal_packet) 65536 asked_by_controller 0 (whole_for 5) (replicate 100 0))
    ≡ carrier.packet literal_packet (Next (whole_for 5)))
every_packet_by_ring =
    demands.every_packet_by_ring literal_packet 65536 asked_by_controller
    (replicate 100 0) small refl refl readable (lit≤ tt)

-- 1010, 1011 and 1110
pub every_packet_by_a_ring : Below 256 (arrival_ring 128 literal_packet)
    × (map
    (λ (flags : Flags). brings 64 (by_ring (arrival_ring 128 literal_packet) 128 flags 0 12 (replicate 68 0)))
    (flags_of true false true false ∷ flags_of true false true true ∷ flags_of true true true false ∷ [])
    ≡ replicate 3 (carrier.packet literal_packet (Next 12)))
every_packet_by_a_ring = demands.every_packet_by_a_ring literal_packet small refl

pub changed_frame_is_refused : (other : ℕ) → smbus.refusal_of 64 across_border other ≡ 0 → ⊥
changed_frame_is_refused =
    demands.changed_frame_is_refused literal_frame across_border (all_bytes_lem literal_frame tt)
    (all_bytes_lem across_border tt) across_border_lem 32 literal_good

pub odd_change_is_refused : (most other : ℕ) → smbus.refusal_of most three_bits other ≡ 0 → ⊥
odd_change_is_refused =
    demands.odd_change_is_refused literal_frame three_bits (all_bytes_lem literal_frame tt)
    (all_bytes_lem three_bits tt) three_bits_lem 64 32 literal_good

-- the longest frame of all, 255 bytes: the largest packet where the largest body is 246, the last bit of its PEC wrong
abbrev pub largest_packet : List ℕ
largest_packet = replicate 250 0

pub odd_change_of_255_bytes : (most other : ℕ) → smbus.refusal_of most (wrong_pec 32 17 largest_packet) other ≡ 0 → ⊥
odd_change_of_255_bytes =
    demands.odd_change_is_refused (frame_of 32 17 largest_packet) (wrong_pec 32 17 largest_packet)
    (frame_bytes 32 17 largest_packet (lit≤ tt) (lit≤ tt) (lit≤ tt) (below_zeros 250))
    (wrong_pec_bytes 32 17 largest_packet (lit≤ tt) (lit≤ tt) (lit≤ tt) (below_zeros 250))
    (wrong_pec_lem 32 17 largest_packet) 246 32
    (frame_number 246 32 17 largest_packet (lit≤ tt) (lit≤ tt) (lit≤ tt) (lit≤ tt) (lit≤ tt))
