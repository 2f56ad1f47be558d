-- The three demands of the racks, sentence by sentence, each a theorem over the definitions that the public contracts
-- cite. 64 is the base's largest body.
-- Assumes nothing.
use mathlib.Core.Path.{◌≡◌, refl, ap}
use mathlib.Core.Bool.{Bool, true, false}
use mathlib.Core.List.{List, [], ◌∷◌, ◌++◌, map}
use Prim.Native.Nat.{ℕ, ◌+◌, ◌≤◌, ◌<◌}
use lib.Dec.{lit≤}
use lib.ListN.{length, take, replicate}
use Rattle.octets.specs.Bytes.{Below, fronted}
use Rattle.octets.specs.Words.{low_first, word_at}
use Rattle.mctp.specs.Packet.{size_right, end_of}
use Rattle.mctp.specs.Key.{key_of}
use Rattle.pec.specs.Wire.{WindowChange, OddChange}
use Rattle.smbus.specs.Layout.{frame_of}
use Rattle.smbus.specs.Reading as smbus
use Rattle.smbus.specs.Writing as frames
use Rattle.smbus.proofs.Answers.{output_written_lem, output_unwritten}
use Rattle.smbus.proofs.WrongBits.{window_refused, odd_refused}
use Rattle.pcc.specs.Layout.{region_with, region_of, region_for}
use Rattle.pcc.specs.Reading as pcc
use Rattle.pcc.specs.Writing as regions
use Rattle.pcc.proofs.Layouts.{good_front}
use Rattle.pcc.proofs.Writings.{written_whole, written_refused}
use Rattle.descriptor.specs.declared.configuration.Area.{Area}
use Rattle.descriptor.specs.declared.configuration.Configuration.{Configuration}
use Rattle.descriptor.specs.Reading.{found, described_of}
use Rattle.descriptor.specs.Configuration.{is_ring, area_place, allowed}
use Rattle.window.specs.declared.word.Pointer.{Pointer}
use Rattle.window.specs.Places.{area_of}
use Rattle.window.specs.Words.{store_refusal, stored, stored_pointer, stored_flags}
use Rattle.window.specs.PutBack.{RingChanged}
use Rattle.window.proofs.Flags.{flags_refused}
use Rattle.window.proofs.Stores.{stored_refused, pointer_refused}
use Rattle.mmbi.specs.declared.change.Change.{Change}
use Rattle.mmbi.specs.declared.word.Word.{Word}
use Rattle.mmbi.specs.Interface.{normal_runtime, asked_by_host, asked_by_controller, state_of, may_read, may_write}
use Rattle.mmbi.specs.declared.interface.Flags.{Flags}
use Rattle.mmbi.specs.Pointers.{pointer_right}
use Rattle.mmbi.specs.Pointers.{length_right}
use Rattle.ring.specs.Numbers.{set_up_right, pointers_right, filled_of, next_of}
use Rattle.ring.specs.Layout.{packet_of, whole_for, ring_bytes, RingLayout}
use Rattle.ring.specs.Round as rounds
use Rattle.ring.specs.Round.{round_from}
use Rattle.ring.specs.Runs.{arrival_ring, all_sized, space_for, all_bytes, queued, all_readable, read_all}
use Rattle.ring.specs.Reading as taking
use Rattle.ring.specs.Writing as putting
use Rattle.ring.proofs.Fifo.{fifo, filled_back, not_queued}
use Rattle.ring.proofs.Layouts.{ring_layout}
use Rattle.ring.proofs.Readings.{found_not_1}
use Rattle.ring.proofs.Writings.{entered_not_1}
use Rattle.slots.specs.declared.state.Receiver.{Receiver}
use Rattle.slots.specs.declared.state.Setup.{Setup}
use Rattle.slots.specs.State.{right_state}
use Rattle.slots.specs.Changes.{fresh, with_offered, free_refusal, freed_of}
use Rattle.slots.specs.Ages.{expired}
use Rattle.slots.proofs.Changes.{freed_refused}
use Rattle.receiver.specs.Effects.{Unchanged, SlotFreed}
use Rattle.receiver.specs.Step.{refused, step_of}
use Rattle.receiver.proofs.Laws as rules
use Rattle.messages.specs.Run.{give, run, run_packets}
use Rattle.messages.specs.Message.{Item, calls_of, Starts, OneMessage, Accepted, AcceptedAlone, slot_for}
use Rattle.messages.proofs.Acceptance.{acceptance, single_accepted}
use Rattle.rack.specs.declared.answer.Beside.{Beside}
use Rattle.rack.specs.declared.answer.Beside.TheVariants.{Source, Notify, Next}
use Rattle.rack.specs.Arrivals.{Arrival, by_smbus, by_pcc, by_ring, Without, packet, none, brings, ring_brings}
use Rattle.rack.specs.Answers.{given, nothing}
use Rattle.demands.specs.Presenting.{arrival, present, packets_of}
use Rattle.demands.proofs.Arrivals as good
use Rattle.demands.proofs.CutRings.{cut_ring_right, write_stays}
use Rattle.demands.proofs.Outputs as outputs
use Rattle.demands.proofs.Presented.{presented}

-- DEMAND 1: NOTHING BREAKS IT
--
-- "Any bytes, pointers, lengths and stored state may be handed in.": no public call has a `requires`.
-- "Nothing outside the lent memory is touched, every call ends": the checker's own verdict on every function of every
-- crate. "and bad input gets the refusal that document 01 fixes": each contract is an equation, on every input, with a
-- definition in its check order.

-- "Lent memory is then unchanged, and so is the receiver": where the carrier refuses, skips or finds nothing
pub without_a_packet : (time : ℕ) (r : Receiver) (m : List ℕ) (a : Arrival) (why : Without) → brings 64 a ≡ none why
    → arrival 64 time r m a ≡ record { told = nothing why; receiver = r; memory = m }
without_a_packet time r m a why e = good.none_leaves_all 64 time r m a why e

-- and where the message rules refuse with 1 or 2, which "count nothing" (document 02, #102) and free nothing
pub refused_uncounted : (time : ℕ) (r : Receiver) (m : List ℕ) (a : Arrival) (beside : Beside) (n : ℕ)
    → (arrival 64 time r m a).told ≡ given beside (refused n) → n ≤ 2
    → Unchanged r m (arrival 64 time r m a).receiver (arrival 64 time r m a).memory
refused_uncounted time r m a beside n = good.rules_uncounted 64 time r m beside n (brings 64 a)

-- "A packet refused with 3 or 15 to 22 counts as offered, and that tally is then the one further change to the
-- receiver" (document 02, #102): with 3 and 15 to 19, the one change, but that "packet refusals may also leave expired
-- slots free" (#106). What those are, and that the others stay, is said in Ages.antt.
pub refused_by_the_rules : (time : ℕ) (r : Receiver) (m : List ℕ) (a : Arrival) (beside : Beside) (n : ℕ)
    → (arrival 64 time r m a).told ≡ given beside (refused n) → 3 ≤ n → (n ≡ 20 → ⊥) → (n ≡ 21 → ⊥) → (n ≡ 22 → ⊥)
    → Unchanged (with_offered (expired time r)) m (arrival 64 time r m a).receiver (arrival 64 time r m a).memory
refused_by_the_rules time r m a beside n = good.rules_counted 64 time r m beside n (brings 64 a)

-- "but for the three refusals that free one slot (20, 21, 22)": each frees the slot that has the packet's key, and no
-- other, and leaves the memory
pub refused_and_freed : (time : ℕ) (r : Receiver) (m p : List ℕ) (a : Arrival) (beside : Beside) (n : ℕ)
    → brings 64 a ≡ packet p beside
    → (arrival 64 time r m a).told ≡ given beside (refused n) → 20 ≤ n
    → SlotFreed (key_of p) (with_offered (expired time r)) m (arrival 64 time r m a).receiver
    (arrival 64 time r m a).memory
refused_and_freed time r m p a beside n e = good.rules_freed 64 time r m p beside n (brings 64 a) e

-- a packet given to the message rules directly: the same
pub given_uncounted : (time : ℕ) (r : Receiver) (m p : List ℕ) (n : ℕ) → (step_of 64 time r m p).said ≡ refused n
    → n ≤ 2
    → Unchanged r m (step_of 64 time r m p).receiver (step_of 64 time r m p).memory
given_uncounted = rules.refused_uncounted 64

pub given_and_refused : (time : ℕ) (r : Receiver) (m p : List ℕ) (n : ℕ) → (step_of 64 time r m p).said ≡ refused n
    → 3 ≤ n → (n ≡ 20 → ⊥) → (n ≡ 21 → ⊥) → (n ≡ 22 → ⊥)
    → Unchanged (with_offered (expired time r)) m (step_of 64 time r m p).receiver (step_of 64 time r m p).memory
given_and_refused = rules.refused_counted 64

pub given_and_freed : (time : ℕ) (r : Receiver) (m p : List ℕ) (n : ℕ) → (step_of 64 time r m p).said ≡ refused n
    → 20 ≤ n
    → SlotFreed (key_of p) (with_offered (expired time r)) m (step_of 64 time r m p).receiver
    (step_of 64 time r m p).memory
given_and_freed = rules.refused_freed 64

-- a slot that is refused to be freed: the receiver stays, and no memory is lent to the call
pub not_freed : (r : Receiver) (i : ℕ) → (free_refusal 64 r i ≡ 0 → ⊥) → freed_of 64 r i ≡ r
not_freed = freed_refused 64

-- "and a ring packet that was already copied out": the output holds it at its front, and is unchanged where there is
-- none
pub ring_output : (ring : List ℕ) (configured : ℕ) (flags : Flags) (read write : ℕ) (out : List ℕ)
    → taking.output_of 64 ring configured (may_read (state_of flags)) read write out
    ≡ outputs.output_of (ring_brings 64 ring configured flags read write out) out
ring_output = outputs.ring_output 64

-- a ring cut out of a window by a configuration that was read from it never gets 1, in reading and in writing
pub cut_ring_is_never_1 : (window : List ℕ) (c : Configuration) (area : Area) → is_ring area ≡ true
    → described_of window ≡ found c
    → (readable running : Bool) (read write n : ℕ)
    → (taking.found_of 64 (area_of window c area) (area_place c area).length readable read write n ≡ taking.refused 1
    → ⊥)
    × (putting.entered_of 64 (length (area_of window c area)) (area_place c area).length running read write n
    ≡ putting.refused 1 → ⊥)
cut_ring_is_never_1 window c area is e readable running read write n =
    let right = cut_ring_right window c area is e in (
      found_not_1 64 (area_of window c area) (area_place c area).length readable read write n right,
      entered_not_1 64 (length (area_of window c area)) (area_place c area).length running read write n right,
    )

-- what is written to it changes that ring alone: descriptor, structures with their words, and the other ring stay
pub a_write_stays_in_its_ring : (window : List ℕ) (c : Configuration) (area : Area) → is_ring area ≡ true
    → described_of window ≡ found c
    → (configured : ℕ) (running : Bool) (read write : ℕ) (p : List ℕ)
    → RingChanged window c area (putting.written_of 64 (area_of window c area) configured running read write p)
a_write_stays_in_its_ring = write_stays

-- a word, and a pointer alone, that are refused to be stored: the window stays
pub not_stored : (window : List ℕ) (c : Configuration) (which : Pointer) (word : Word)
    → (store_refusal (length window) c which word.pointer ≡ 0 → ⊥)
    → stored window c which word ≡ window
not_stored = stored_refused

pub pointer_not_stored : (window : List ℕ) (c : Configuration) (which : Pointer) (pointer : ℕ)
    → (store_refusal (length window) c which pointer ≡ 0 → ⊥)
    → stored_pointer window c which pointer ≡ window
pointer_not_stored = pointer_refused

-- and the flags of a step, where the configuration is refused
pub flags_not_stored : (window : List ℕ) (c : Configuration) (change : Change) → allowed (length window) c ≡ false
    → stored_flags window c change ≡ window
flags_not_stored = flags_refused

-- a refused writer leaves what was lent to it
pub frame_not_written : (out p : List ℕ) (destination source : ℕ)
    → (frames.write_refusal 64 (length out) (length p) destination source ≡ 0 → ⊥)
    → frames.written_of 64 out p destination source ≡ out
frame_not_written out p destination source = output_unwritten 64 out p destination source

pub region_not_written : (region : List ℕ) (id : ℕ) (notify : Bool) (p : List ℕ)
    → 1 ≤ regions.write_refusal 64 (length region) id (length p)
    → regions.written_of 64 region id notify p ≡ region
region_not_written region id notify p = written_refused region p id notify 64

pub ring_not_written : (ring : List ℕ) (configured : ℕ) (running : Bool) (read write : ℕ) (p : List ℕ) (n : ℕ)
    → putting.entered_of 64 (length ring) configured running read write (length p) ≡ putting.refused n
    → putting.written_of 64 ring configured running read write p ≡ ring
ring_not_written ring configured running read write p n e =
    ap (λ (s : putting.Entered). putting.ring_after s ring write p) e

-- DEMAND 2: THE LAYOUTS AND THE MESSAGE RULES
--
-- "Frames read and frames written follow the DMTF layouts": a good frame is the layout of its packet, and so is a
-- written one.
pub good_frame_is_the_layout : (frame : List ℕ) (own : ℕ) (h : smbus.refusal_of 64 frame own ≡ 0)
    → frame ≡ frame_of own (smbus.source_address_of 64 frame own) (smbus.packet_of 64 frame own)
good_frame_is_the_layout = good.frame_layout 64

pub written_frame_is_the_layout : (out p : List ℕ) (destination source : ℕ)
    → frames.write_refusal 64 (length out) (length p) destination source ≡ 0
    → frames.written_of 64 out p destination source ≡ fronted out (frame_of destination source p)
written_frame_is_the_layout = output_written_lem 64

-- a good region is the layout of its packet with its own flags, of which bit 0 is notify, and a written one has no
-- other flag
pub good_region_is_the_layout : (region : List ℕ) (id : ℕ) → Below 256 region → pcc.refusal_of 64 region id ≡ 0
    → take (16 + length (pcc.packet_of 64 region id)) region
    ≡ region_with id (word_at low_first region 4) (pcc.packet_of 64 region id)
good_region_is_the_layout = good_front 64

pub written_region_is_the_layout : (region : List ℕ) (id : ℕ) (notify : Bool) (p : List ℕ)
    → regions.write_refusal 64 (length region) id (length p) ≡ 0
    → regions.written_of 64 region id notify p ≡ fronted region (region_of id notify p)
written_region_is_the_layout region id notify p = written_whole region p id notify 64

-- a packet taken out of a ring stands there from the read pointer on as Table 6 has it, with some reserved bits and
-- some padding of the right length; size and pointer are its own; and a written one has zeros there
pub good_ring_packet_is_the_layout : (ring : List ℕ) (configured : ℕ) (readable : Bool)
    (read write output size next : ℕ) → Below 256 ring
    → taking.found_of 64 ring configured readable read write output ≡ taking.packet size next
    → RingLayout (round_from read ring) (packet_of (round_from read ring))
    × (length (packet_of (round_from read ring)) ≡ size)
    × (next ≡ next_of configured read (whole_for size))
good_ring_packet_is_the_layout = ring_layout 64

pub written_ring_packet_is_the_layout : (ring : List ℕ) (configured : ℕ) (running : Bool) (read write : ℕ)
    (p : List ℕ) (next : ℕ)
    → putting.entered_of 64 (length ring) configured running read write (length p) ≡ putting.entered next
    → putting.written_of 64 ring configured running read write p ≡ rounds.stored ring write (ring_bytes p)
written_ring_packet_is_the_layout ring configured running read write p next e =
    ap (λ (s : putting.Entered). putting.ring_after s ring write p) e

-- "and messages are put together by the MCTP rules": packets of one key with start first, sequences rising modulo 4,
-- middles of the start's size, an end no longer, each within the limit of the one before it, are accepted whatever may
-- stand between; held is the sum of the bodies so far, the message is the bodies joined. The counts may wrap on the
-- way.
pub messages_are_put_together : (r : Receiver) (m : List ℕ) (first_at : ℕ) (first : List ℕ) (items : List Item)
    (final_at : ℕ) (final : List ℕ) (t : OneMessage 64 r m first_at first items final_at final)
    → Accepted (expired first_at r) first items final
    (run 64 r m (give first_at first ∷ (calls_of items ++ (give final_at final ∷ []))))
    (run 64 (step_of 64 first_at r m first).receiver (step_of 64 first_at r m first).memory (calls_of items))
    (slot_for (expired first_at r).slots (key_of first))
messages_are_put_together = acceptance 64

-- a message of one packet, with start and end, is done at once
pub a_message_of_one_packet : (time : ℕ) (r : Receiver) (m p : List ℕ) → right_state 64 r ≡ true → length m ≡ 4096
    → slot_for (expired time r).slots (key_of p) < 4 → Starts 64 r.setup p → end_of p ≡ true
    → AcceptedAlone (expired time r) p (run 64 r m (give time p ∷ [])) (slot_for (expired time r).slots (key_of p))
a_message_of_one_packet = single_accepted 64

-- "What is written reads back the same": "a frame at its destination address,"
pub frame_reads_back : (out p : List ℕ) (destination source : ℕ)
    → frames.write_refusal 64 (length out) (length p) destination source ≡ 0
    → brings 64 (by_smbus (take (frames.frame_size (length p)) (frames.written_of 64 out p destination source))
    destination) ≡ packet p (Source source)
frame_reads_back = good.frame_back 64

-- "a region under the same id,"
pub region_reads_back : (region : List ℕ) (id : ℕ) (notify : Bool) (p : List ℕ)
    → regions.write_refusal 64 (length region) id (length p) ≡ 0
    → brings 64 (by_pcc (regions.written_of 64 region id notify p) id) ≡ packet p (Notify notify)
region_reads_back = good.region_back 64

-- "a ring from the old write pointer."
pub ring_reads_back : (ring : List ℕ) (configured : ℕ) (running : Bool) (read write : ℕ) (p : List ℕ) (next : ℕ)
    (flags : Flags) (out : List ℕ)
    → putting.entered_of 64 (length ring) configured running read write (length p) ≡ putting.entered next
    → may_read (state_of flags) ≡ true → 68 ≤ length out
    → brings 64 (by_ring (putting.written_of 64 ring configured running read write p) configured flags write next
    out) ≡ packet p (Next next)
ring_reads_back = good.ring_back 64

-- "Don't drop what is already in the ring. .. Reading is now allowed in normal runtime and in both reset-asked states"
-- (document 02, #104): packets queued in normal runtime, as many as fit, are read back the same and in order, each in
-- normal runtime (1010), or while the host (1011) or the controller (1110) asks for a reset
pub what_is_queued_is_read_back : (ring : List ℕ) (configured pointer : ℕ) (packets : List (List ℕ))
    (states : List Flags) (out : List ℕ)
    → set_up_right 64 configured (length ring) ≡ true → pointer_right configured pointer ≡ true
    → all_sized 64 packets ≡ true → space_for packets + 4 ≤ configured
    → all_readable states ≡ true → length states ≡ length packets → 68 ≤ length out
    → read_all 64 configured (queued 64 configured ring pointer packets).ring out
    (queued 64 configured ring pointer packets).write states pointer ≡ packets
what_is_queued_is_read_back ring configured pointer packets states out right at sized fits may many long =
    fifo 64 configured pointer packets states may out long ring right at sized fits many

-- so are those that are still there, whatever was written and read before: the packets whose bytes are what is filled
pub what_is_still_there_is_read_back : (ring : List ℕ) (configured read write : ℕ) (packets : List (List ℕ))
    (states : List Flags) (out : List ℕ)
    → set_up_right 64 configured (length ring) ≡ true → pointers_right configured read write ≡ true
    → all_sized 64 packets ≡ true → take (filled_of configured read write) (round_from read ring) ≡ all_bytes packets
    → all_readable states ≡ true → length states ≡ length packets → 68 ≤ length out
    → read_all 64 configured ring out write states read ≡ packets
what_is_still_there_is_read_back ring configured read write packets states out right at sized bytes may many long =
    filled_back 64 configured read packets states may out long ring write right at sized bytes many

-- "writing stays in normal runtime only": one more packet, while one end alone asks for a reset, is refused with 11,
-- and the ring stays as it is
pub nothing_is_queued_while_a_reset_is_asked : (ring : List ℕ) (configured read write : ℕ) (p : List ℕ)
    → set_up_right 64 configured (length ring) ≡ true → size_right 64 (length p) ≡ true
    → ((putting.entered_of 64 (length ring) configured (may_write (state_of asked_by_host)) read write (length p)
    ≡ putting.refused 11)
    × (putting.written_of 64 ring configured (may_write (state_of asked_by_host)) read write p ≡ ring))
    × ((putting.entered_of 64 (length ring) configured (may_write (state_of asked_by_controller)) read write (length p)
    ≡ putting.refused 11)
    × (putting.written_of 64 ring configured (may_write (state_of asked_by_controller)) read write p ≡ ring))
unfolding state_of
nothing_is_queued_while_a_reset_is_asked ring configured read write p right sized = (
  not_queued 64 ring configured asked_by_host read write p right sized refl,
  not_queued 64 ring configured asked_by_controller read write p right sized refl,
)

-- DEMAND 3: THE PATH DOESN'T MATTER
--
-- "Present a fresh receiver with any finite list of arrivals, good, bad or empty, on the three paths mixed at will.
-- What the message rules answer to the good arrivals, the messages, the end state and the message memory are those that
-- demand 2's rules give to the bare packets of the good arrivals, in that order, from the same starting memory."
-- "Demand 3 gives both sides the same counts" (document 02, #106): any counts
pub the_path_does_not_matter : (s : Setup) (m : List ℕ) (arrivals : List (ℕ × Arrival))
    → present 64 (fresh s) m arrivals ≡ run_packets 64 (fresh s) m (packets_of 64 arrivals)
the_path_does_not_matter s m arrivals = presented 64 arrivals (fresh s) m

-- a fresh receiver isn't special: the same from any state and memory
pub from_any_state : (r : Receiver) (m : List ℕ) (arrivals : List (ℕ × Arrival))
    → present 64 r m arrivals ≡ run_packets 64 r m (packets_of 64 arrivals)
from_any_state r m arrivals = presented 64 arrivals r m

-- "Every packet of 5 to 68 bytes has a good arrival on each path.": a frame of bytes between any two addresses,
pub every_packet_by_smbus : (p : List ℕ) (destination source : ℕ) → Below 256 p → size_right 64 (length p) ≡ true
    → destination ≤ 127 → source ≤ 127
    → Below 256 (frame_of destination source p)
    × (brings 64 (by_smbus (frame_of destination source p) destination) ≡ packet p (Source source))
every_packet_by_smbus p = good.every_frame p

-- a region of bytes under any id,
pub every_packet_by_pcc : (p : List ℕ) (id : ℕ) (notify : Bool) → Below 256 p → size_right 64 (length p) ≡ true
    → id ≤ 255
    → Below 256 (region_for id notify p) × (brings 64 (by_pcc (region_for id notify p) id) ≡ packet p (Notify notify))
every_packet_by_pcc p = good.every_region p

-- and a ring of bytes of any right length. "Demand 3's good arrivals now include ring arrivals in these two states"
-- (document 02, #104): in normal runtime (1010), and while the host (1011) or the controller (1110) asks for a reset
pub every_packet_by_ring : (p : List ℕ) (configured : ℕ) (flags : Flags) (out : List ℕ) → Below 256 p
    → size_right 64 (length p) ≡ true
    → length_right configured ≡ true → may_read (state_of flags) ≡ true → 68 ≤ length out
    → Below 256 (arrival_ring configured p)
    × (brings 64 (by_ring (arrival_ring configured p) configured flags 0 (whole_for (length p)) out)
    ≡ packet p (Next (whole_for (length p))))
every_packet_by_ring p = good.every_ring p

-- of which three are for every packet: 128 bytes and an output of 68, in each of the three states
pub every_packet_by_a_ring : (p : List ℕ) → Below 256 p → size_right 64 (length p) ≡ true
    → Below 256 (arrival_ring 128 p)
    × (map
    (λ (flags : Flags). brings 64 (by_ring (arrival_ring 128 p) 128 flags 0 (whole_for (length p)) (replicate 68 0)))
    (normal_runtime ∷ asked_by_host ∷ asked_by_controller ∷ [])
    ≡ replicate 3 (packet p (Next (whole_for (length p)))))
unfolding state_of
every_packet_by_a_ring p b sized =
    let runs = every_packet_by_ring p 128 normal_runtime (replicate 68 0) b sized refl refl (lit≤ tt) in
    let host = every_packet_by_ring p 128 asked_by_host (replicate 68 0) b sized refl refl (lit≤ tt) in
    let controller = every_packet_by_ring p 128 asked_by_controller (replicate 68 0) b sized refl refl (lit≤ tt) in
    (runs.0, rw (runs.1, host.1, controller.1))

-- "A good SMBus frame with one or more bits changed, all within eight neighbouring bits in wire order, is refused.": at
-- every own address
pub changed_frame_is_refused : (frame changed : List ℕ) → Below 256 frame → Below 256 changed
    → WindowChange frame changed
    → (own : ℕ) → smbus.refusal_of 64 frame own ≡ 0 → (other : ℕ) → smbus.refusal_of 64 changed other ≡ 0 → ⊥
changed_frame_is_refused frame changed b c w own e other = window_refused frame changed b c w 64 own e 64 other

-- "a good SMBus frame of any permitted length with one, three, or any other odd number of bits changed, anywhere, the
-- PEC included, is refused" (document 02, #113): at every own address, and at every largest body
pub odd_change_is_refused : (frame changed : List ℕ) → Below 256 frame → Below 256 changed → OddChange frame changed
    → (most own : ℕ) → smbus.refusal_of most frame own ≡ 0
    → (most' other : ℕ) → smbus.refusal_of most' changed other ≡ 0 → ⊥
odd_change_is_refused = odd_refused
