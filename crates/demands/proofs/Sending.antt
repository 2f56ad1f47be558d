-- Cutting a message into packets, sentence by sentence (document 02, #101), each a theorem over the definitions that
-- the public contracts cite. 64 is the base's largest body.
-- Assumes nothing.
use mathlib.Core.Path.{◌≡◌, refl, sym}
use mathlib.Core.Bool.{Bool, true}
use mathlib.Core.List.{List, ◌++◌, flatten}
use mathlib.Core.Logic.{◌⊎◌}
use Prim.Native.Nat.{ℕ, ◌≤◌, ◌<◌}
use native.Mathlib.Omega.{arith}
use lib.ListN.{length}
use Rattle.octets.specs.Bytes.{fronted}
use Rattle.octets.specs.Checks.{Hold}
use Rattle.octets.proofs.Choice.{within_holds}
use Rattle.mctp.specs.Packet.{body_right}
use Rattle.smbus.specs.Writing as frames
use Rattle.pcc.specs.Writing as regions
use Rattle.mmbi.specs.declared.interface.Flags.{Flags}
use Rattle.mmbi.specs.declared.pointer.Pointers.{Pointers}
use Rattle.mmbi.specs.Interface.{state_of, may_write}
use Rattle.ring.specs.Writing as rings
use Rattle.ring.specs.Writing.{refused}
use Rattle.slots.specs.declared.state.Setup.{Setup}
use Rattle.slots.specs.Changes.{fresh}
use Rattle.slots.specs.Setup.{right_setup, ours_of}
use Rattle.decision.specs.Checks.{packet_order, source_order}
use Rattle.messages.specs.Run.{at_once, run_packets}
use Rattle.sender.specs.declared.heading.Heading.{Heading}
use Rattle.sender.specs.Cutting.{packets_in, packet_at, heading_right, message_right, count_of, cut_refusal}
use Rattle.sender.specs.Sending.{output_refusal, output_size, output_written, smbus_refusal, smbus_size, smbus_written}
use Rattle.sender.specs.Sending.{pcc_refusal, pcc_written, ring_entered, ring_written}
use Rattle.sender.specs.Whole.{all_packets, all_bodies}
use Rattle.sender.specs.Ranges.{InRange, NoMessage}
use Rattle.sender.proofs.Ranges.{one_exactly_out_of_range, three_exactly_no_message}
use Rattle.sender.proofs.Cuts.{there_exactly, in_range}
use Rattle.sender.proofs.Packets.{all_counted, bodies_joined}
use Rattle.sender.proofs.Sendings.{by_output, no_room, by_smbus_lem, by_pcc_lem, by_ring_lem}
use Rattle.sender.proofs.Sendings.{output_unwritten, smbus_unwritten, pcc_unwritten, ring_unwritten}
use Rattle.demands.specs.Presenting.{present}
use Rattle.demands.specs.Sending.{GivesMessage}
use Rattle.demands.specs.Ways.{Way, Goes, arrivals, way_right}
use Rattle.demands.proofs.Demands.{the_path_does_not_matter}
use Rattle.demands.proofs.Fed.{packet_checked, fed_in_order}
use Rattle.demands.proofs.Ways.{sent_packets, right_way_goes}

-- "Given a message of 1 to 1,024 bytes, a destination (0, 8 to 254 or 255), a source (0 or 8 to 254), tag owner, tag
-- and first sequence number": all of these are right
pub these_may_be_sent : (heading : Heading) (message : List ℕ)
    → let d = heading.key.destination.0 in let s = heading.key.source.0 in
    (d ≡ 0) ⊎ (8 ≤ d) → (s ≡ 0) ⊎ (8 ≤ s) → s ≤ 254 → heading.key.tag ≤ 7 → heading.first ≤ 3
    → 1 ≤ length message → length message ≤ 1024
    → (heading_right heading ≡ true) × (message_right (length message) ≡ true)
these_may_be_sent heading message d s below tag first some most =
    (in_range heading d s below tag first, within_holds 1 1024 (length message) some most)

-- "Refusals: 1 for a number out of range": exactly so, every number, whatever the message and k; an EID is a byte
pub one_exactly_if_out_of_range : (heading : Heading) → heading.key.source.0 ≤ 255 → (message : List ℕ) (k : ℕ)
    → ((InRange heading → ⊥) → cut_refusal 64 heading (length message) k ≡ 1)
    × (cut_refusal 64 heading (length message) k ≡ 1 → InRange heading → ⊥)
one_exactly_if_out_of_range heading byte message k =
    one_exactly_out_of_range heading byte 64 (length message) k refl

-- "then 3 for the message": exactly where it has no byte or more than 1,024, whatever k
pub three_exactly_if_no_message : (heading : Heading) → heading.key.source.0 ≤ 255 → InRange heading
    → (message : List ℕ) (k : ℕ)
    → (NoMessage (length message) → cut_refusal 64 heading (length message) k ≡ 3)
    × (cut_refusal 64 heading (length message) k ≡ 3 → NoMessage (length message))
three_exactly_if_no_message heading byte right message k =
    three_exactly_no_message heading byte 64 (length message) k refl right

-- "give packet k of it, k from 0": there is one exactly if k is below their number; "23 for k past the end" exactly if
-- it isn't
pub a_packet_is_there_or_past_the_end : (heading : Heading) (message : List ℕ) (k : ℕ)
    → heading_right heading ≡ true → message_right (length message) ≡ true
    → (k < packets_in 64 (length message) → cut_refusal 64 heading (length message) k ≡ 0)
    × (packets_in 64 (length message) ≤ k → cut_refusal 64 heading (length message) k ≡ 23)
a_packet_is_there_or_past_the_end heading message k = there_exactly 64 heading (length message) k refl

-- it goes to the front of every output that holds it, and "2 for a bare packet's output" that doesn't
pub an_output_takes_packet_k : (heading : Heading) (message : List ℕ) (k : ℕ) (out : List ℕ)
    → cut_refusal 64 heading (length message) k ≡ 0
    → (length (packet_at 64 heading message k) ≤ length out
    → (output_refusal 64 heading message k (length out) ≡ 0)
    × (output_size 64 heading message k (length out) ≡ length (packet_at 64 heading message k))
    × (output_written 64 heading message k out ≡ fronted out (packet_at 64 heading message k)))
    × (length out < length (packet_at 64 heading message k) → output_refusal 64 heading message k (length out) ≡ 2)
an_output_takes_packet_k heading message k out e =
    let p = packet_at 64 heading message k in (
      (λ h. let is = by_output 64 heading message k e p refl out h in (sym is.0, sym is.1, sym is.2)),
      (λ h. sym (no_room 64 heading message k e p refl out h).0),
    )

-- "then the carrier's own": on a path it is answered, and written, as the carrier's writer has packet k
pub as_smbus_writes_it : (heading : Heading) (message : List ℕ) (k : ℕ) (out : List ℕ) (destination source : ℕ)
    → cut_refusal 64 heading (length message) k ≡ 0
    → (smbus_refusal 64 heading message k (length out) destination source
    ≡ frames.write_refusal 64 (length out) (length (packet_at 64 heading message k)) destination source)
    × (smbus_size 64 heading message k (length out) destination source
    ≡ frames.size_of 64 (length out) (length (packet_at 64 heading message k)) destination source)
    × (smbus_written 64 heading message k out destination source
    ≡ frames.written_of 64 out (packet_at 64 heading message k) destination source)
as_smbus_writes_it heading message k out destination source e =
    let is = by_smbus_lem 64 heading message k e (packet_at 64 heading message k) refl out destination source in
    (sym is.0, sym is.1, sym is.2)

pub as_pcc_writes_it : (heading : Heading) (message : List ℕ) (k : ℕ) (region : List ℕ) (id : ℕ) (notify : Bool)
    → cut_refusal 64 heading (length message) k ≡ 0
    → (pcc_refusal 64 heading message k (length region) id
    ≡ regions.write_refusal 64 (length region) id (length (packet_at 64 heading message k)))
    × (pcc_written 64 heading message k region id notify
    ≡ regions.written_of 64 region id notify (packet_at 64 heading message k))
as_pcc_writes_it heading message k region id notify e =
    let is = by_pcc_lem 64 heading message k e (packet_at 64 heading message k) refl region id notify in
    (sym is.0, sym is.1)

pub as_a_ring_writes_it : (heading : Heading) (message : List ℕ) (k : ℕ) (ring : List ℕ) (configured : ℕ)
    (flags : Flags) (pointers : Pointers)
    → cut_refusal 64 heading (length message) k ≡ 0
    → (ring_entered 64 heading message k (length ring) configured flags pointers
    ≡ rings.entered_of 64 (length ring) configured (may_write (state_of flags)) pointers.read pointers.write
    (length (packet_at 64 heading message k)))
    × (ring_written 64 heading message k ring configured flags pointers
    ≡ rings.written_of 64 ring configured (may_write (state_of flags)) pointers.read pointers.write
    (packet_at 64 heading message k))
as_a_ring_writes_it heading message k ring configured flags pointers e =
    let is = by_ring_lem 64 heading message k e (packet_at 64 heading message k) refl ring configured flags pointers in
    (sym is.0, sym is.1)

-- "their number is its length divided by 64, rounded up": what the counting call tells is how many there are
pub their_number_is_told : (heading : Heading) (message : List ℕ) → message_right (length message) ≡ true
    → count_of 64 (length message) ≡ length (all_packets 64 heading message)
their_number_is_told heading message = all_counted 64 heading message refl

-- "bodies of 64, the last shorter or equal": joined, they are the message
pub their_bodies_are_the_message : (message : List ℕ) → flatten (all_bodies 64 message) ≡ message
their_bodies_are_the_message message = bodies_joined 64 message refl

-- every packet is one that the message rules take: size, version, destination and source
pub the_rules_take_every_packet : (s : Setup) (heading : Heading) (message : List ℕ) (k : ℕ)
    → ours_of s heading.key.destination.0 ≡ true → heading_right heading ≡ true → k < packets_in 64 (length message)
    → Hold (packet_order 64 s (packet_at 64 heading message k) ++ source_order (packet_at 64 heading message k))
the_rules_take_every_packet s heading message k =
    packet_checked 64 64 s heading message k refl (omega arith)

-- "Fed in order to a fresh receiver which the destination suits, they give that message": held, held, .., done in slot
-- 0; that message and nothing else; every slot free at the end; from any memory, of which the front alone changes.
-- "#101's packets are fed at one time" (document 02, #106): at any count of 32 bits
pub they_give_that_message : (time : ℕ) (s : Setup) (m : List ℕ) (heading : Heading) (message : List ℕ)
    → right_setup s ≡ true → ours_of s heading.key.destination.0 ≡ true
    → heading_right heading ≡ true → message_right (length message) ≡ true → length m ≡ 4096
    → time < 4294967296
    → GivesMessage 64 s m message (run_packets 64 (fresh s) m (at_once time (all_packets 64 heading message)))
they_give_that_message time s m heading message =
    fed_in_order 64 64 time s m heading message refl refl (omega arith)

-- so they do for every largest body, at a receiver whose own is as large or larger
pub they_give_it_to_a_larger_receiver : (most most' time : ℕ) (s : Setup) (m : List ℕ) (heading : Heading)
    (message : List ℕ)
    → body_right most ≡ true → body_right most' ≡ true → most ≤ most'
    → right_setup s ≡ true → ours_of s heading.key.destination.0 ≡ true
    → heading_right heading ≡ true → message_right (length message) ≡ true → length m ≡ 4096
    → time < 4294967296
    → GivesMessage most s m message (run_packets most' (fresh s) m (at_once time (all_packets most heading message)))
they_give_it_to_a_larger_receiver = fed_in_order

-- "Packet k also goes straight onto any of the three paths.": each packet on a path of its own, none refused, and what
-- was written presented as arrivals
pub they_give_it_on_any_mix_of_paths : (time : ℕ) (s : Setup) (m : List ℕ) (heading : Heading) (message : List ℕ)
    (ways : ℕ → Way)
    → right_setup s ≡ true → ours_of s heading.key.destination.0 ≡ true
    → heading_right heading ≡ true → message_right (length message) ≡ true → length m ≡ 4096
    → time < 4294967296
    → ((k : ℕ) → k < packets_in 64 (length message) → Goes 64 heading message (ways k) k)
    → GivesMessage 64 s m message (present 64 (fresh s) m (at_once time (arrivals 64 heading message ways)))
they_give_it_on_any_mix_of_paths time s m heading message ways right ours numbers sized memory bits goes =
    rw (
      the_path_does_not_matter s m (at_once time (arrivals 64 heading message ways)),
      sent_packets 64 heading message ways time goes,
    )
    (they_give_that_message time s m heading message right ours numbers sized memory bits)

-- and none is refused where the carriers' numbers are right: addresses, id, outputs, and a ring that is empty at any
-- right pointer, in normal runtime
pub right_numbers_are_never_refused : (heading : Heading) (message : List ℕ) (way : Way) (k : ℕ)
    → heading_right heading ≡ true → message_right (length message) ≡ true → k < packets_in 64 (length message)
    → way_right way ≡ true → Goes 64 heading message way k
right_numbers_are_never_refused heading message way k numbers sized h right =
    right_way_goes heading message way k right
    ((a_packet_is_there_or_past_the_end heading message k numbers sized).0 h)

-- "nothing is written": where an answer is a refusal, every lent byte stays
pub nothing_is_written_to_an_output : (heading : Heading) (message : List ℕ) (k : ℕ) (out : List ℕ)
    → (output_refusal 64 heading message k (length out) ≡ 0 → ⊥) → output_written 64 heading message k out ≡ out
nothing_is_written_to_an_output = output_unwritten 64

pub nothing_is_written_as_a_frame : (heading : Heading) (message : List ℕ) (k : ℕ) (out : List ℕ)
    (destination source : ℕ)
    → (smbus_refusal 64 heading message k (length out) destination source ≡ 0 → ⊥)
    → smbus_written 64 heading message k out destination source ≡ out
nothing_is_written_as_a_frame = smbus_unwritten 64

pub nothing_is_written_to_a_region : (heading : Heading) (message : List ℕ) (k : ℕ) (region : List ℕ) (id : ℕ)
    (notify : Bool)
    → (pcc_refusal 64 heading message k (length region) id ≡ 0 → ⊥)
    → pcc_written 64 heading message k region id notify ≡ region
nothing_is_written_to_a_region = pcc_unwritten 64

pub nothing_is_written_to_a_ring : (heading : Heading) (message : List ℕ) (k : ℕ) (ring : List ℕ) (configured : ℕ)
    (flags : Flags) (pointers : Pointers) (n : ℕ)
    → ring_entered 64 heading message k (length ring) configured flags pointers ≡ refused n
    → ring_written 64 heading message k ring configured flags pointers ≡ ring
nothing_is_written_to_a_ring = ring_unwritten 64
