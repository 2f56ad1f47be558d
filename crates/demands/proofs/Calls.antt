-- What the demands speak of is what the calls promise: the contract of each call that no other call's proof needs, said
-- over its own arguments. (rack's `from-..-arrives` and messages' `Said` do the same for arrivals, `give`, `free` and
-- `message`.) A contract that is wrong with its code alone would still leave no choice; here it meets the definition.
-- Assumes nothing.
use mathlib.Core.Path.{◌≡◌}
use mathlib.Core.List.{◌++◌}
use contract.Lifetimes.{Lfts}
use lib.ListN.{length}
use Rattle.smbus.specs.Answers as smbus-says
use Rattle.smbus.specs.Reading as smbus
use Rattle.smbus.specs.Writing as frames
use Rattle.smbus.proofs.packet.Reads as smbus_packet
use Rattle.smbus.proofs.refusal.Reads as smbus-refusal
use Rattle.smbus.proofs.source.Reads as smbus-source
use Rattle.smbus.proofs.write.Reads as smbus-write
use Rattle.smbus.proofs.write_apart.Reads as smbus-write-apart
use Rattle.pcc.specs.Answers.{number_written}
use Rattle.pcc.specs.Reading as pcc
use Rattle.pcc.specs.Writing as regions
use Rattle.pcc.proofs.packet.Reads as pcc_packet
use Rattle.pcc.proofs.refusal.Reads as pcc-refusal
use Rattle.pcc.proofs.notify.Reads as pcc-notify
use Rattle.pcc.proofs.write.Reads as pcc-write
use Rattle.pcc.proofs.write_apart.Reads as pcc-write-apart
use Rattle.mmbi.specs.Changes.{changed_flags}
use Rattle.mmbi.specs.Interface.{state_of, is_transient, may_write}
use Rattle.mmbi.proofs.Flags.changed.Reads as changed-flags
use Rattle.mmbi.proofs.InterfaceState.is_transient.Reads as transient
use Rattle.handshake.specs.Phases.{host_number, host_refusal, host_stored, host_asked, stored_refusal, stored_number}
use Rattle.handshake.specs.Phases.{controller_number, controller_refusal, controller_stored, controller_asked}
use Rattle.handshake.specs.Starts.{host_at_power_up, host_from_flags, controller_at_power_up, controller_from_flags}
use Rattle.handshake.specs.Steps.{host_step, controller_step}
use Rattle.handshake.proofs.host.HostPhasePhase.step.Reads as host-step
use Rattle.handshake.proofs.host.HostPhasePhase.ask.Reads as host-ask
use Rattle.handshake.proofs.host.HostPhasePhase.number.Reads as host-number
use Rattle.handshake.proofs.host.HostPhasePhase.of_number.Reads as host-of-number
use Rattle.handshake.proofs.host.HostPhasePhase.at_power_up.Reads as host-at-power-up
use Rattle.handshake.proofs.host.HostPhasePhase.from_flags.Reads as host-from-flags
use Rattle.handshake.proofs.controller.ControllerPhasePhase.step.Reads as controller-step
use Rattle.handshake.proofs.controller.ControllerPhasePhase.ask.Reads as controller-ask
use Rattle.handshake.proofs.controller.ControllerPhasePhase.number.Reads as controller-number
use Rattle.handshake.proofs.controller.ControllerPhasePhase.of_number.Reads as controller-of-number
use Rattle.handshake.proofs.controller.ControllerPhasePhase.at_power_up.Reads as controller-at-power-up
use Rattle.handshake.proofs.controller.ControllerPhasePhase.from_flags.Reads as controller-from-flags
use Rattle.ring.specs.Writing as putting
use Rattle.ring.specs.Answers.{entered_in}
use Rattle.ring.proofs.write.Reads as ring-write
use Rattle.ring.proofs.write_apart.Reads as ring-write-apart
use Rattle.mctp.specs.Key.{header_bytes}
use Rattle.mctp.proofs.header_bytes.Reads as header-bytes
use Rattle.sender.specs.Answers as sender-says
use Rattle.sender.specs.Cutting.{count_refusal, count_of}
use Rattle.sender.specs.Sending as sent
use Rattle.sender.proofs.count.Reads as count
use Rattle.sender.proofs.to_output.Reads as to-output
use Rattle.sender.proofs.to_smbus.Reads as to-smbus
use Rattle.sender.proofs.to_pcc.Reads as to-pcc
use Rattle.sender.proofs.to_ring.Reads as to-ring
use Rattle.descriptor.specs.Reading.{described_in, described_of}
use Rattle.descriptor.proofs.read_descriptor.Reads as read-descriptor
use Rattle.mctp.specs.Refusals.{outcome_number}
use Rattle.slots.specs.Changes.{set_up_refusal, set_up_of}
use Rattle.slots.proofs.set_up.Reads as set_up
use Rattle.slots.proofs.tallies_of.Reads as tallies-of
use Rattle.window.specs.Places.{refusal_of, place_in, area_of}
use Rattle.window.specs.Words.{interface_in, store_refusal, stored, stored_pointer, stored_flags}
use Rattle.window.proofs.check.Reads as window-check
use Rattle.window.proofs.place_of.Reads as place_of
use Rattle.window.proofs.area.Reads as area
use Rattle.window.proofs.interface_of.Reads as interface-of
use Rattle.window.proofs.store.Reads as store
use Rattle.window.proofs.store_flags.Reads as store-flags
use Rattle.window.proofs.store_pointer.Reads as store-pointer

-- SMBus: a frame and the own address; an output, a packet, the destination's and the source's address
pub smbus_packet_is : (κs : Lfts 1) (a r e : _) → smbus_packet.Post κs a r e → r.now
    ≡ smbus.packet_of 64 a.0.now a.1.0
smbus_packet_is κs a r e p = p

pub smbus_refusal_is : (κs : Lfts 1) (a r e : _) → smbus-refusal.Post κs a r e → r
    ≡ smbus.refusal_of 64 a.0.now a.1.0
smbus_refusal_is κs a r e p = p

pub smbus_source_is : (κs : Lfts 1) (a r e : _) → smbus-source.Post κs a r e
    → r ≡ smbus.source_address_of 64 a.0.now a.1.0
smbus_source_is κs a r e p = p

pub smbus_write_is : (κs : Lfts 2) (a r e : _) → smbus-write.Post κs a r e
    → (smbus-says.number_written r
    ≡ frames.write_refusal 64 (length a.0.now) (length a.1.0.now) a.1.1.0 a.1.1.1.0)
    × (smbus-says.size_written r
    ≡ frames.size_of 64 (length a.0.now) (length a.1.0.now) a.1.1.0 a.1.1.1.0)
    × (e.0.now ≡ frames.written_of 64 a.0.now a.1.0.now a.1.1.0 a.1.1.1.0)
smbus_write_is κs a r e p = (p.0, p.1.0, p.1.1)

-- the same with the largest body first, and the packet in two pieces
pub smbus_write_apart_is : (κs : Lfts 2) (a r e : _) → smbus-write-apart.Post κs a r e
    → let packet = a.1.1.0.header.now ++ a.1.1.0.body.now in
    (smbus-says.number_written r
    ≡ frames.write_refusal a.0 (length a.1.0.now) (length packet) a.1.1.1.0 a.1.1.1.1.0)
    × (smbus-says.size_written r
    ≡ frames.size_of a.0 (length a.1.0.now) (length packet) a.1.1.1.0 a.1.1.1.1.0)
    × (e.1.0.now ≡ frames.written_of a.0 a.1.0.now packet a.1.1.1.0 a.1.1.1.1.0)
smbus_write_apart_is κs a r e p = (p.0, p.1.0, p.1.1)

-- PCC: a region and its id; a region, its id, the notify flag and a packet
pub pcc_packet_is : (κs : Lfts 1) (a r e : _) → pcc_packet.Post κs a r e → r.now ≡ pcc.packet_of 64 a.0.now a.1.0
pcc_packet_is κs a r e p = p

pub pcc_refusal_is : (κs : Lfts 1) (a r e : _) → pcc-refusal.Post κs a r e → r ≡ pcc.refusal_of 64 a.0.now a.1.0
pcc_refusal_is κs a r e p = p

pub pcc_notify_is : (κs : Lfts 1) (a r e : _) → pcc-notify.Post κs a r e → r ≡ pcc.notify_of 64 a.0.now a.1.0
pcc_notify_is κs a r e p = p

pub pcc_write_is : (κs : Lfts 2) (a r e : _) → pcc-write.Post κs a r e
    → (number_written r ≡ regions.write_refusal 64 (length a.0.now) a.1.0 (length a.1.1.1.0.now))
    × (e.0.now ≡ regions.written_of 64 a.0.now a.1.0 a.1.1.0 a.1.1.1.0.now)
pcc_write_is κs a r e p = (p.0, p.1)

pub pcc_write_apart_is : (κs : Lfts 2) (a r e : _) → pcc-write-apart.Post κs a r e
    → let packet = a.1.1.1.1.0.header.now ++ a.1.1.1.1.0.body.now in
    (number_written r ≡ regions.write_refusal a.0 (length a.1.0.now) a.1.1.0 (length packet))
    × (e.1.0.now ≡ regions.written_of a.0 a.1.0.now a.1.1.0 a.1.1.1.0 packet)
pcc_write_apart_is κs a r e p = (p.0, p.1)

-- the ring: its bytes, what is offered beside them (the configured length, the flags, the pointers), and a packet
pub ring_write_is : (κs : Lfts 2) (a r e : _) → ring-write.Post κs a r e
    → let o = a.1.0 in
    let running = may_write (state_of o.flags) in
    (entered_in r
    ≡ putting.entered_of 64 (length a.0.now) o.configured running o.pointers.read o.pointers.write
    (length a.1.1.0.now))
    × (e.0.now ≡ putting.written_of 64 a.0.now o.configured running o.pointers.read o.pointers.write a.1.1.0.now)
ring_write_is κs a r e p = (p.0, p.1)

pub ring_write_apart_is : (κs : Lfts 2) (a r e : _) → ring-write-apart.Post κs a r e
    → let packet = a.1.1.1.0.header.now ++ a.1.1.1.0.body.now in
    let o = a.1.1.0 in
    let running = may_write (state_of o.flags) in
    (entered_in r
    ≡ putting.entered_of a.0 (length a.1.0.now) o.configured running o.pointers.read o.pointers.write
    (length packet))
    × (e.1.0.now
    ≡ putting.written_of a.0 a.1.0.now o.configured running o.pointers.read o.pointers.write packet)
ring_write_apart_is κs a r e p = (p.0, p.1)

-- the sender: a header; a message; an output, a message, its heading and k; and what the carrier's writer takes, with
-- these three in the packet's place
pub header_bytes_is : (κs : Lfts 0) (a r e : _) → header-bytes.Post κs a r e → r ≡ header_bytes a.0
header_bytes_is κs a r e p = p

pub count_is : (κs : Lfts 1) (a r e : _) → count.Post κs a r e
    → (sender-says.number_counted r ≡ count_refusal 64 (length a.0.now))
    × (sender-says.packets_counted r ≡ count_of 64 (length a.0.now))
count_is κs a r e p = (p.0, p.1)

pub to_output_is : (κs : Lfts 2) (a r e : _) → to-output.Post κs a r e
    → (sender-says.number_cut r
    ≡ sent.output_refusal 64 a.1.0.heading a.1.0.bytes.now a.1.1.0 (length a.0.now))
    × (sender-says.size_cut r ≡ sent.output_size 64 a.1.0.heading a.1.0.bytes.now a.1.1.0 (length a.0.now))
    × (e.0.now ≡ sent.output_written 64 a.1.0.heading a.1.0.bytes.now a.1.1.0 a.0.now)
to_output_is κs a r e p = (p.0, p.1.0, p.1.1)

pub to_smbus_is : (κs : Lfts 2) (a r e : _) → to-smbus.Post κs a r e
    → let message = a.1.0.bytes.now in
    let heading = a.1.0.heading in
    let k = a.1.1.0 in
    let destination = a.1.1.1.0 in
    let source = a.1.1.1.1.0 in
    (smbus-says.number_written r
    ≡ sent.smbus_refusal 64 heading message k (length a.0.now) destination source)
    × (smbus-says.size_written r ≡ sent.smbus_size 64 heading message k (length a.0.now) destination source)
    × (e.0.now ≡ sent.smbus_written 64 heading message k a.0.now destination source)
to_smbus_is κs a r e p = (p.0, p.1.0, p.1.1)

pub to_pcc_is : (κs : Lfts 2) (a r e : _) → to-pcc.Post κs a r e
    → let message = a.1.1.1.0.bytes.now in
    let heading = a.1.1.1.0.heading in
    let k = a.1.1.1.1.0 in
    (number_written r ≡ sent.pcc_refusal 64 heading message k (length a.0.now) a.1.0)
    × (e.0.now ≡ sent.pcc_written 64 heading message k a.0.now a.1.0 a.1.1.0)
to_pcc_is κs a r e p = (p.0, p.1)

pub to_ring_is : (κs : Lfts 2) (a r e : _) → to-ring.Post κs a r e
    → let o = a.1.0 in
    let message = a.1.1.0.bytes.now in
    let heading = a.1.1.0.heading in
    let k = a.1.1.1.0 in
    (entered_in r
    ≡ sent.ring_entered 64 heading message k (length a.0.now) o.configured o.flags o.pointers)
    × (e.0.now ≡ sent.ring_written 64 heading message k a.0.now o.configured o.flags o.pointers)
to_ring_is κs a r e p = (p.0, p.1)

-- the window, by itself; with a configuration, and then an area, or a word's place with a word or a pointer
pub read_descriptor_is : (κs : Lfts 1) (a r e : _) → read-descriptor.Post κs a r e
    → described_in r ≡ described_of a.0.now
read_descriptor_is κs a r e p = p

pub window_check_is : (κs : Lfts 1) (a r e : _) → window-check.Post κs a r e
    → outcome_number r ≡ refusal_of (length a.0.now) a.1.0
window_check_is κs a r e p = p

pub place_of_is : (κs : Lfts 1) (a r e : _) → place_of.Post κs a r e → r
    ≡ place_in (length a.0.now) a.1.0 a.1.1.0
place_of_is κs a r e p = p

pub area_is : (κs : Lfts 1) (a r e : _) → area.Post κs a r e → r.now ≡ area_of a.0.now a.1.0 a.1.1.0
area_is κs a r e p = p

pub interface_of_is : (κs : Lfts 1) (a r e : _) → interface-of.Post κs a r e → r ≡ interface_in a.0.now a.1.0
interface_of_is κs a r e p = p

pub store_is : (κs : Lfts 1) (a r e : _) → store.Post κs a r e
    → (outcome_number r ≡ store_refusal (length a.0.now) a.1.0 a.1.1.0 a.1.1.1.0.pointer)
    × (e.0.now ≡ stored a.0.now a.1.0 a.1.1.0 a.1.1.1.0)
store_is κs a r e p = p

pub store_pointer_is : (κs : Lfts 1) (a r e : _) → store-pointer.Post κs a r e
    → (outcome_number r ≡ store_refusal (length a.0.now) a.1.0 a.1.1.0 a.1.1.1.0)
    × (e.0.now ≡ stored_pointer a.0.now a.1.0 a.1.1.0 a.1.1.1.0)
store_pointer_is κs a r e p = p

pub store_flags_is : (κs : Lfts 1) (a : _) (r : _) (e : _) → store-flags.Post κs a r e
    → (outcome_number r ≡ refusal_of (length a.0.now) a.1.0)
    × (e.0.now ≡ stored_flags a.0.now a.1.0 a.1.1.0)
store_flags_is κs a r e p = p

-- the handshake: a phase and the flags; a phase; a phase's number; nothing; the flags
pub host_step_is : (κs : Lfts 0) (a r e : _) → host-step.Post κs a r e → r ≡ host_step a.0 a.1.0
host_step_is κs a r e p = p

pub host_ask_is : (κs : Lfts 0) (a r e : _) → host-ask.Post κs a r e → r ≡ host_asked a.0
host_ask_is κs a r e p = p

pub host_number_is : (κs : Lfts 0) (a r e : _) → host-number.Post κs a r e → r ≡ host_number a.0
host_number_is κs a r e p = p

pub host_of_number_is : (κs : Lfts 0) (a r e : _) → host-of-number.Post κs a r e
    → (host_refusal r ≡ stored_refusal 3 a.0) × (host_stored r ≡ stored_number 3 a.0)
host_of_number_is κs a r e p = p

pub host_at_power_up_is : (κs : Lfts 0) (a r e : _) → host-at-power-up.Post κs a r e → r ≡ host_at_power_up
host_at_power_up_is κs a r e p = p

pub host_from_flags_is : (κs : Lfts 0) (a r e : _) → host-from-flags.Post κs a r e → r ≡ host_from_flags a.0
host_from_flags_is κs a r e p = p

pub controller_step_is : (κs : Lfts 0) (a r e : _) → controller-step.Post κs a r e
    → r ≡ controller_step a.0 a.1.0
controller_step_is κs a r e p = p

pub controller_ask_is : (κs : Lfts 0) (a r e : _) → controller-ask.Post κs a r e → r ≡ controller_asked a.0
controller_ask_is κs a r e p = p

pub controller_number_is : (κs : Lfts 0) (a r e : _) → controller-number.Post κs a r e → r ≡ controller_number a.0
controller_number_is κs a r e p = p

pub controller_of_number_is : (κs : Lfts 0) (a r e : _) → controller-of-number.Post κs a r e
    → (controller_refusal r ≡ stored_refusal 6 a.0) × (controller_stored r ≡ stored_number 6 a.0)
controller_of_number_is κs a r e p = p

pub controller_at_power_up_is : (κs : Lfts 0) (a r e : _) → controller-at-power-up.Post κs a r e
    → r ≡ controller_at_power_up
controller_at_power_up_is κs a r e p = p

pub controller_from_flags_is : (κs : Lfts 0) (a r e : _) → controller-from-flags.Post κs a r e
    → r ≡ controller_from_flags a.0
controller_from_flags_is κs a r e p = p

-- flags and a change of them
pub changed_flags_is : (κs : Lfts 0) (a r e : _) → changed-flags.Post κs a r e → r ≡ changed_flags a.1.0 a.0
changed_flags_is κs a r e p = p

-- the interface's state; an own EID and a limit
pub transient_is : (κs : Lfts 0) (a r e : _) → transient.Post κs a r e → r ≡ is_transient a.0
transient_is κs a r e p = p

pub set_up_is : (κs : Lfts 0) (a r e : _) → set_up.Post κs a r e
    → (outcome_number r.outcome ≡ set_up_refusal (record { own = a.0; limit = a.1.0 }))
    × (r.receiver ≡ set_up_of (record { own = a.0; limit = a.1.0 }))
set_up_is κs a r e p = p

-- a receiver's four tallies, as they are stored
pub tallies_of_is : (κs : Lfts 0) (a r e : _) → tallies-of.Post κs a r e → r ≡ a.0.tallies
tallies_of_is κs a r e p = p
