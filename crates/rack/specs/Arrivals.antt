-- Arrivals on the three paths, and what each carrier finds in one (document 01, "Putting messages together").
-- Assumes nothing.
use Rattle.std.specs.Prelude.{ℕ, List, eqb, length}
use Rattle.octets.specs.Choice.{pick}
use Rattle.mctp.specs.Refusals.{number_of}
use Rattle.mmbi.specs.declared.interface.Flags.{Flags}
use Rattle.mmbi.specs.Interface.{state_of, may_read}
use Rattle.smbus.specs.Reading as smbus
use Rattle.pcc.specs.Reading as pcc
use Rattle.ring.specs.declared.offer.Offered.{Offered}
use Rattle.ring.specs.Round.{round_from}
use Rattle.ring.specs.Layout as ring_layout
use Rattle.ring.specs.Reading as ring
use Rattle.rack.specs.declared.answer.Beside.{Beside}
use Rattle.rack.specs.declared.answer.Beside.TheVariants.{Source, Notify, Next}
use Rattle.rack.specs.declared.answer.NoPacket.{NoPacket}
use Rattle.rack.specs.declared.answer.NoPacket.TheVariants as code

-- "An arrival is one carrier's bytes with the numbers its reader needs."
pub data Arrival : Type 0 where
  -- a frame, and the own address
  by_smbus : (frame : List ℕ) (own : ℕ) → Arrival
  -- a region, and its subspace id
  by_pcc : (region : List ℕ) (id : ℕ) → Arrival
  -- a ring, its configured length, the interface's flags, the read and the write pointer, and the output
  by_ring : (bytes : List ℕ) (configured : ℕ) (flags : Flags) (read write : ℕ) (out : List ℕ) → Arrival

-- why an arrival brings no packet, in document 01's numbers
pub data Without : Type 0 where
  -- "EMPTY is no refusal and changes nothing."
  empty : Without
  -- 14, and 3 from the ring: "number and the pointer after the packet"
  skipped : ℕ → ℕ → Without
  -- "number; all unchanged"
  refused : ℕ → Without

abbrev pub without : NoPacket → Without
without code.Empty = empty
without (code.Skipped refusal next) = skipped (number_of refusal) next
without (code.Refused refusal) = refused (number_of refusal)

-- what the carrier makes of an arrival. "It is good exactly if the reader gives a packet": here with what the carrier
-- also knows
pub data Brought : Type 0 where
  packet : List ℕ → Beside → Brought
  none : Without → Brought

-- a frame: the packet with its source address, or the refusal's number
unfoldable pub smbus_brings : (most : ℕ) (frame : List ℕ) (own : ℕ) → Brought
smbus_brings most frame own =
    pick (eqb (smbus.refusal_of most frame own) 0)
    (packet (smbus.packet_of most frame own) (Source (smbus.source_address_of most frame own)))
    (none (refused (smbus.refusal_of most frame own)))

-- a region: the packet with its notify flag, or the refusal's number
unfoldable pub pcc_brings : (most : ℕ) (region : List ℕ) (id : ℕ) → Brought
pcc_brings most region id =
    pick (eqb (pcc.refusal_of most region id) 0)
    (packet (pcc.packet_of most region id) (Notify (pcc.notify_of most region id)))
    (none (refused (pcc.refusal_of most region id)))

-- a ring that starts at the read pointer: "A good ring arrival gives the new read pointer"
abbrev pub found_brings : List ℕ → ring.Found → Brought
found_brings s (ring.packet size next) = packet (ring_layout.packet_of s) (Next next)
found_brings s ring.empty = none empty
found_brings s (ring.skipped number next) = none (skipped number next)
found_brings s (ring.refused number) = none (refused number)

unfoldable pub ring_brings : (most : ℕ) (bytes : List ℕ) (configured : ℕ) (flags : Flags) (read write : ℕ)
    (out : List ℕ)
    → Brought
ring_brings most bytes configured flags read write out =
    found_brings (round_from read bytes)
    (ring.found_of most bytes configured (may_read (state_of flags)) read write (length out))

-- the same, at what is offered beside the ring's bytes
abbrev pub ring_brings_at : (most : ℕ) (bytes : List ℕ) → Offered → (out : List ℕ) → Brought
ring_brings_at most bytes offered out =
    ring_brings most bytes offered.configured offered.flags offered.pointers.read offered.pointers.write out

-- "The carrier's checks come first, all of them": what the carrier of an arrival makes of it
abbrev pub brings : ℕ → Arrival → Brought
brings most (by_smbus frame own) = smbus_brings most frame own
brings most (by_pcc region id) = pcc_brings most region id
brings most (by_ring bytes configured flags read write out) = ring_brings most bytes configured flags read write out
