-- A message sent in any mix of the three paths (document 02, #101): "Packet k also goes straight onto any of the three
-- paths." What the sender's calls write, as arrivals.
-- Assumes nothing.
use Rattle.std.specs.Prelude.{◌≡◌, Bool, ◌&&◌, List, ℕ, ◌+◌, ◌≤◌, leb, length, take}
use Rattle.mmbi.specs.declared.pointer.Pointers.{Pointers}
use Rattle.mmbi.specs.Interface.{normal_runtime}
use Rattle.mmbi.specs.Pointers.{length_right, pointer_right}
use Rattle.ring.specs.Runs.{pointer_after}
use Rattle.ring.specs.Writing.{Entered, entered, refused}
use Rattle.rack.specs.declared.answer.Beside.{Beside}
use Rattle.rack.specs.declared.answer.Beside.TheVariants.{Source, Notify, Next}
use Rattle.rack.specs.Arrivals.{Arrival, by_smbus, by_pcc, by_ring}
use Rattle.sender.specs.declared.heading.Heading.{Heading}
use Rattle.sender.specs.Cutting.{packets_in}
use Rattle.sender.specs.Sending.{smbus_refusal, smbus_size, smbus_written, pcc_refusal, pcc_written}
use Rattle.sender.specs.Sending.{ring_entered, ring_written}
use Rattle.sender.specs.Whole.{along}

-- a way that a packet goes: an output for a frame, and its addresses; a region, its id and notify flag; a ring that is
-- empty at a pointer, and its reader's output
pub data Way : Type 0 where
  smbus_way : (out : List ℕ) (destination source : ℕ) → Way
  pcc_way : (region : List ℕ) (id : ℕ) (notify : Bool) → Way
  ring_way : (ring : List ℕ) (pointer : ℕ) (out : List ℕ) → Way

-- both pointers of a ring that is empty there
abbrev pub empty_pointers : ℕ → Pointers
empty_pointers pointer = record { read = pointer; write = pointer }

-- a ring's answer as a number, 0 where the packet is written
abbrev pub number_entered : Entered → ℕ
number_entered (entered next) = 0
number_entered (refused number) = number

module _ (most : ℕ) (heading : Heading) (message : List ℕ) where
  -- what the ring's call answers to packet k in normal runtime, and the write pointer then
  abbrev pub ring_answer : (ring : List ℕ) (pointer k : ℕ) → Entered
  ring_answer ring pointer k =
      ring_entered most heading message k (length ring) (length ring) normal_runtime (empty_pointers pointer)

  abbrev pub ring_next : (ring : List ℕ) (pointer k : ℕ) → ℕ
  ring_next ring pointer k = pointer_after (ring_answer ring pointer k) pointer

  -- the number that the sender's call answers to packet k sent this way, 0 where it is written
  abbrev pub number : Way → ℕ → ℕ
  number (smbus_way out destination source) k = smbus_refusal most heading message k (length out) destination source
  number (pcc_way region id notify) k = pcc_refusal most heading message k (length region) id
  number (ring_way ring pointer out) k = number_entered (ring_answer ring pointer k)

  -- what was written, as an arrival: a frame at its destination, a region under its id, a ring from its old write
  -- pointer to its new one
  abbrev pub arrival_of : Way → ℕ → Arrival
  arrival_of (smbus_way out destination source) k =
      by_smbus
      (take (smbus_size most heading message k (length out) destination source)
      (smbus_written most heading message k out destination source))
      destination
  arrival_of (pcc_way region id notify) k = by_pcc (pcc_written most heading message k region id notify) id
  arrival_of (ring_way ring pointer out) k =
      by_ring (ring_written most heading message k ring (length ring) normal_runtime (empty_pointers pointer))
      (length ring) normal_runtime pointer (ring_next ring pointer k) out

  -- what the carrier knows beside packet k
  abbrev pub beside_of : Way → ℕ → Beside
  beside_of (smbus_way out destination source) k = Source source
  beside_of (pcc_way region id notify) k = Notify notify
  beside_of (ring_way ring pointer out) k = Next (ring_next ring pointer k)

  -- packet k goes this way: it is written, and a ring's reader has an output for every packet
  abbrev pub Goes : Way → ℕ → Type 0
  Goes (smbus_way out destination source) k = number (smbus_way out destination source) k ≡ 0
  Goes (pcc_way region id notify) k = number (pcc_way region id notify) k ≡ 0
  Goes (ring_way ring pointer out) k = (number (ring_way ring pointer out) k ≡ 0) × (4 + most ≤ length out)

  -- all packets of the message in order, each by its own way
  abbrev pub arrivals : (ℕ → Way) → List Arrival
  arrivals ways = along (λ (k : ℕ). arrival_of (ways k) k) 0 (packets_in most (length message))

-- the numbers that the base takes: addresses of 7 bits, and 73 bytes for the longest frame; an id of a byte, and a
-- region of 84; a right ring, a pointer into it, and 68 bytes for the longest packet
abbrev pub way_right : Way → Bool
way_right (smbus_way out destination source) = leb 73 (length out) && leb destination 127 && leb source 127
way_right (pcc_way region id notify) = leb 84 (length region) && leb id 255
way_right (ring_way ring pointer out) =
    length_right (length ring) && pointer_right (length ring) pointer && leb 68 (length out)
