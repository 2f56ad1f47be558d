-- Packet k of a message, of the message as it is given and, in a ring, of what is offered beside the ring's bytes.
-- Assumes nothing.
use Rattle.std.specs.Prelude.{ℕ, Bool, List, length}
use Rattle.ring.specs.declared.offer.Offered.{Offered}
use Rattle.ring.specs.Writing as rings
use Rattle.sender.specs.Cutting.{packet_at, cut_refusal}
use Rattle.sender.specs.Sending as sending
use Rattle.sender.specs.declared.heading.Message.{Message}

module _ (most : ℕ) (message : Message) (k : ℕ) where
  -- the packet, and the number that cutting refuses it with
  abbrev pub packet_of : List ℕ
  packet_of = packet_at most message.heading message.bytes.now k

  abbrev pub cut_refusal_of : ℕ
  cut_refusal_of = cut_refusal most message.heading (length message.bytes.now) k

  -- into an output
  abbrev pub output_refusal_of : (room : ℕ) → ℕ
  output_refusal_of = sending.output_refusal most message.heading message.bytes.now k

  abbrev pub output_size_of : (room : ℕ) → ℕ
  output_size_of = sending.output_size most message.heading message.bytes.now k

  abbrev pub output_written_of : (out : List ℕ) → List ℕ
  output_written_of = sending.output_written most message.heading message.bytes.now k

  -- as a frame, from address to address
  abbrev pub smbus_refusal_of : (room destination source : ℕ) → ℕ
  smbus_refusal_of = sending.smbus_refusal most message.heading message.bytes.now k

  abbrev pub smbus_size_of : (room destination source : ℕ) → ℕ
  smbus_size_of = sending.smbus_size most message.heading message.bytes.now k

  abbrev pub smbus_written_of : (out : List ℕ) (destination source : ℕ) → List ℕ
  smbus_written_of = sending.smbus_written most message.heading message.bytes.now k

  -- in a region, under its id
  abbrev pub pcc_refusal_of : (room id : ℕ) → ℕ
  pcc_refusal_of = sending.pcc_refusal most message.heading message.bytes.now k

  abbrev pub pcc_written_of : (region : List ℕ) (id : ℕ) (notify : Bool) → List ℕ
  pcc_written_of = sending.pcc_written most message.heading message.bytes.now k

  -- in a ring, by what is offered
  abbrev pub ring_entered_of : (lent : ℕ) → Offered → rings.Entered
  ring_entered_of lent offered =
      sending.ring_entered most message.heading message.bytes.now k lent offered.configured offered.flags
      offered.pointers

  abbrev pub ring_written_of : (ring : List ℕ) → Offered → List ℕ
  ring_written_of ring offered =
      sending.ring_written most message.heading message.bytes.now k ring offered.configured offered.flags
      offered.pointers
