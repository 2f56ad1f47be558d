-- Packet k into an output, and onto each of the three carriers (document 02, #101): "Packet k also goes straight onto
-- any of the three paths." What is refused in cutting comes first, "then the carrier's own, or 2 for a bare packet's
-- output; nothing is written."
-- Assumes nothing.
use Rattle.std.specs.Prelude.{ℕ, Bool, List, eqb, leb, length}
use Rattle.octets.specs.Bytes.{fronted}
use Rattle.octets.specs.Choice.{pick}
use Rattle.smbus.specs.Writing as frames
use Rattle.pcc.specs.Writing as regions
use Rattle.mmbi.specs.declared.interface.Flags.{Flags}
use Rattle.mmbi.specs.declared.pointer.Pointers.{Pointers}
use Rattle.mmbi.specs.Interface.{state_of, may_write}
use Rattle.ring.specs.Writing as rings
use Rattle.sender.specs.declared.heading.Heading.{Heading}
use Rattle.sender.specs.Cutting.{packet_at, cut_refusal}

-- a packet, where cutting refuses nothing; else what is left then
abbrev pub if_cut : {A : Type 0} → (number : ℕ) → (packet refused : A) → A
if_cut number packet refused = pick (eqb number 0) packet refused

module _ (most : ℕ) (heading : Heading) (message : List ℕ) (k : ℕ) where
  -- the number that cutting refuses packet k with
  abbrev pub cut_number : ℕ
  cut_number = cut_refusal most heading (length message) k

  -- "or 2 for a bare packet's output": one that is shorter than the packet
  unfoldable pub output_refusal : (room : ℕ) → ℕ
  output_refusal room = if_cut cut_number (pick (leb (length (packet_at most heading message k)) room) 0 2) cut_number

  -- the packet's size, and the packet at the output's front
  unfoldable pub output_size : (room : ℕ) → ℕ
  output_size room = pick (eqb (output_refusal room) 0) (length (packet_at most heading message k)) 0

  unfoldable pub output_written : (out : List ℕ) → List ℕ
  output_written out = pick (eqb (output_refusal (length out)) 0) (fronted out (packet_at most heading message k)) out

  -- a frame, from address to address
  unfoldable pub smbus_refusal : (room destination source : ℕ) → ℕ
  smbus_refusal room destination source =
      if_cut cut_number (frames.write_refusal most room (length (packet_at most heading message k)) destination source)
      cut_number

  unfoldable pub smbus_size : (room destination source : ℕ) → ℕ
  smbus_size room destination source =
      if_cut cut_number (frames.size_of most room (length (packet_at most heading message k)) destination source) 0

  unfoldable pub smbus_written : (out : List ℕ) (destination source : ℕ) → List ℕ
  smbus_written out destination source =
      if_cut cut_number (frames.written_of most out (packet_at most heading message k) destination source) out

  -- a region, under its id
  unfoldable pub pcc_refusal : (room id : ℕ) → ℕ
  pcc_refusal room id =
      if_cut cut_number (regions.write_refusal most room id (length (packet_at most heading message k))) cut_number

  unfoldable pub pcc_written : (region : List ℕ) (id : ℕ) (notify : Bool) → List ℕ
  pcc_written region id notify =
      if_cut cut_number (regions.written_of most region id notify (packet_at most heading message k)) region

  -- a ring, by its configured length, the interface's flags and the ring's pointers
  unfoldable pub ring_entered : (lent configured : ℕ) → Flags → Pointers → rings.Entered
  ring_entered lent configured flags pointers =
      if_cut cut_number
      (rings.entered_of most lent configured (may_write (state_of flags)) pointers.read pointers.write
      (length (packet_at most heading message k)))
      (rings.refused cut_number)

  unfoldable pub ring_written : (ring : List ℕ) (configured : ℕ) → Flags → Pointers → List ℕ
  ring_written ring configured flags pointers =
      if_cut cut_number
      (rings.written_of most ring configured (may_write (state_of flags)) pointers.read pointers.write
      (packet_at most heading message k))
      ring
