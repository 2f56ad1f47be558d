-- The key under which a message is gathered, a packet's header whole, and its bytes.
-- Assumes nothing.
use Rattle.std.specs.Prelude.{Bool, ◌&&◌, List, [], ◌∷◌, ℕ, ◌+◌, ◌*◌, ◌%◌, eqb}
use Rattle.std.specs.Bool.{beq}
use Rattle.octets.specs.Choice.{pick}
use Rattle.mctp.specs.declared.packet.Key.{Key}
use Rattle.mctp.specs.declared.packet.Header.{Header}
use Rattle.mctp.specs.Packet.{version_of, destination_of, source_of, start_of, end_of, sequence_of, owner_of, tag_of}

-- "a key (destination, source, tag owner, tag)"
unfoldable pub key_of : List ℕ → Key
key_of p =
    record {
      destination = record { 0 = destination_of p };
      source = record { 0 = source_of p };
      owner = owner_of p;
      tag = tag_of p;
    }

-- the whole header of a packet
unfoldable pub header_of : List ℕ → Header
header_of p = record {
  version = version_of p;
  start = start_of p;
  end = end_of p;
  sequence = sequence_of p;
  key = key_of p;
}

-- a flag as a number
abbrev pub bit : Bool → ℕ
bit b = pick b 1 0

-- "Byte 3: bit 7 start, bit 6 end, bits 5..4 sequence, bit 3 tag owner, bits 2..0 tag."
unfoldable pub flags_for : Header → ℕ
flags_for h =
    bit h.start * 128 + bit h.end * 64 + h.sequence % 4 * 16 + bit h.key.owner * 8 + h.key.tag % 8

-- the four bytes of a header: byte 0 with its reserved bits clear, "Byte 1: destination EID. Byte 2: source EID.", and
-- byte 3; of a number that is too large for its field the low bits
unfoldable pub header_bytes : Header → List ℕ
header_bytes h = h.version % 16 ∷ h.key.destination.0 ∷ h.key.source.0 ∷ flags_for h ∷ []

-- two keys are one: all four parts are
unfoldable pub same_key : Key → Key → Bool
same_key a b =
    eqb a.destination.0 b.destination.0 && eqb a.source.0 b.source.0 && beq a.owner b.owner
    && eqb a.tag b.tag
