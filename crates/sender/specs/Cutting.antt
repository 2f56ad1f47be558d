-- A message cut into packets (document 02, #101). `most` is the largest body; the base cuts by 64.
-- Assumes nothing.
use Rattle.std.specs.Prelude.{ℕ, ◌+◌, ◌-◌, ◌*◌, ◌/◌, ◌%◌, Bool, not, ◌&&◌, List, [], ◌∷◌, ◌++◌, eqb, leb, ltb, length}
use Rattle.octets.specs.Bytes.{part}
use Rattle.octets.specs.Checks.{Check, ◌unless◌, first_failing}
use Rattle.octets.specs.Choice.{pick, within}
use Rattle.mctp.specs.declared.packet.Header.{Header}
use Rattle.mctp.specs.Eid.{reserved_eid, endpoint_eid}
use Rattle.mctp.specs.Key.{header_bytes}
use Rattle.mctp.specs.Packet.{body_right}
use Rattle.sender.specs.declared.heading.Heading.{Heading}

-- "their number is its length divided by 64, rounded up"
abbrev pub packets_in : (most size : ℕ) → ℕ
packets_in most size = (size + (most - 1)) / most

-- "sequence rising modulo 4, start on the first and end on the last"; "tag owner, tag" as given. Version 1: "Byte 0:
-- low four bits version, 1." (document 01)
unfoldable pub packet_header : (most : ℕ) → Heading → (size k : ℕ) → Header
packet_header most heading size k =
    record {
      version = 1;
      start = eqb k 0;
      end = eqb (k + 1) (packets_in most size);
      sequence = (heading.first + k) % 4;
      key = heading.key;
    }

-- "bodies of 64, the last shorter or equal"
abbrev pub packet_body : (most : ℕ) (message : List ℕ) (k : ℕ) → List ℕ
packet_body most message k = part message (k * most) most

-- "give packet k of it, k from 0"
unfoldable pub packet_at : (most : ℕ) → Heading → (message : List ℕ) (k : ℕ) → List ℕ
packet_at most heading message k =
    header_bytes (packet_header most heading (length message) k) ++ packet_body most message k

-- "a destination (0, 8 to 254 or 255), a source (0 or 8 to 254), tag owner, tag and first sequence number": a tag has
-- three bits, a sequence number two
abbrev pub heading_right : Heading → Bool
heading_right heading =
    not (reserved_eid heading.key.destination.0) && endpoint_eid heading.key.source.0
    && leb heading.key.tag 7
    && leb heading.first 3

-- "a message of 1 to 1,024 bytes"
abbrev pub message_right : ℕ → Bool
message_right size = within 1 1024 size

-- how many packets there are is refused with 3 alone, where the largest body is one
abbrev pub count_order : (most size : ℕ) → List (Check ℕ)
count_order most size = 1 unless body_right most ∷ 3 unless message_right size ∷ []

unfoldable pub count_refusal : (most size : ℕ) → ℕ
count_refusal most size = first_failing (count_order most size) 0

-- the number of packets; 0 where refused
unfoldable pub count_of : (most size : ℕ) → ℕ
count_of most size = pick (eqb (count_refusal most size) 0) (packets_in most size) 0

-- "Refusals: 1 for a number out of range, then 3 for the message, then 23 for k past the end"
abbrev pub cut_order : (most : ℕ) → Heading → (size k : ℕ) → List (Check ℕ)
cut_order most heading size k =
    1 unless body_right most
    ∷ 1 unless heading_right heading
    ∷ 3 unless message_right size
    ∷ 23 unless ltb k (packets_in most size)
    ∷ []

unfoldable pub cut_refusal : (most : ℕ) → Heading → (size k : ℕ) → ℕ
cut_refusal most heading size k = first_failing (cut_order most heading size k) 0
