-- Taking a packet out of the ring: the check orders, what is found, and the output, on every input (document 01,
-- "Reading order").
-- Assumes nothing.
use Rattle.std.specs.Prelude.{ℕ, ◌+◌, Bool, not, List, [], ◌∷◌, length, leb, eqb}
use Rattle.octets.specs.Bytes.{fronted}
use Rattle.octets.specs.Checks.{Check, ◌unless◌, first_failing}
use Rattle.mctp.specs.Packet.{size_right}
use Rattle.ring.specs.Numbers.{set_up_right, pointers_right, filled_of, next_of}
use Rattle.ring.specs.Round.{round_from}
use Rattle.ring.specs.Layout.{header_at, padding_field, type_field, mctp_type, whole_of, size_of, packet_of}

-- what reading finds, in document 01's numbers
pub data Found : Type 0 where
  -- a packet: its size and the new read pointer
  packet : ℕ → ℕ → Found
  -- "EMPTY is no refusal"
  empty : Found
  -- 14, and 3 "from ring reading": "number and the pointer after the packet"
  skipped : ℕ → ℕ → Found
  -- "number only"
  refused : ℕ → Found

-- "Reading order: 1 (length outside the rule, or not that of the lent ring), 2 (output under 68), 11, 12 (either
-- pointer not a multiple of 4, or not below the length), EMPTY"; 68 is 4 + `most`, and 11 is for a state in which no
-- ring may be read
abbrev pub read_order : (most lent configured : ℕ) (readable : Bool) (read write output : ℕ) → List (Check Found)
read_order most lent configured readable read write output =
    refused 1 unless set_up_right most configured lent
    ∷ refused 2 unless leb (4 + most) output
    ∷ refused 11 unless readable
    ∷ refused 12 unless pointers_right configured read write
    ∷ empty unless not (eqb read write)
    ∷ []

-- ", 13 (header or whole packet longer than filled, or the header's length too small for the header and padding it
-- counts), 14, 3"; `next` is the pointer after the packet
abbrev pub header_order : (most filled header next : ℕ) → List (Check Found)
header_order most filled header next =
    refused 13 unless leb 4 filled
    ∷ refused 13 unless leb (whole_of header) filled
    ∷ refused 13 unless leb (4 + padding_field header) (whole_of header)
    ∷ skipped 14 next unless eqb (type_field header) mctp_type
    ∷ skipped 3 next unless size_right most (size_of header)
    ∷ []

-- what the header of a packet at the read pointer says, where so much is filled
unfoldable pub judged : (most configured read filled header : ℕ) → Found
judged most configured read filled header =
    let next = next_of configured read (whole_of header) in
    first_failing (header_order most filled header next) (packet (size_of header) next)

-- the one order after the other
unfoldable pub found_of : (most : ℕ) (ring : List ℕ) (configured : ℕ) (readable : Bool) (read write output : ℕ) → Found
found_of most ring configured readable read write output =
    first_failing (read_order most (length ring) configured readable read write output)
    (judged most configured read (filled_of configured read write) (header_at (round_from read ring)))

-- "A taken packet is copied to the output's front, the rest of it unchanged"; every other answer leaves "all unchanged"
abbrev pub output_after : Found → List ℕ → List ℕ → List ℕ
output_after (packet size next) s out = fronted out (packet_of s)
output_after empty s out = out
output_after (skipped number next) s out = out
output_after (refused number) s out = out

abbrev pub output_of : (most : ℕ) (ring : List ℕ) (configured : ℕ) (readable : Bool) (read write : ℕ) (out : List ℕ)
    → List ℕ
output_of most ring configured readable read write out =
    output_after (found_of most ring configured readable read write (length out)) (round_from read ring) out
