-- What reading a frame at an own address gives (document 01, "SMBus frame"). `most` is the largest body; the base takes
-- 64.
-- Assumes nothing.
use Rattle.std.specs.Prelude.{List, [], ◌∷◌, ℕ, ◌+◌, ◌-◌, ◌/◌, ◌%◌, eqb, leb, length, get_or, take}
use Rattle.octets.specs.Bytes.{part}
use Rattle.octets.specs.Checks.{Check, ◌unless◌, first_failing}
use Rattle.octets.specs.Choice.{pick, within}
use Rattle.mctp.specs.Packet.{body_right}
use Rattle.pec.specs.Remainder.{pec_of}

-- "the PEC", which a frame ends with, and "all bytes before it"
unfoldable pub end_of : List ℕ → ℕ
end_of frame = get_or frame (length frame - 1) 0

unfoldable pub before_end : List ℕ → List ℕ
before_end frame = take (length frame - 1) frame

-- "Check order, reading: 1 (own address over 127), 3 (frame not 10 to 73 bytes), 4 (bit 0 set, or not ours), 5 (byte
-- 1), 6 (count + 4 not the frame's length), 7 (bit 0 of byte 3 clear), 8." A largest body that is none is 1.
abbrev pub read_order : (most : ℕ) (frame : List ℕ) (own : ℕ) → List (Check ℕ)
read_order most frame own =
    1 unless body_right most
    ∷ 1 unless leb own 127
    ∷ 3 unless within 10 (9 + most) (length frame)
    ∷ 4 unless eqb (get_or frame 0 0 % 2) 0
    ∷ 4 unless eqb (get_or frame 0 0 / 2) own
    ∷ 5 unless eqb (get_or frame 1 0) 15
    ∷ 6 unless eqb (get_or frame 2 0 + 4) (length frame)
    ∷ 7 unless eqb (get_or frame 3 0 % 2) 1
    ∷ 8 unless eqb (end_of frame) (pec_of (before_end frame))
    ∷ []

unfoldable pub refusal_of : (most : ℕ) (frame : List ℕ) (own : ℕ) → ℕ
refusal_of most frame own = first_failing (read_order most frame own) 0

-- where the packet stands, in a refused frame too: behind the four bytes of the head, before the PEC
unfoldable pub part_of : List ℕ → List ℕ
part_of frame = part frame 4 (length frame - 5)

-- "Reading gives the packet as a part of the lent frame, not a copy; where refused, the part is empty."
unfoldable pub packet_of : (most : ℕ) (frame : List ℕ) (own : ℕ) → List ℕ
packet_of most frame own = pick (eqb (refusal_of most frame own) 0) (part_of frame) []

-- "The refusal number (0 where good) and the source address (0 where refused) are asked for separately."
unfoldable pub source_address_of : (most : ℕ) (frame : List ℕ) (own : ℕ) → ℕ
source_address_of most frame own = pick (eqb (refusal_of most frame own) 0) (get_or frame 3 0 / 2) 0
