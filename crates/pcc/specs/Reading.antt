-- A PCC region read under an id (document 01, "PCC region"). `most` is the largest body; the base takes 64.
-- Assumes nothing.
use Rattle.std.specs.Prelude.{ℕ, ◌+◌, ◌-◌, ◌%◌, Bool, false, List, [], ◌∷◌, length, eqb, leb}
use Rattle.octets.specs.Choice.{pick, within}
use Rattle.octets.specs.Checks.{Check, ◌unless◌, first_failing}
use Rattle.octets.specs.Bytes.{part}
use Rattle.octets.specs.Words.{low_first, word_at}
use Rattle.mctp.specs.Packet.{body_right}
use Rattle.pcc.specs.Layout.{signature_of, command}

-- "Reading: 1 (id over 255), 2 (region under 84), 9, 5, 3 (length not 9 to 72)." A largest body that is none is 1. 72
-- is 8 + the largest body; a length that the region cannot hold after its first 12 bytes is 3 as well.
abbrev pub read_order : (most : ℕ) (region : List ℕ) (id : ℕ) → List (Check ℕ)
read_order most region id =
    1 unless body_right most
    ∷ 1 unless leb id 255
    ∷ 2 unless leb 84 (length region)
    ∷ 9 unless eqb (word_at low_first region 0) (signature_of id)
    ∷ 5 unless eqb (word_at low_first region 12) command
    ∷ 3 unless within 9 (8 + most) (word_at low_first region 8)
    ∷ 3 unless leb (12 + word_at low_first region 8) (length region)
    ∷ []

-- "the number (0 where good)"
unfoldable pub refusal_of : (most : ℕ) (region : List ℕ) (id : ℕ) → ℕ
refusal_of most region id = first_failing (read_order most region id) 0

-- the packet's size, 0 where refused: "length, 8 + body" without the command's 4
unfoldable pub size_of : (most : ℕ) (region : List ℕ) (id : ℕ) → ℕ
size_of most region id = pick (eqb (refusal_of most region id) 0) (word_at low_first region 8 - 4) 0

-- "The packet starts at 16.": so many bytes from there on, as far as the region goes
abbrev pub part_of : (region : List ℕ) (size : ℕ) → List ℕ
part_of region size = part region 16 size

-- "Reading gives a part of the region, empty where refused"
abbrev pub packet_of : (most : ℕ) (region : List ℕ) (id : ℕ) → List ℕ
packet_of most region id = part_of region (size_of most region id)

-- "bit 0 is notify on completion, reported in reading .. the others are ignored", "clear where refused"
unfoldable pub notify_of : (most : ℕ) (region : List ℕ) (id : ℕ) → Bool
notify_of most region id = pick (eqb (refusal_of most region id) 0) (eqb (word_at low_first region 4 % 2) 1) false
