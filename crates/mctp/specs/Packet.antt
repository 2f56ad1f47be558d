-- The MCTP packet: 4 header bytes and a body (document 01, "The packet"; DSP0236). A byte past the end reads as 0.
-- Assumes nothing.
use Rattle.std.specs.Prelude.{ℕ, ◌+◌, ◌/◌, ◌%◌, Bool, List, get_or, drop, eqb}
use Rattle.octets.specs.Choice.{within}

-- "A packet is 4 header bytes and a body of 1 to 64 bytes, so 5 to 68 in all (house rule; 64 is the baseline unit)."
-- The largest body is a number of its own, `most`; the base takes 64.
abbrev pub size_right : ℕ → ℕ → Bool
size_right most n = within 5 (4 + most) n

-- the largest bodies that a set-up may ask for: 64 is the baseline unit; with 246 an SMBus frame has 9 + 246 = 255
-- bytes, the most that a record of the bench program holds
abbrev pub body_right : ℕ → Bool
body_right most = within 64 246 most

-- "Byte 0: low four bits version, 1. High four bits reserved, ignored."
abbrev pub version_of : List ℕ → ℕ
version_of p = get_or p 0 0 % 16

-- "Byte 1: destination EID."
abbrev pub destination_of : List ℕ → ℕ
destination_of p = get_or p 1 0

-- "Byte 2: source EID."
abbrev pub source_of : List ℕ → ℕ
source_of p = get_or p 2 0

-- "Byte 3: bit 7 start"
abbrev pub start_of : List ℕ → Bool
start_of p = eqb (get_or p 3 0 / 128 % 2) 1

-- "bit 6 end"
abbrev pub end_of : List ℕ → Bool
end_of p = eqb (get_or p 3 0 / 64 % 2) 1

-- "bits 5..4 sequence"
abbrev pub sequence_of : List ℕ → ℕ
sequence_of p = get_or p 3 0 / 16 % 4

-- "bit 3 tag owner"
abbrev pub owner_of : List ℕ → Bool
owner_of p = eqb (get_or p 3 0 / 8 % 2) 1

-- "bits 2..0 tag"
abbrev pub tag_of : List ℕ → ℕ
tag_of p = get_or p 3 0 % 8

-- what follows the 4 header bytes
abbrev pub body_of : List ℕ → List ℕ
body_of p = drop 4 p
