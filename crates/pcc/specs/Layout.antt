-- The layout of a PCC region (document 01, "PCC region"; DSP0292, 8.4): four words, "little endian", then the packet.
-- Assumes nothing.
use Rattle.std.specs.Prelude.{ℕ, ◌+◌, ◌-◌, Bool, List, ◌++◌, length, replicate}
use Rattle.octets.specs.Choice.{pick}
use Rattle.octets.specs.Words.{low_first, word_bytes}

-- "Word at 0: 0x50434300 with the subspace id (0 to 255) in its low byte."
abbrev pub signature_of : ℕ → ℕ
signature_of id = 0x5043_4300 + id

-- "Word at 4: flags; bit 0 is notify on completion .. the others are .. 0 in writing."
abbrev pub flags_of : Bool → ℕ
flags_of notify = pick notify 1 0

-- "Word at 8: length, 8 + body.": 4 bytes of command, and the packet, which is 4 + body
abbrev pub length_of : ℕ → ℕ
length_of size = 4 + size

-- "Word at 12: 0x5054434D, the letters MCTP."
abbrev pub command : ℕ
command = 0x5054_434D

-- the front of a region with these flags: the four words, and "the packet starts at 16"
abbrev pub region_with : (id flags : ℕ) (packet : List ℕ) → List ℕ
region_with id flags packet =
    word_bytes low_first (signature_of id)
    ++ (word_bytes low_first flags
    ++ (word_bytes low_first (length_of (length packet))
    ++ (word_bytes low_first command
    ++ packet)))

-- as it is written
unfoldable pub region_of : (id : ℕ) (notify : Bool) (packet : List ℕ) → List ℕ
region_of id notify packet = region_with id (flags_of notify) packet

-- a region for any packet: its front, and zeros up to the least size
unfoldable pub region_for : (id : ℕ) (notify : Bool) (packet : List ℕ) → List ℕ
region_for id notify packet = region_of id notify packet ++ replicate (84 - (16 + length packet)) 0
