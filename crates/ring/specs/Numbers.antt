-- A ring's numbers: its length, its pointers, what is filled and what is left (document 01, "MMBI descriptor, state and
-- ring").
-- Assumes nothing.
use Rattle.std.specs.Prelude.{ℕ, ◌+◌, ◌-◌, ◌%◌, Bool, ◌&&◌, eqb}
use Rattle.mctp.specs.Packet.{body_right}
use Rattle.mmbi.specs.Pointers.{length_right, pointer_right}

-- what 1 asks: "length outside the rule, or not that of the lent ring"; a largest body outside its own rule is 1 too
abbrev pub set_up_right : ℕ → ℕ → ℕ → Bool
set_up_right most length lent = body_right most && length_right length && eqb length lent

-- what 12 asks: "either pointer not a multiple of 4, or not below the length"
abbrev pub pointers_right : ℕ → ℕ → ℕ → Bool
pointers_right length read write = pointer_right length read && pointer_right length write

-- "Filled is (write − read) modulo the ring length." The length is added first, so that the difference is not below 0.
unfoldable pub filled_of : ℕ → ℕ → ℕ → ℕ
filled_of length read write = (length + write - read) % length

-- "Room is length − filled − 4 (house rule), so a full ring never looks empty."
unfoldable pub room_of : ℕ → ℕ → ℕ → ℕ
room_of length read write = length - filled_of length read write - 4

-- the pointer that stands n bytes after another, round the ring's end
unfoldable pub next_of : ℕ → ℕ → ℕ → ℕ
next_of length pointer n = (pointer + n) % length
