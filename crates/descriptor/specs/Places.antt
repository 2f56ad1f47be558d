-- Places in a window: where one begins and how long it is, in bytes from the window's front.
-- Assumes nothing.
use Rattle.std.specs.Prelude.{ℕ, ◌+◌, Bool, ◌||◌, leb}
use Rattle.descriptor.specs.declared.place.Place.{Place}

-- the byte after a place, however many bits its number takes
abbrev pub end_of : Place → ℕ
end_of p = p.offset + p.length

-- it lies in a window of this size
abbrev pub lies_in : ℕ → Place → Bool
lies_in window p = leb (end_of p) window

-- two places overlap nowhere: one ends before the other begins
abbrev pub apart : Place → Place → Bool
apart p q = leb (end_of p) q.offset || leb (end_of q) p.offset
