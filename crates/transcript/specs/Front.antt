-- A part of a list moved to its front, as the bench program keeps a record that has not come whole.
-- Assumes nothing.
use Rattle.std.specs.Prelude.{ℕ, ◌-◌, List}
use Rattle.octets.specs.Bytes.{part, laid}

-- the bytes from place `from` up to place `end`; where there are none, nothing
unfoldable pub between : List ℕ → (from end : ℕ) → List ℕ
between s from end = part s from (end - from)

unfoldable pub moved_of : List ℕ → (from end : ℕ) → List ℕ
moved_of s from end = laid s 0 (between s from end)
