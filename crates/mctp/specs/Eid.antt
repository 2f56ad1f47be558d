-- Endpoint IDs (document 01, "The packet").
-- Assumes nothing.
use Rattle.std.specs.Prelude.{ℕ, Bool, not, ◌&&◌, eqb}
use Rattle.octets.specs.Choice.{within}

-- "EID 0 is null"
abbrev pub null_eid : ℕ → Bool
null_eid e = eqb e 0

-- "255 is broadcast"
abbrev pub broadcast_eid : ℕ → Bool
broadcast_eid e = eqb e 255

-- "1 to 7 are reserved"
abbrev pub reserved_eid : ℕ → Bool
reserved_eid e = within 1 7 e

-- what one endpoint goes by: "own EID (0 or 8 to 254)", and a source that 17 lets through ("17: source is 1 to 7 or
-- 255")
abbrev pub endpoint_eid : ℕ → Bool
endpoint_eid e = not (reserved_eid e) && not (broadcast_eid e)
