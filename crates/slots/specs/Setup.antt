-- What a receiver is set up with (document 01, "Putting messages together"; document 02, #106).
-- Assumes nothing.
use Rattle.std.specs.Prelude.{ℕ, Bool, ◌&&◌, ◌||◌, ◌==◌}
use Rattle.octets.specs.Choice.{within}
use Rattle.mctp.specs.Eid.{null_eid, broadcast_eid, endpoint_eid}
use Rattle.slots.specs.declared.state.Setup.{Setup}

-- "The receiver has an own EID (0 or 8 to 254)"; "a set limit of 1 to 60,000", in milliseconds
abbrev pub right_setup : Setup → Bool
right_setup s = endpoint_eid s.own.0 && within 1 60000 s.limit

-- "16: destination is not the own EID, 0 or 255.": what 16 lets through
abbrev pub ours_of : Setup → ℕ → Bool
ours_of s d = d == s.own.0 || null_eid d || broadcast_eid d
