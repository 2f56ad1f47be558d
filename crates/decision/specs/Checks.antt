-- The checks of the message rules before start and not start, in three groups: "Order there: 1, 2 (memory size), 3, 15,
-- 16, 17".
-- Assumes nothing.
use Rattle.std.specs.Prelude.{ℕ, List, [], ◌∷◌, eqb, length}
use Rattle.octets.specs.Checks.{Check, ◌unless◌}
use Rattle.mctp.specs.Eid.{endpoint_eid}
use Rattle.mctp.specs.Packet.{size_right, version_of, destination_of, source_of}
use Rattle.slots.specs.declared.state.Setup.{Setup}
use Rattle.slots.specs.declared.state.Receiver.{Receiver}
use Rattle.slots.specs.Setup.{ours_of}
use Rattle.slots.specs.State.{right_state}
use Rattle.decision.specs.Rules.{Decision, refuse}

-- "A set-up or state that breaks this is refused with 1"; "2 (memory size)": "message memory of exactly 4,096 lent
-- bytes"
abbrev pub setup_order : (most : ℕ) → Receiver → (size : ℕ) → List (Check Decision)
setup_order most r size =
    refuse 1 unless right_state most r
    ∷ refuse 2 unless eqb size 4096
    ∷ []

-- 3: size; 15: version; "16: destination is not the own EID, 0 or 255."
abbrev pub packet_order : (most : ℕ) → Setup → (packet : List ℕ) → List (Check Decision)
packet_order most s p =
    refuse 3 unless size_right most (length p)
    ∷ refuse 15 unless eqb (version_of p) 1
    ∷ refuse 16 unless ours_of s (destination_of p)
    ∷ []

-- "17: source is 1 to 7 or 255."
abbrev pub source_order : (packet : List ℕ) → List (Check Decision)
source_order p = refuse 17 unless endpoint_eid (source_of p) ∷ []
