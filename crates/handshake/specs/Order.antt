-- Which flag states are in order for a phase, by Table 5 of 003, and whose flags a step may write. Document 02, #105:
-- "Any state out of order for the phase, also all zeros or all ones where they are out of order, is answered by
-- waiting."
-- Assumes nothing.
use Rattle.std.specs.Prelude.{◌≡◌, Bool, true, false, ◌&&◌, ◌||◌, List, [], ◌∷◌}
use Rattle.mmbi.specs.declared.change.Change.{Change}
use Rattle.mmbi.specs.declared.interface.Flags.{Flags}
use Rattle.mmbi.specs.Changes.{changed_flags}
use Rattle.mmbi.specs.Interface.{flags_of, same_flags}
use Rattle.handshake.specs.declared.host.HostPhase.{HostPhase}
use Rattle.handshake.specs.declared.host.HostPhase.TheVariants as host
use Rattle.handshake.specs.declared.controller.ControllerPhase.{ControllerPhase}
use Rattle.handshake.specs.declared.controller.ControllerPhase.TheVariants as controller
use Rattle.handshake.specs.Phases.{controller_is}

-- the rows of Table 5, "B_UP B_RST H_UP H_RST", in which a phase of the host acts
abbrev pub host_order : HostPhase → List Flags
-- 1110 Reset Request by (B)MC
host_order host.Running = flags_of true true true false ∷ []
-- 1010 Normal Runtime, 1110 Reset Request by (B)MC
host_order host.Asking = flags_of true false true false ∷ flags_of true true true false ∷ []
-- 1000 Initialization Completed
host_order host.Waiting = flags_of true false false false ∷ []

-- and a phase of the controller
abbrev pub controller_order : ControllerPhase → List Flags
-- 1011 Reset Request by Host
controller_order controller.Running = flags_of true false true true ∷ []
-- 1010 Normal Runtime, 1011 Reset Request by Host
controller_order controller.Asking = flags_of true false true false ∷ flags_of true false true true ∷ []
-- 1111 Reset ACKed
controller_order controller.Asked = flags_of true true true true ∷ []
-- 0111 Transitioning to Initialization
controller_order controller.Down = flags_of false true true true ∷ []
-- 0100, of the Temporary Transition States
controller_order controller.Cleared = flags_of false true false false ∷ []
-- 0000 Initialization in Progress
controller_order controller.Initializing = flags_of false false false false ∷ []

-- these flags are one of the rows
abbrev pub among : List Flags → Flags → Bool
among [] f = false
among (row ∷ rows) f = same_flags row f || among rows f

-- "Neither end writes the other's flags": a change leaves one end's flags, whatever they are
abbrev pub KeepsController : Change → Type 0
KeepsController change = (f : Flags)
    → ((changed_flags change f).controller_up ≡ f.controller_up)
    × ((changed_flags change f).controller_reset ≡ f.controller_reset)

abbrev pub KeepsHost : Change → Type 0
KeepsHost change = (f : Flags)
    → ((changed_flags change f).host_up ≡ f.host_up) × ((changed_flags change f).host_reset ≡ f.host_reset)

-- "except where 8.1.2 has the controller clear the host's": in phase down, at 0111
abbrev pub clears_host : ControllerPhase → Flags → Bool
clears_host phase f = controller_is phase controller.Down && same_flags f (flags_of false true true true)
