-- A step of each end: which flags it sets or clears, and its next phase (003, 8.1.2.1, 8.1.2.2 and Table 5).
-- Assumes nothing.
use Rattle.std.specs.Prelude.{Bool, ◌||◌}
use Rattle.octets.specs.Choice.{pick}
use Rattle.mmbi.specs.declared.change.Act.TheVariants.{SetUp, ClearUp, SetReset, ClearReset, ClearBoth}
use Rattle.mmbi.specs.declared.change.Change.{Change}
use Rattle.mmbi.specs.declared.change.Change.TheVariants.{Nothing, Host, Controller}
use Rattle.mmbi.specs.declared.interface.Flags.{Flags}
use Rattle.mmbi.specs.Interface.{same_flags, normal_runtime, asked_by_host, asked_by_controller, acknowledged}
use Rattle.mmbi.specs.Interface.{transitioning}
use Rattle.mmbi.specs.Interface.{host_cleared, all_clear, completed}
use Rattle.handshake.specs.declared.host.HostPhase.{HostPhase}
use Rattle.handshake.specs.declared.host.HostPhase.TheVariants as host
use Rattle.handshake.specs.declared.controller.ControllerPhase.{ControllerPhase}
use Rattle.handshake.specs.declared.controller.ControllerPhase.TheVariants as controller
use Rattle.handshake.specs.declared.phase.Step.{Step}

-- what a step says: which flags to change, and the phase once they are changed
abbrev says : {P : Type 0} → Change → P → Step P
says change next = record { change = change; next = next }

abbrev pub host_says : Change → HostPhase → Step HostPhase
host_says = says

abbrev pub controller_says : Change → ControllerPhase → Step ControllerPhase
controller_says = says

-- what the host looks for in each phase
abbrev pub host_sees : HostPhase → Flags → Bool
-- Table 5, 1110: "When the host notices the request, .. shall set H_RST flag as an ACK and wait for the initialization
-- to complete"
host_sees host.Running f = same_flags f asked_by_controller
-- 8.1.2.1: "Assuming Normal Runtime state, .. 1) The host sets H_RST = 1 to initiate the reset flow."; where the
-- controller has asked meanwhile, that is the ACK
host_sees host.Asking f = same_flags f normal_runtime || same_flags f asked_by_controller
-- "2) The host waits for B_UP = 1 and B_RST = 0 (and H_UP = H_RST = 0)"
host_sees host.Waiting f = same_flags f completed

-- and what it does then, the last by "3) The host transitions to the Normal Runtime state by setting H_UP = 1."
abbrev pub host_does : HostPhase → Step HostPhase
host_does host.Running = host_says (Host SetReset) host.Waiting
host_does host.Asking = host_says (Host SetReset) host.Waiting
host_does host.Waiting = host_says (Host SetUp) host.Running

abbrev pub host_waits : HostPhase → Step HostPhase
host_waits phase = host_says Nothing phase

unfoldable pub host_step : HostPhase → Flags → Step HostPhase
host_step phase f = pick (host_sees phase f) (host_does phase) (host_waits phase)

-- what the controller looks for in each phase
abbrev pub controller_sees : ControllerPhase → Flags → Bool
-- Table 5, 1011: "When the (B)MC notices the request, it .. shall set B_RST flag as an ACK."
controller_sees controller.Running f = same_flags f asked_by_host
-- 8.1.2.2: "Assuming Normal Runtime state, .. 1) The (B)MC sets B_RST = 1 to initiate the reset flow."; where the host
-- has asked meanwhile, that is the ACK
controller_sees controller.Asking f = same_flags f normal_runtime || same_flags f asked_by_host
-- "2) The (B)MC waits for H_UP = 1 and H_RST = 1, which indicates the transition to the Reset ACKed state."
controller_sees controller.Asked f = same_flags f acknowledged
controller_sees controller.Down f = same_flags f transitioning
controller_sees controller.Cleared f = same_flags f host_cleared
controller_sees controller.Initializing f = same_flags f all_clear

-- and what it does then: "3) The (B)MC clears the B_UP flag (B_RST still set). .. 4) The (B)MC clears the H_UP and
-- H_RST flags .. 5) The (B)MC clears the B_RST flag. 6) The (B)MC reinitializes all the data structures. 7) The (B)MC
-- sets B_UP = 1."
abbrev pub controller_does : ControllerPhase → Step ControllerPhase
controller_does controller.Running = controller_says (Controller SetReset) controller.Asked
controller_does controller.Asking = controller_says (Controller SetReset) controller.Asked
controller_does controller.Asked = controller_says (Controller ClearUp) controller.Down
controller_does controller.Down = controller_says (Host ClearBoth) controller.Cleared
controller_does controller.Cleared = controller_says (Controller ClearReset) controller.Initializing
controller_does controller.Initializing = controller_says (Controller SetUp) controller.Running

abbrev pub controller_waits : ControllerPhase → Step ControllerPhase
controller_waits phase = controller_says Nothing phase

unfoldable pub controller_step : ControllerPhase → Flags → Step ControllerPhase
controller_step phase f = pick (controller_sees phase f) (controller_does phase) (controller_waits phase)
