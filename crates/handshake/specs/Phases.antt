-- The phases of both ends: the numbers under which they are stored, and what an ask does to them (document 02, #105).
-- Assumes nothing.
use Rattle.std.specs.Prelude.{ℕ, Bool, ltb, eqb, Result, Ok, Err}
use Rattle.octets.specs.Choice.{pick}
use Rattle.mctp.specs.declared.refusal.Refusal.{Refusal}
use Rattle.mctp.specs.Refusals.{outcome_number}
use Rattle.handshake.specs.declared.host.HostPhase.{HostPhase}
use Rattle.handshake.specs.declared.host.HostPhase.TheVariants as host
use Rattle.handshake.specs.declared.controller.ControllerPhase.{ControllerPhase}
use Rattle.handshake.specs.declared.controller.ControllerPhase.TheVariants as controller

-- the host's three phases, counted from 0
abbrev pub host_number : HostPhase → ℕ
host_number host.Running = 0
host_number host.Asking = 1
host_number host.Waiting = 2

-- whether it is this phase
abbrev pub host_is : HostPhase → HostPhase → Bool
host_is p q = eqb (host_number p) (host_number q)

-- and how many there are
abbrev pub host_phases : ℕ
host_phases = 3

-- the controller's six
abbrev pub controller_number : ControllerPhase → ℕ
controller_number controller.Running = 0
controller_number controller.Asking = 1
controller_number controller.Asked = 2
controller_number controller.Down = 3
controller_number controller.Cleared = 4
controller_number controller.Initializing = 5

abbrev pub controller_is : ControllerPhase → ControllerPhase → Bool
controller_is p q = eqb (controller_number p) (controller_number q)

abbrev pub controller_phases : ℕ
controller_phases = 6

-- "Refusals: 1 for a phase number that is none."
abbrev pub stored_refusal : (phases n : ℕ) → ℕ
stored_refusal phases n = pick (ltb n phases) 0 1

-- the phase's own number, 0 where refused
abbrev pub stored_number : (phases n : ℕ) → ℕ
stored_number phases n = pick (ltb n phases) n 0

-- what a number gives out of stored state: the phase's number, 0 where refused
abbrev pub stored_in : {P : Type 0} → (P → ℕ) → Result P Refusal → ℕ
stored_in number (Ok phase) = number phase
stored_in number (Err refusal) = 0

abbrev pub host_refusal : Result HostPhase Refusal → ℕ
host_refusal = outcome_number

abbrev pub host_stored : Result HostPhase Refusal → ℕ
host_stored = stored_in host_number

abbrev pub controller_refusal : Result ControllerPhase Refusal → ℕ
controller_refusal = outcome_number

abbrev pub controller_stored : Result ControllerPhase Refusal → ℕ
controller_stored = stored_in controller_number

-- "with one end asking": an ask is taken in phase running alone, so that none comes on top of a reset
abbrev pub host_asked : HostPhase → HostPhase
host_asked host.Running = host.Asking
host_asked host.Asking = host.Asking
host_asked host.Waiting = host.Waiting

abbrev pub controller_asked : ControllerPhase → ControllerPhase
controller_asked controller.Running = controller.Asking
controller_asked controller.Asking = controller.Asking
controller_asked controller.Asked = controller.Asked
controller_asked controller.Down = controller.Down
controller_asked controller.Cleared = controller.Cleared
controller_asked controller.Initializing = controller.Initializing
