-- What every phase does in every flag state, what the numbers of phases give, and in which phase an end starts, written
-- out: a definition and its code could be wrong alike.
-- Assumes nothing.
use mathlib.Core.Path.{◌≡◌, refl}
use mathlib.Core.Bool.{true, false, ◌&&◌}
use mathlib.Core.List.{List, [], ◌∷◌, ◌++◌, map}
use Prim.Native.Nat.{ℕ}
use lib.Dec.{eqb}
use Rattle.std.specs.Prelude.{Option, Some, None}
use Rattle.octets.specs.Choice.{pick}
use Rattle.mmbi.specs.declared.interface.Flags.{Flags}
use Rattle.mmbi.specs.Changes.{changed_flags}
use Rattle.mmbi.specs.Interface.{flags_of}
use Rattle.mmbi.proofs.States.{sixteen, digits}
use Rattle.handshake.specs.declared.host.HostPhase.{HostPhase}
use Rattle.handshake.specs.declared.host.HostPhase.TheVariants as host
use Rattle.handshake.specs.declared.controller.ControllerPhase.{ControllerPhase}
use Rattle.handshake.specs.declared.controller.ControllerPhase.TheVariants as controller
use Rattle.handshake.specs.Phases.{host_number, host_phases, controller_number, controller_phases, stored_refusal}
use Rattle.handshake.specs.Phases.{stored_number, host_asked, controller_asked}
use Rattle.handshake.specs.Runs.{Ends, the_host, the_controller, steps, running}
use Rattle.handshake.specs.Starts.{has_row, host_from_flags, controller_from_flags, host_at_power_up}
use Rattle.handshake.specs.Starts.{controller_at_power_up, power_up, restarted, moves, restarts, after_incidents}
use Rattle.handshake.specs.Steps.{host_step, controller_step}
use Rattle.handshake.proofs.Phases.{hosts, controllers}

-- flags before and after, as the digits of Table 5, and the next phase's number; nothing where a step waits
abbrev entry : (phase before after next : ℕ) → List ℕ
entry phase before after next = pick (eqb before after && eqb phase next) [] (before ∷ after ∷ next ∷ [])

abbrev host_entries : HostPhase → List Flags → List ℕ
host_entries phase [] = []
host_entries phase (f ∷ rest) =
    let said = host_step phase f in
    entry (host_number phase) (digits f) (digits (changed_flags said.change f)) (host_number said.next)
    ++ host_entries phase rest

abbrev controller_entries : ControllerPhase → List Flags → List ℕ
controller_entries phase [] = []
controller_entries phase (f ∷ rest) =
    let said = controller_step phase f in
    entry (controller_number phase) (digits f) (digits (changed_flags said.change f)) (controller_number said.next)
    ++ controller_entries phase rest

-- 1110 to 1111; 1010 to 1011, 1110 to 1111; 1000 to 1010
pub host_table : map (λ (phase : HostPhase). host_entries phase sixteen) hosts
    ≡ (14 ∷ 15 ∷ 2 ∷ []) ∷ (10 ∷ 11 ∷ 2 ∷ 14 ∷ 15 ∷ 2 ∷ []) ∷ (8 ∷ 10 ∷ 0 ∷ []) ∷ []
unfolding host_step
host_table = refl

-- 1011 to 1111; 1010 to 1110, 1011 to 1111; 1111 to 0111; 0111 to 0100; 0100 to 0000; 0000 to 1000
pub controller_table : map (λ (phase : ControllerPhase). controller_entries phase sixteen) controllers
    ≡ (11 ∷ 15 ∷ 2 ∷ [])
    ∷ (10 ∷ 14 ∷ 2 ∷ 11 ∷ 15 ∷ 2 ∷ [])
    ∷ (15 ∷ 7 ∷ 3 ∷ [])
    ∷ (7 ∷ 4 ∷ 4 ∷ [])
    ∷ (4 ∷ 0 ∷ 5 ∷ [])
    ∷ (0 ∷ 8 ∷ 0 ∷ [])
    ∷ []
unfolding controller_step
controller_table = refl

-- an ask is taken in phase running alone
pub asks_taken : (map (λ (phase : HostPhase). host_number (host_asked phase)) hosts ≡ 1 ∷ 1 ∷ 2 ∷ [])
    × (map (λ (phase : ControllerPhase). controller_number (controller_asked phase)) controllers
    ≡ 1 ∷ 1 ∷ 2 ∷ 3 ∷ 4 ∷ 5 ∷ [])
asks_taken = (refl, refl)

-- the numbers that are phases, and those that are none
pub stored_borders : (map (stored_refusal host_phases) (0 ∷ 2 ∷ 3 ∷ 255 ∷ []) ≡ 0 ∷ 0 ∷ 1 ∷ 1 ∷ [])
    × (map (stored_number host_phases) (0 ∷ 2 ∷ 3 ∷ 255 ∷ []) ≡ 0 ∷ 2 ∷ 0 ∷ 0 ∷ [])
    × (map (stored_refusal controller_phases) (0 ∷ 5 ∷ 6 ∷ 255 ∷ []) ≡ 0 ∷ 0 ∷ 1 ∷ 1 ∷ [])
    × (map (stored_number controller_phases) (0 ∷ 5 ∷ 6 ∷ 255 ∷ []) ≡ 0 ∷ 5 ∷ 0 ∷ 0 ∷ [])
stored_borders = (refl, refl, refl, refl)

-- the phase's number where a restart gives one, and "none" where it doesn't
abbrev none : List ℕ
none = []

abbrev given : {P : Type 0} → (P → ℕ) → Option P → List ℕ
given number (Some phase) = number phase ∷ []
given number None = none

-- from 0000 to 1111: waiting at 0000, 0100, 0111, 1000, 1011 and 1111, asking at 1010 and 1110
pub host_restart_table : map (λ (f : Flags). given host_number (host_from_flags f)) sixteen
    ≡ (2 ∷ []) ∷ none ∷ none ∷ none ∷ (2 ∷ []) ∷ none ∷ none ∷ (2 ∷ []) ∷ (2 ∷ []) ∷ none ∷ (1 ∷ []) ∷ (2 ∷ []) ∷ none
    ∷ none ∷ (1 ∷ []) ∷ (2 ∷ []) ∷ []
host_restart_table = refl

-- initializing at 0000, cleared at 0100, down at 0111, asking at 1000, 1010 and 1011, asked at 1110 and 1111
pub controller_restart_table : map (λ (f : Flags). given controller_number (controller_from_flags f)) sixteen
    ≡ (5 ∷ []) ∷ none ∷ none ∷ none ∷ (4 ∷ []) ∷ none ∷ none ∷ (3 ∷ []) ∷ (1 ∷ []) ∷ none ∷ (1 ∷ []) ∷ (1 ∷ []) ∷ none
    ∷ none ∷ (2 ∷ []) ∷ (2 ∷ []) ∷ []
controller_restart_table = refl

abbrev rowless : List Flags → List ℕ
rowless [] = []
rowless (f ∷ rest) = pick (has_row f) [] (digits f ∷ []) ++ rowless rest

-- 0001, 0010, 0011, 0101, 0110, 1001, 1100, 1101
pub eight_without_a_row : rowless sixteen ≡ 1 ∷ 2 ∷ 3 ∷ 5 ∷ 6 ∷ 9 ∷ 12 ∷ 13 ∷ []
eight_without_a_row = refl

-- waiting, initializing, 0000
pub power_up_numbers : (host_number host_at_power_up ≡ 2) × (controller_number controller_at_power_up ≡ 5)
    × (digits power_up.flags ≡ 0) × (host_number power_up.host ≡ 2) × (controller_number power_up.controller ≡ 5)
power_up_numbers = (refl, refl, refl, refl, refl)

-- flags and both phases, as numbers
abbrev told : Ends → List ℕ
told e = digits e.flags ∷ host_number e.host ∷ controller_number e.controller ∷ []

-- both ends run, and the flags have no row: 1001
abbrev mismatch : Ends
mismatch = record { flags = flags_of true false false true; host = host.Running; controller = controller.Running }

-- a restart changes one end's phase alone, in normal runtime and, where it is given none, not even that
pub restarts_told : (told (restarted the_host running) ≡ 10 ∷ 1 ∷ 0 ∷ [])
    × (told (restarted the_controller running) ≡ 10 ∷ 0 ∷ 1 ∷ [])
    × (told (restarted the_host mismatch) ≡ 9 ∷ 0 ∷ 0 ∷ [])
    × (told (restarted the_controller mismatch) ≡ 9 ∷ 0 ∷ 0 ∷ [])
    × (told (after_incidents (restarts the_host ∷ moves (steps the_host) ∷ restarts the_controller ∷ []) running)
    ≡ 11 ∷ 2 ∷ 1 ∷ [])
unfolding after_incidents host_step
restarts_told = (refl, refl, refl, refl, refl)
