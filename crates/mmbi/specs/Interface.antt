-- The state of the interface (003, Table 5; document 01, "MMBI descriptor, state and ring").
-- Assumes nothing.
use Rattle.std.specs.Prelude.{Bool, true, false, ◌&&◌}
use Rattle.std.specs.Bool.{beq}
use Rattle.mmbi.specs.declared.interface.Flags.{Flags}
use Rattle.mmbi.specs.declared.interface.InterfaceState.{InterfaceState}
use Rattle.mmbi.specs.declared.interface.InterfaceState.TheVariants.{InitializationInProgress}
use Rattle.mmbi.specs.declared.interface.InterfaceState.TheVariants.{InitializationCompleted, NormalRuntime}
use Rattle.mmbi.specs.declared.interface.InterfaceState.TheVariants.{ResetRequestByController}
use Rattle.mmbi.specs.declared.interface.InterfaceState.TheVariants.{ResetRequestByHost, ResetAcked}
use Rattle.mmbi.specs.declared.interface.InterfaceState.TheVariants.{TransitioningToInitialization}
use Rattle.mmbi.specs.declared.interface.InterfaceState.TheVariants.{TemporaryTransition, InitializationMismatch}
use Rattle.mmbi.specs.declared.interface.InterfaceState.TheVariants.{Unexpected}

-- Table 5, its columns "B_UP B_RST H_UP H_RST", its rows in the order that it gives them
abbrev pub row : Bool → Bool → Bool → Bool → InterfaceState
row false false false false = InitializationInProgress
row true false false false = InitializationCompleted
row true false true false = NormalRuntime
row true true true false = ResetRequestByController
row true false true true = ResetRequestByHost
row true true true true = ResetAcked
row false true true true = TransitioningToInitialization
row false true true false = TemporaryTransition
row false true false true = TemporaryTransition
row false true false false = TemporaryTransition
row false false false true = TemporaryTransition
row true false false true = InitializationMismatch
row true true false true = Unexpected
row true true false false = Unexpected
row false false true false = Unexpected
row false false true true = Unexpected

-- the flags as a number's digits are read: B_UP, B_RST, H_UP, H_RST
abbrev pub flags_of : Bool → Bool → Bool → Bool → Flags
flags_of b_up b_rst h_up h_rst =
    record { controller_up = b_up; controller_reset = b_rst; host_up = h_up; host_reset = h_rst }

-- "1010 normal runtime; 1011 reset asked by host; 1110 reset asked by controller"
abbrev pub normal_runtime : Flags
normal_runtime = flags_of true false true false

abbrev pub asked_by_host : Flags
asked_by_host = flags_of true false true true

abbrev pub asked_by_controller : Flags
asked_by_controller = flags_of true true true false

-- "1000 initialization completed .. 1111 reset acknowledged"
abbrev pub completed : Flags
completed = flags_of true false false false

abbrev pub acknowledged : Flags
acknowledged = flags_of true true true true

-- on the way from one to the other: "Transitioning to Initialization" (0111), of the "Temporary Transition States"
-- 0100, "Initialization in Progress" (0000)
abbrev pub transitioning : Flags
transitioning = flags_of false true true true

abbrev pub host_cleared : Flags
host_cleared = flags_of false true false false

abbrev pub all_clear : Flags
all_clear = flags_of false false false false

-- the same flags, all four, as `==` compares them
abbrev pub same_flags : Flags → Flags → Bool
same_flags f g =
    beq f.controller_up g.controller_up
    && (beq f.controller_reset g.controller_reset
    && (beq f.host_up g.host_up && beq f.host_reset g.host_reset))

-- "State from the four flags (B_UP, B_RST, H_UP, H_RST)"
unfoldable pub state_of : Flags → InterfaceState
state_of f = row f.controller_up f.controller_reset f.host_up f.host_reset

-- "1000 initialization completed; 1010 normal runtime; 1011 reset asked by host; 1110 reset asked by controller; 1111
-- reset acknowledged; the rest transient."
abbrev pub is_transient : InterfaceState → Bool
is_transient InitializationInProgress = true
is_transient InitializationCompleted = false
is_transient NormalRuntime = false
is_transient ResetRequestByController = false
is_transient ResetRequestByHost = false
is_transient ResetAcked = false
is_transient TransitioningToInitialization = true
is_transient TemporaryTransition = true
is_transient InitializationMismatch = true
is_transient Unexpected = true

-- "Reading is now allowed in normal runtime and in both reset-asked states" (document 02, #104)
abbrev pub may_read : InterfaceState → Bool
may_read InitializationInProgress = false
may_read InitializationCompleted = false
may_read NormalRuntime = true
may_read ResetRequestByController = true
may_read ResetRequestByHost = true
may_read ResetAcked = false
may_read TransitioningToInitialization = false
may_read TemporaryTransition = false
may_read InitializationMismatch = false
may_read Unexpected = false

-- "writing stays in normal runtime only"
abbrev pub may_write : InterfaceState → Bool
may_write InitializationInProgress = false
may_write InitializationCompleted = false
may_write NormalRuntime = true
may_write ResetRequestByController = false
may_write ResetRequestByHost = false
may_write ResetAcked = false
may_write TransitioningToInitialization = false
may_write TemporaryTransition = false
may_write InitializationMismatch = false
may_write Unexpected = false
