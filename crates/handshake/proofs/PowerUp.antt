-- Power-up: normal runtime comes up from the phases that are given for it, and never from zeroed storage, which reads
-- as phase running.
-- Assumes nothing.
use mathlib.Core.Path.{◌≡◌, refl}
use mathlib.Core.Bool.{Bool, beq, true, false, not, ◌&&◌, ◌||◌}
use mathlib.Core.List.{List, [], ◌∷◌, map}
use Prim.Native.Nat.{ℕ, ◌*◌, ◌≤◌}
use native.Mathlib.Omega.{arith}
use lib.ListN.{length}
use Rattle.std.specs.Prelude.{Result, Ok, Some}
use Rattle.octets.proofs.Choice.{both, beq_true, implies, implied}
use Rattle.mctp.specs.declared.refusal.Refusal.{Refusal}
use Rattle.mmbi.specs.Interface.{same_flags, normal_runtime, all_clear, completed}
use Rattle.handshake.specs.declared.controller.ControllerPhase.{ControllerPhase}
use Rattle.handshake.specs.declared.controller.ControllerPhase.TheVariants as controller
use Rattle.handshake.specs.declared.host.HostPhase.{HostPhase}
use Rattle.handshake.specs.declared.host.HostPhase.TheVariants as host
use Rattle.handshake.specs.Back.{in_turn, steps_back, Fair, BackWithin}
use Rattle.handshake.specs.Phases.{host_is, host_phases, controller_is, controller_phases, stored_refusal}
use Rattle.handshake.specs.Phases.{stored_number, host_refusal, host_stored, controller_refusal, controller_stored}
use Rattle.handshake.specs.Runs.{Ends, End, the_host, the_controller, Move, steps, asks, moved, after}
use Rattle.handshake.specs.Starts.{host_at_power_up, controller_at_power_up, power_up, host_from_flags}
use Rattle.handshake.specs.Starts.{controller_from_flags}
use Rattle.handshake.specs.Steps.{host_step, controller_step}
use Rattle.handshake.proofs.Fair.{back_within}
use Rattle.handshake.proofs.Left.{every_ends, every_ends_lem, left_within, left, finishes_few}
use Rattle.handshake.proofs.Phases.{host_stored_equal, controller_stored_equal}

-- in turn, and in any fair order: the controller's act and the host's are left
pub from_power_up :
    (steps_back (in_turn the_host 3) power_up ≡ 3) × (steps_back (in_turn the_controller 2) power_up ≡ 2)
unfolding steps_back host_step controller_step
from_power_up = (refl, refl)

power_up_left : left power_up ≡ 2
unfolding left left_within host_step controller_step
power_up_left = refl

pub back_from_power_up : (k : ℕ) (order : List End) → Fair k order → 2 * k ≤ length order
    → BackWithin (2 * k) order power_up
back_from_power_up k order fair long =
    let two = power_up_left in
    back_within k 2 order power_up (finishes_few power_up (omega arith)) (omega arith) fair long

-- a power-up is a restart that finds all flags clear
pub power_up_by_flags :
    (host_from_flags all_clear ≡ Some host_at_power_up)
    × (controller_from_flags all_clear ≡ Some controller_at_power_up)
power_up_by_flags = (refl, refl)

-- the number 0 reads as phase running: what `of_number` promises of 0 leaves no other answer
pub zeroed_reads_as_running :
    ((r : Result HostPhase Refusal) → host_refusal r ≡ stored_refusal host_phases 0
    → host_stored r ≡ stored_number host_phases 0
    → r ≡ Ok host.Running)
    × ((r : Result ControllerPhase Refusal) → controller_refusal r ≡ stored_refusal controller_phases 0
    → controller_stored r ≡ stored_number controller_phases 0
    → r ≡ Ok controller.Running)
zeroed_reads_as_running = (
  (λ r e n. host_stored_equal r (Ok host.Running) e n),
  (λ r e n. controller_stored_equal r (Ok controller.Running) e n),
)

-- all flags clear, with the phase of both ends out of zeroed storage, or of one of them
abbrev pub zeroed : Ends
zeroed = record { flags = all_clear; host = host.Running; controller = controller.Running }

abbrev pub host_zeroed : Ends
host_zeroed = record { flags = all_clear; host = host.Running; controller = controller_at_power_up }

abbrev pub controller_zeroed : Ends
controller_zeroed = record { flags = all_clear; host = host_at_power_up; controller = controller.Running }

-- no step changes anything where both are
pub zeroed_stays : (order : List End) → after (map steps order) zeroed ≡ zeroed
unfolding after host_step controller_step
zeroed_stays [] = refl
zeroed_stays (the_host ∷ order) = zeroed_stays order
zeroed_stays (the_controller ∷ order) = zeroed_stays order

-- a host that doesn't wait, before it is up; a controller that doesn't initialize, with all flags clear: no step or ask
-- of either end leads out of these
abbrev host_late : Ends → Bool
host_late e =
    not (host_is e.host host.Waiting) && (same_flags e.flags all_clear || same_flags e.flags completed)

abbrev controller_late : Ends → Bool
controller_late e = same_flags e.flags all_clear && not (controller_is e.controller controller.Initializing)

abbrev late : Ends → Bool
late e = host_late e || controller_late e

abbrev steps_late : Ends → Bool
steps_late e = late (moved (steps the_host) e) && late (moved (steps the_controller) e)

abbrev asks_late : Ends → Bool
asks_late e = late (moved (asks the_host) e) && late (moved (asks the_controller) e)

abbrev stays_late : Ends → Bool
stays_late e = implies (late e) (steps_late e && asks_late e)

late_tested : every_ends stays_late ≡ true
unfolding host_step controller_step
late_tested = refl

late_moved : (move : Move) (e : Ends) → late e ≡ true → late (moved move e) ≡ true
late_moved move e h = of move
  where
    after_step : steps_late e ≡ true
    after_step = (both (steps_late e) (asks_late e) (implied (late e) _ (every_ends_lem stays_late late_tested e) h)).0

    after_ask : asks_late e ≡ true
    after_ask = (both (steps_late e) (asks_late e) (implied (late e) _ (every_ends_lem stays_late late_tested e) h)).1

    of : (move : Move) → late (moved move e) ≡ true
    of (steps the_host) = (both (late (moved (steps the_host) e)) _ after_step).0
    of (steps the_controller) = (both (late (moved (steps the_host) e)) _ after_step).1
    of (asks the_host) = (both (late (moved (asks the_host) e)) _ after_ask).0
    of (asks the_controller) = (both (late (moved (asks the_host) e)) _ after_ask).1

late_after : (history : List Move) (e : Ends) → late e ≡ true → late (after history e) ≡ true
unfolding after
late_after [] e h = h
late_after (move ∷ history) e h = late_after history (moved move e) (late_moved move e h)

late_down : (e : Ends) → late e ≡ true → same_flags e.flags normal_runtime ≡ false
late_down e h =
    beq_true _ false
    (implied (late e) _
    (every_ends_lem (λ e. implies (late e) (beq (same_flags e.flags normal_runtime) false)) refl e) h)

-- whatever steps and asks there are, in any order, the flags are never 1010
abbrev NeverUp : Ends → Type 0
NeverUp e = (history : List Move) → same_flags (after history e).flags normal_runtime ≡ false

never_up : (e : Ends) → late e ≡ true → NeverUp e
never_up e h history = late_down (after history e) (late_after history e h)

pub zeroed_never_comes_up : NeverUp zeroed × NeverUp host_zeroed × NeverUp controller_zeroed
zeroed_never_comes_up = (never_up zeroed refl, never_up host_zeroed refl, never_up controller_zeroed refl)
