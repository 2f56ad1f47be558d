-- The reset handshake, sentence by sentence (document 02, #105), and what a graceful reset keeps (#104), each a theorem
-- over the definitions that the public contracts cite. 64 is the base's largest body.
-- Assumes nothing.
use mathlib.Core.Path.{◌≡◌}
use mathlib.Core.Bool.{true, false}
use mathlib.Core.List.{List}
use mathlib.Core.Logic.{◌⊎◌}
use Prim.Native.Nat.{ℕ, ◌+◌, ◌*◌, ◌≤◌}
use lib.ListN.{length}
use Rattle.octets.specs.Bytes.{Below}
use Rattle.mmbi.specs.declared.change.Act.TheVariants.{ClearBoth}
use Rattle.mmbi.specs.declared.change.Change.{Change}
use Rattle.mmbi.specs.declared.change.Change.TheVariants.{Host}
use Rattle.mmbi.specs.declared.interface.Flags.{Flags}
use Rattle.mmbi.specs.Changes.{changed_flags}
use Rattle.mmbi.specs.Interface.{state_of, may_read}
use Rattle.descriptor.specs.declared.configuration.Configuration.{Configuration}
use Rattle.descriptor.specs.Configuration.{allowed}
use Rattle.window.specs.Words.{interface_in, stored_flags, reflagged}
use Rattle.window.proofs.Flags.{flags_changed}
use Rattle.handshake.specs.declared.controller.ControllerPhase.{ControllerPhase}
use Rattle.handshake.specs.declared.host.HostPhase.{HostPhase}
use Rattle.handshake.specs.Order.{host_order, controller_order, among, KeepsController, KeepsHost, clears_host}
use Rattle.handshake.specs.Back.{Asker, asking, ComesBack, Fair, BackWithin, misled, beyond_help}
use Rattle.handshake.specs.Runs.{End, Move, after, running}
use Rattle.handshake.specs.Starts.{power_up, Incident, after_incidents}
use Rattle.handshake.specs.Steps.{host_step, host_waits, controller_step, controller_waits}
use Rattle.handshake.proofs.Fair.{back_from_asking, back_from_anywhere}
use Rattle.handshake.proofs.Own.{host_writes_its_own, controller_writes_its_own, controller_clears_the_host}
use Rattle.handshake.proofs.PowerUp.{back_from_power_up}
use Rattle.handshake.proofs.Restarts.{back_after_restarts}
use Rattle.handshake.proofs.Turns.{back_in_turn}
use Rattle.handshake.proofs.Waiting.{host_waits_lem, controller_waits_lem}
use Rattle.handshake.proofs.WrongSights.{back_after_a_wrong_sight}
use Rattle.demands.specs.Turns.{Event, reinitializes, after_all, start_with, ring_right, AllGot, both_drained}
use Rattle.demands.proofs.Turns.{nothing_lost, all_can_be_got}

-- "Neither end writes the other's flags, except where 8.1.2 has the controller clear the host's.": whatever the phase,
-- whatever an end sees, and whatever the flags are
pub the_host_writes_its_own_flags : (phase : HostPhase) (seen : Flags) → KeepsController (host_step phase seen).change
the_host_writes_its_own_flags = host_writes_its_own

pub the_controller_writes_its_own_flags : (phase : ControllerPhase) (seen : Flags)
    → (clears_host phase seen ≡ false → KeepsHost (controller_step phase seen).change)
    × (clears_host phase seen ≡ true → (controller_step phase seen).change ≡ Host ClearBoth)
the_controller_writes_its_own_flags phase seen =
    (controller_writes_its_own phase seen, controller_clears_the_host phase seen)

-- "Any state out of order for the phase, also all zeros or all ones where they are out of order, is answered by
-- waiting.": no flag is changed, and the phase stays
pub the_host_waits_out_of_order : (phase : HostPhase) (seen : Flags) → among (host_order phase) seen ≡ false
    → host_step phase seen ≡ host_waits phase
the_host_waits_out_of_order = host_waits_lem

pub the_controller_waits_out_of_order : (phase : ControllerPhase) (seen : Flags)
    → among (controller_order phase) seen ≡ false
    → controller_step phase seen ≡ controller_waits phase
the_controller_waits_out_of_order = controller_waits_lem

-- "from normal runtime, with one end asking and both ends stepping in turn, normal runtime comes back within a stated
-- number of steps, counted by a definition": after exactly that number, for each asker, for both at once, and for
-- either end first; all ones and all zeros are passed on the way
pub normal_runtime_comes_back : (asker : Asker) (first : End) → ComesBack asker first
normal_runtime_comes_back = back_in_turn

-- in no particular order, but each end at least once in every k steps: within 7 k steps
pub it_comes_back_in_any_fair_order : (asker : Asker) (k : ℕ) (order : List End) → Fair k order
    → 7 * k ≤ length order
    → BackWithin (7 * k) order (asking asker)
it_comes_back_in_any_fair_order = back_from_asking

-- and within 8 k from whatever steps and asks in any order have led to: nothing that can be reached is stuck
pub nothing_is_stuck : (history : List Move) (k : ℕ) (order : List End) → Fair k order → 8 * k ≤ length order
    → BackWithin (8 * k) order (after history running)
nothing_is_stuck = back_from_anywhere

-- nor is anything after one wrong sight of the flags, whichever end's and whatever it is shown, but for a few that are
-- named
pub one_wrong_sight_is_survived : (history : List Move) (end : End) (seen : Flags)
    → beyond_help end seen (after history running) ≡ false
    → (k : ℕ) (order : List End) → Fair k order → 8 * k ≤ length order
    → BackWithin (8 * k) order (misled end seen (after history running))
one_wrong_sight_is_survived = back_after_a_wrong_sight

-- nor after restarts: an end that restarts alone takes its phase from the flags, as often as that happens, among steps
-- and asks in any order
pub restarts_are_survived : (incidents : List Incident) (k : ℕ) (order : List End) → Fair k order
    → 8 * k ≤ length order
    → BackWithin (8 * k) order (after_incidents incidents running)
restarts_are_survived = back_after_restarts

-- and both ends come up from power-up, within 2 k steps
pub they_come_up_from_power_up : (k : ℕ) (order : List End) → Fair k order → 2 * k ≤ length order
    → BackWithin (2 * k) order power_up
they_come_up_from_power_up = back_from_power_up

-- what a step says, stored in a window: the flags that are read there next are the changed ones, and every pointer is
-- as it was, right for its ring or not, so that a reset can cure a broken one. Document 01 lets the two structures
-- overlap; a handshake needs them apart.
pub a_step_is_stored_beside_any_pointer : (window : List ℕ) (c : Configuration) → Below 256 window
    → allowed (length window) c ≡ true → (c.ros + 8 ≤ c.rws) ⊎ (c.rws + 8 ≤ c.ros) → (change : Change)
    → interface_in (stored_flags window c change) c
    ≡ reflagged (interface_in window c) (changed_flags change (interface_in window c).flags)
a_step_is_stored_beside_any_pointer = flags_changed

-- "003 says a graceful reset loses no packet in the MMBI layer" (#104): from normal runtime with two empty rings,
-- whatever packets are offered, whoever asks, and whoever has a turn, in any order: when the controller reinitializes,
-- every packet that was stored in either ring has been read, in order. A turn is a drain and a step at one go; the host
-- doesn't drain once it has set H_RST.
pub a_graceful_reset_loses_no_packet : (out h2b : List ℕ) (h2bAt : ℕ) (b2h : List ℕ) (b2hAt : ℕ) → 68 ≤ length out
    → ring_right 64 h2b h2bAt ≡ true → ring_right 64 b2h b2hAt ≡ true
    → (events : List Event) → reinitializes (after_all 64 out events (start_with h2b h2bAt b2h b2hAt)).ends ≡ true
    → AllGot (after_all 64 out events (start_with h2b h2bAt b2h b2hAt))
a_graceful_reset_loses_no_packet = nothing_lost 64

-- and at every other time: where a ring may be read, one drain more gets all that was ever stored in it
pub what_was_sent_can_be_got : (out h2b : List ℕ) (h2bAt : ℕ) (b2h : List ℕ) (b2hAt : ℕ) → 68 ≤ length out
    → ring_right 64 h2b h2bAt ≡ true → ring_right 64 b2h b2hAt ≡ true
    → (events : List Event)
    → may_read (state_of (after_all 64 out events (start_with h2b h2bAt b2h b2hAt)).ends.flags) ≡ true
    → AllGot (both_drained 64 out (after_all 64 out events (start_with h2b h2bAt b2h b2hAt)))
what_was_sent_can_be_got = all_can_be_got 64
