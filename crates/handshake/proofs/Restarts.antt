-- An end that restarts alone, with the interface as it was, takes its phase from the flags: it finds a row wherever a
-- way back was left, and a way back is left then.
-- Assumes nothing.
use mathlib.Core.Path.{◌≡◌, refl}
use mathlib.Core.Bool.{Bool, beq, true, false, ◌&&◌}
use mathlib.Core.List.{List, [], ◌∷◌, ◌++◌}
use Prim.Native.Nat.{ℕ, ◌*◌, ◌≤◌}
use lib.ListN.{length}
use Rattle.std.specs.Prelude.{Option, Some, None}
use Rattle.octets.proofs.Choice.{both, beq_true, implies, implied, implied_not}
use Rattle.mmbi.specs.declared.interface.Flags.{Flags}
use Rattle.mmbi.specs.Interface.{normal_runtime}
use Rattle.mmbi.proofs.States.{every_flags, every_flags_lem}
use Rattle.handshake.specs.declared.controller.ControllerPhase.{ControllerPhase}
use Rattle.handshake.specs.declared.controller.ControllerPhase.TheVariants as controller
use Rattle.handshake.specs.declared.host.HostPhase.{HostPhase}
use Rattle.handshake.specs.declared.host.HostPhase.TheVariants as host
use Rattle.handshake.specs.Back.{host_asks, controller_asks, asking, in_turn, stated_steps, trace, Fair, BackWithin}
use Rattle.handshake.specs.Order.{host_order, controller_order, among}
use Rattle.handshake.specs.Phases.{host_is, controller_is}
use Rattle.handshake.specs.Runs.{Ends, End, the_host, the_controller, running}
use Rattle.handshake.specs.Starts.{has_row, host_by, controller_by, host_from_flags, controller_from_flags, restarted}
use Rattle.handshake.specs.Starts.{Incident, moves, restarts, after_incidents}
use Rattle.handshake.specs.Steps.{host_step, host_waits, controller_step, controller_waits}
use Rattle.handshake.proofs.Fair.{back_within, running_finishes}
use Rattle.handshake.proofs.Left.{every_ends, every_ends_lem, left_within, left, finishes, few_left, finishes_moved}
use Rattle.handshake.proofs.Waiting.{host_waits_lem, controller_waits_lem}

-- the flag states that a graceful reset passes, asked for by the host and by the controller
unfoldable pub passed : List Flags
passed =
    normal_runtime
    ∷ trace (in_turn the_host (stated_steps host_asks the_host)) (asking host_asks)
    ++ trace (in_turn the_controller (stated_steps controller_asks the_controller)) (asking controller_asks)

-- the rows are these, and no others: a test of all sixteen flag states
rows_tested : every_flags (λ f. beq (has_row f) (among passed f)) ≡ true
unfolding passed trace host_step controller_step
rows_tested = refl

pub rows_exact : (f : Flags) → has_row f ≡ among passed f
rows_exact f = beq_true _ _ (every_flags_lem (λ f. beq (has_row f) (among passed f)) rows_tested f)

-- and in the others every phase waits, so that no step leads out of them
abbrev acts_by_row : List Flags → Flags → Bool
acts_by_row order f = implies (among order f) (has_row f)

not_acted : (order : List Flags) → every_flags (acts_by_row order) ≡ true → (f : Flags) → has_row f ≡ false
    → among order f ≡ false
not_acted order t f n = implied_not (among order f) (has_row f) (every_flags_lem (acts_by_row order) t f) n

pub host_waits_without_a_row : (phase : HostPhase) (f : Flags) → has_row f ≡ false
    → host_step phase f ≡ host_waits phase
host_waits_without_a_row phase f n = host_waits_lem phase f (acted phase)
  where
    acted : (phase : HostPhase) → among (host_order phase) f ≡ false
    acted host.Running = not_acted (host_order host.Running) refl f n
    acted host.Asking = not_acted (host_order host.Asking) refl f n
    acted host.Waiting = not_acted (host_order host.Waiting) refl f n

pub controller_waits_without_a_row : (phase : ControllerPhase) (f : Flags) → has_row f ≡ false
    → controller_step phase f ≡ controller_waits phase
controller_waits_without_a_row phase f n = controller_waits_lem phase f (acted phase)
  where
    acted : (phase : ControllerPhase) → among (controller_order phase) f ≡ false
    acted controller.Running = not_acted (controller_order controller.Running) refl f n
    acted controller.Asking = not_acted (controller_order controller.Asking) refl f n
    acted controller.Asked = not_acted (controller_order controller.Asked) refl f n
    acted controller.Down = not_acted (controller_order controller.Down) refl f n
    acted controller.Cleared = not_acted (controller_order controller.Cleared) refl f n
    acted controller.Initializing = not_acted (controller_order controller.Initializing) refl f n

-- a restart by a row gives the end that phase, and changes nothing else
pub restarted_by_flags : (e : Ends) → has_row e.flags ≡ true
    → (restarted the_host e ≡ record { flags = e.flags; host = host_by e.flags; controller = e.controller })
    × (restarted the_controller e ≡ record { flags = e.flags; host = e.host; controller = controller_by e.flags })
restarted_by_flags e h = (rw h, rw h)

-- no restart gives phase running: a restarted end asks for a reset, or goes on with the one that is under way
abbrev host_runs : Option HostPhase → Bool
host_runs (Some phase) = host_is phase host.Running
host_runs None = false

abbrev controller_runs : Option ControllerPhase → Bool
controller_runs (Some phase) = controller_is phase controller.Running
controller_runs None = false

pub none_restarts_running : (f : Flags)
    → (host_runs (host_from_flags f) ≡ false) × (controller_runs (controller_from_flags f) ≡ false)
none_restarts_running f = (
  beq_true _ false (every_flags_lem (λ f. beq (host_runs (host_from_flags f)) false) refl f),
  beq_true _ false (every_flags_lem (λ f. beq (controller_runs (controller_from_flags f)) false) refl f),
)

-- an end that restarts alone, with the interface as it was, can take its phase from the flags: a way back is left
abbrev host_restarts : Ends → Ends
host_restarts e = record { flags = e.flags; host = host_by e.flags; controller = e.controller }

abbrev controller_restarts : Ends → Ends
controller_restarts e = record { flags = e.flags; host = e.host; controller = controller_by e.flags }

abbrev alone_test : Ends → Bool
alone_test e = implies (finishes e) (finishes (host_restarts e) && finishes (controller_restarts e))

alone_tested : every_ends alone_test ≡ true
unfolding finishes left left_within host_step controller_step
alone_tested = refl

pub restarts_finish : (e : Ends) → finishes e ≡ true
    → (finishes (host_restarts e) ≡ true) × (finishes (controller_restarts e) ≡ true)
restarts_finish e can =
    both (finishes (host_restarts e)) (finishes (controller_restarts e))
    (implied (finishes e) _ (every_ends_lem alone_test alone_tested e) can)

-- where the way back can be gone, there is a row, and it still can after a restart of either end
abbrev restarts_test : Ends → Bool
restarts_test e =
    implies (finishes e) (has_row e.flags && (finishes (restarted the_host e) && finishes (restarted the_controller e)))

restarts_tested : every_ends restarts_test ≡ true
unfolding finishes left left_within host_step controller_step
restarts_tested = refl

module _ (e : Ends) (can : finishes e ≡ true) where
  found : (has_row e.flags ≡ true) × ((finishes (restarted the_host e) && finishes (restarted the_controller e)) ≡ true)
  found =
      both (has_row e.flags) (finishes (restarted the_host e) && finishes (restarted the_controller e))
      (implied (finishes e) _ (every_ends_lem restarts_test restarts_tested e) can)

  pub finishing_has_row : has_row e.flags ≡ true
  finishing_has_row = found.0

  pub finishes_restarted : (end : End) → finishes (restarted end e) ≡ true
  finishes_restarted the_host = (both (finishes (restarted the_host e))
      (finishes (restarted the_controller e)) found.1).0
  finishes_restarted the_controller =
      (both (finishes (restarted the_host e)) (finishes (restarted the_controller e)) found.1).1

-- so it is after any number of restarts, among steps and asks in any order
pub finishes_after_incidents : (incidents : List Incident) (e : Ends) → finishes e ≡ true
    → finishes (after_incidents incidents e) ≡ true
unfolding after_incidents
finishes_after_incidents [] e can = can
finishes_after_incidents (moves move ∷ incidents) e can =
    finishes_after_incidents incidents _ (finishes_moved move e can)
finishes_after_incidents (restarts end ∷ incidents) e can =
    finishes_after_incidents incidents _ (finishes_restarted e can end)

-- and so none of the eight states without a row is ever met
pub incidents_have_rows : (incidents : List Incident) → has_row (after_incidents incidents running).flags ≡ true
incidents_have_rows incidents =
    finishing_has_row (after_incidents incidents running) (finishes_after_incidents incidents running running_finishes)

-- within 8 k steps of any fair order normal runtime is back, however many restarts there were
pub back_after_restarts : (incidents : List Incident) (k : ℕ) (order : List End) → Fair k order
    → 8 * k ≤ length order
    → BackWithin (8 * k) order (after_incidents incidents running)
back_after_restarts incidents k order fair long =
    let now = after_incidents incidents running in
    let can = finishes_after_incidents incidents running running_finishes in
    back_within k 8 order now can (few_left now can) fair long
