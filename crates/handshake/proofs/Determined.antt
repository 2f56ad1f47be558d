-- The contracts leave no choice: two results that one allows on the same input are equal.
-- Assumes nothing.
use mathlib.Core.Path.{◌≡◌}
use Prim.Native.Nat.{ℕ}
use contract.Lifetimes.{Lfts}
use Rattle.std.specs.Prelude.{Option, Result}
use Rattle.octets.proofs.Choice.{determined}
use Rattle.mctp.specs.declared.refusal.Refusal.{Refusal}
use Rattle.handshake.specs.declared.host.HostPhase.{HostPhase}
use Rattle.handshake.specs.declared.controller.ControllerPhase.{ControllerPhase}
use Rattle.handshake.specs.declared.phase.Step.{Step}
use Rattle.handshake.proofs.Phases.{host_stored_equal, controller_stored_equal}
use Rattle.handshake.proofs.host.HostPhasePhase.step.Reads as host-step
use Rattle.handshake.proofs.host.HostPhasePhase.ask.Reads as host-ask
use Rattle.handshake.proofs.host.HostPhasePhase.number.Reads as host-number
use Rattle.handshake.proofs.host.HostPhasePhase.of_number.Reads as host-of-number
use Rattle.handshake.proofs.host.HostPhasePhase.at_power_up.Reads as host-at-power-up
use Rattle.handshake.proofs.host.HostPhasePhase.from_flags.Reads as host-from-flags
use Rattle.handshake.proofs.controller.ControllerPhasePhase.step.Reads as controller-step
use Rattle.handshake.proofs.controller.ControllerPhasePhase.ask.Reads as controller-ask
use Rattle.handshake.proofs.controller.ControllerPhasePhase.number.Reads as controller-number
use Rattle.handshake.proofs.controller.ControllerPhasePhase.of_number.Reads as controller-of-number
use Rattle.handshake.proofs.controller.ControllerPhasePhase.at_power_up.Reads as controller-at-power-up
use Rattle.handshake.proofs.controller.ControllerPhasePhase.from_flags.Reads as controller-from-flags

pub host_step_determined : (κs : Lfts 0) (a : _) (r q : Step HostPhase) (e f : _)
    → host-step.Post κs a r e → host-step.Post κs a q f → r ≡ q
host_step_determined κs a r q e f p o = determined p o

pub host_ask_determined : (κs : Lfts 0) (a : _) (r q : HostPhase) (e f : _)
    → host-ask.Post κs a r e → host-ask.Post κs a q f → r ≡ q
host_ask_determined κs a r q e f p o = determined p o

pub host_number_determined : (κs : Lfts 0) (a : _) (r q : ℕ) (e f : _)
    → host-number.Post κs a r e → host-number.Post κs a q f → r ≡ q
host_number_determined κs a r q e f p o = determined p o

pub host_of_number_determined : (κs : Lfts 0) (a : _) (r q : Result HostPhase Refusal) (e f : _)
    → host-of-number.Post κs a r e → host-of-number.Post κs a q f → r ≡ q
host_of_number_determined κs a r q e f p o =
    host_stored_equal r q (determined p.0 o.0) (determined p.1 o.1)

pub host_at_power_up_determined : (κs : Lfts 0) (a : _) (r q : HostPhase) (e f : _)
    → host-at-power-up.Post κs a r e → host-at-power-up.Post κs a q f → r ≡ q
host_at_power_up_determined κs a r q e f p o = determined p o

pub host_from_flags_determined : (κs : Lfts 0) (a : _) (r q : Option HostPhase) (e f : _)
    → host-from-flags.Post κs a r e → host-from-flags.Post κs a q f → r ≡ q
host_from_flags_determined κs a r q e f p o = determined p o

pub controller_step_determined : (κs : Lfts 0) (a : _) (r q : Step ControllerPhase) (e f : _)
    → controller-step.Post κs a r e → controller-step.Post κs a q f → r ≡ q
controller_step_determined κs a r q e f p o = determined p o

pub controller_ask_determined : (κs : Lfts 0) (a : _) (r q : ControllerPhase) (e f : _)
    → controller-ask.Post κs a r e → controller-ask.Post κs a q f → r ≡ q
controller_ask_determined κs a r q e f p o = determined p o

pub controller_number_determined : (κs : Lfts 0) (a : _) (r q : ℕ) (e f : _)
    → controller-number.Post κs a r e → controller-number.Post κs a q f → r ≡ q
controller_number_determined κs a r q e f p o = determined p o

pub controller_of_number_determined : (κs : Lfts 0) (a : _) (r q : Result ControllerPhase Refusal) (e f : _)
    → controller-of-number.Post κs a r e → controller-of-number.Post κs a q f → r ≡ q
controller_of_number_determined κs a r q e f p o =
    controller_stored_equal r q (determined p.0 o.0) (determined p.1 o.1)

pub controller_at_power_up_determined : (κs : Lfts 0) (a : _) (r q : ControllerPhase) (e f : _)
    → controller-at-power-up.Post κs a r e → controller-at-power-up.Post κs a q f → r ≡ q
controller_at_power_up_determined κs a r q e f p o = determined p o

pub controller_from_flags_determined : (κs : Lfts 0) (a : _) (r q : Option ControllerPhase) (e f : _)
    → controller-from-flags.Post κs a r e → controller-from-flags.Post κs a q f → r ≡ q
controller_from_flags_determined κs a r q e f p o = determined p o

-- No call asks anything of its arguments first.
pub no_requires : ((κs : Lfts 0) (a : _) → host-step.Pre κs a)
    × ((κs : Lfts 0) (a : _) → host-ask.Pre κs a)
    × ((κs : Lfts 0) (a : _) → host-number.Pre κs a)
    × ((κs : Lfts 0) (a : _) → host-of-number.Pre κs a)
    × ((κs : Lfts 0) (a : _) → host-at-power-up.Pre κs a)
    × ((κs : Lfts 0) (a : _) → host-from-flags.Pre κs a)
    × ((κs : Lfts 0) (a : _) → controller-step.Pre κs a)
    × ((κs : Lfts 0) (a : _) → controller-ask.Pre κs a)
    × ((κs : Lfts 0) (a : _) → controller-number.Pre κs a)
    × ((κs : Lfts 0) (a : _) → controller-of-number.Pre κs a)
    × ((κs : Lfts 0) (a : _) → controller-at-power-up.Pre κs a)
    × ((κs : Lfts 0) (a : _) → controller-from-flags.Pre κs a)
no_requires = (
  (λ κs a. tt),
  (λ κs a. tt),
  (λ κs a. tt),
  (λ κs a. tt),
  (λ κs a. tt),
  (λ κs a. tt),
  (λ κs a. tt),
  (λ κs a. tt),
  (λ κs a. tt),
  (λ κs a. tt),
  (λ κs a. tt),
  (λ κs a. tt),
)
