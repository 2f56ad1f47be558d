-- A step waits in every flag state that is out of order for its phase, and acts in every other.
-- Assumes nothing.
use mathlib.Core.Path.{◌≡◌, refl, sym, ◌∙◌}
use mathlib.Core.Bool.{Bool, beq, true, false}
use mathlib.Core.List.{List}
use Rattle.octets.proofs.Choice.{beq_true}
use Rattle.mmbi.specs.declared.interface.Flags.{Flags}
use Rattle.mmbi.proofs.States.{every_flags, every_flags_lem}
use Rattle.handshake.specs.declared.host.HostPhase.{HostPhase}
use Rattle.handshake.specs.declared.host.HostPhase.TheVariants as host
use Rattle.handshake.specs.declared.controller.ControllerPhase.{ControllerPhase}
use Rattle.handshake.specs.declared.controller.ControllerPhase.TheVariants as controller
use Rattle.handshake.specs.Order.{host_order, controller_order, among}
use Rattle.handshake.specs.Steps.{host_sees, host_does, host_waits, host_step}
use Rattle.handshake.specs.Steps.{controller_sees, controller_does, controller_waits, controller_step}

-- what a phase looks for are the rows of Table 5 in which it acts: a test of all sixteen flag states
same_rows : (rows : List Flags) (sees : Flags → Bool) → every_flags (λ f. beq (among rows f) (sees f)) ≡ true
    → (f : Flags) → among rows f ≡ sees f
same_rows rows sees e f = beq_true _ _ (every_flags_lem (λ f. beq (among rows f) (sees f)) e f)

host_rows : (phase : HostPhase) (f : Flags) → among (host_order phase) f ≡ host_sees phase f
host_rows host.Running = same_rows (host_order host.Running) (host_sees host.Running) refl
host_rows host.Asking = same_rows (host_order host.Asking) (host_sees host.Asking) refl
host_rows host.Waiting = same_rows (host_order host.Waiting) (host_sees host.Waiting) refl

controller_rows : (phase : ControllerPhase) (f : Flags) → among (controller_order phase) f ≡ controller_sees phase f
controller_rows controller.Running =
    same_rows (controller_order controller.Running) (controller_sees controller.Running) refl
controller_rows controller.Asking =
    same_rows (controller_order controller.Asking) (controller_sees controller.Asking) refl
controller_rows controller.Asked = same_rows (controller_order controller.Asked) (controller_sees controller.Asked) refl
controller_rows controller.Down = same_rows (controller_order controller.Down) (controller_sees controller.Down) refl
controller_rows controller.Cleared =
    same_rows (controller_order controller.Cleared) (controller_sees controller.Cleared) refl
controller_rows controller.Initializing =
    same_rows (controller_order controller.Initializing) (controller_sees controller.Initializing) refl

pub host_waits_lem : (phase : HostPhase) (f : Flags) → among (host_order phase) f ≡ false
    → host_step phase f ≡ host_waits phase
unfolding host_step
host_waits_lem phase f e = rw (sym (host_rows phase f) ∙ e)

pub host_acts : (phase : HostPhase) (f : Flags) → among (host_order phase) f ≡ true
    → host_step phase f ≡ host_does phase
unfolding host_step
host_acts phase f e = rw (sym (host_rows phase f) ∙ e)

pub controller_waits_lem : (phase : ControllerPhase) (f : Flags) → among (controller_order phase) f ≡ false
    → controller_step phase f ≡ controller_waits phase
unfolding controller_step
controller_waits_lem phase f e = rw (sym (controller_rows phase f) ∙ e)

pub controller_acts : (phase : ControllerPhase) (f : Flags) → among (controller_order phase) f ≡ true
    → controller_step phase f ≡ controller_does phase
unfolding controller_step
controller_acts phase f e = rw (sym (controller_rows phase f) ∙ e)
