-- Neither end writes the other's flags, whatever it sees, but for the controller's one step that clears the host's.
-- Assumes nothing.
use mathlib.Core.Path.{◌≡◌, refl, sym, ◌∙◌}
use mathlib.Core.Bool.{true, false, false≢true}
use Rattle.octets.proofs.Choice.{pick_elim}
use Rattle.mmbi.specs.declared.change.Act.TheVariants.{SetUp, SetReset, ClearBoth}
use Rattle.mmbi.specs.declared.change.Change.TheVariants.{Host, Controller}
use Rattle.mmbi.specs.declared.interface.Flags.{Flags}
use Rattle.mmbi.specs.Interface.{all_clear}
use Rattle.handshake.specs.declared.host.HostPhase.{HostPhase}
use Rattle.handshake.specs.declared.host.HostPhase.TheVariants as host
use Rattle.handshake.specs.declared.controller.ControllerPhase.{ControllerPhase}
use Rattle.handshake.specs.declared.controller.ControllerPhase.TheVariants as controller
use Rattle.handshake.specs.declared.phase.Step.{Step}
use Rattle.handshake.specs.Order.{KeepsController, KeepsHost, clears_host}
use Rattle.handshake.specs.Steps.{host_sees, host_does, host_waits, host_step}
use Rattle.handshake.specs.Steps.{controller_sees, controller_does, controller_waits, controller_step}

host_does_lem : (phase : HostPhase) → KeepsController (host_does phase).change
host_does_lem host.Running f = (refl, refl)
host_does_lem host.Asking f = (refl, refl)
host_does_lem host.Waiting f = (refl, refl)

pub host_writes_its_own : (phase : HostPhase) (seen : Flags) → KeepsController (host_step phase seen).change
unfolding host_step
host_writes_its_own phase seen =
    pick_elim (λ (s : Step HostPhase). KeepsController s.change) (host_sees phase seen) (host_does phase)
    (host_waits phase)
    (λ (e : _). host_does_lem phase) (λ (e : _) (f : Flags). (refl, refl))

controller_does_lem : (phase : ControllerPhase) (seen : Flags) → controller_sees phase seen ≡ true
    → clears_host phase seen ≡ false → KeepsHost (controller_does phase).change
controller_does_lem controller.Running seen e n f = (refl, refl)
controller_does_lem controller.Asking seen e n f = (refl, refl)
controller_does_lem controller.Asked seen e n f = (refl, refl)
controller_does_lem controller.Down seen e n f = absurd (false≢true (sym n ∙ e))
controller_does_lem controller.Cleared seen e n f = (refl, refl)
controller_does_lem controller.Initializing seen e n f = (refl, refl)

pub controller_writes_its_own : (phase : ControllerPhase) (seen : Flags) → clears_host phase seen ≡ false
    → KeepsHost (controller_step phase seen).change
unfolding controller_step
controller_writes_its_own phase seen n =
    pick_elim (λ (s : Step ControllerPhase). KeepsHost s.change) (controller_sees phase seen) (controller_does phase)
    (controller_waits phase) (λ (e : _). controller_does_lem phase seen e n) (λ (e : _) (f : Flags). (refl, refl))

-- and there it clears both
pub controller_clears_the_host : (phase : ControllerPhase) (seen : Flags) → clears_host phase seen ≡ true
    → (controller_step phase seen).change ≡ Host ClearBoth
unfolding controller_step
controller_clears_the_host controller.Running seen e = absurd (false≢true e)
controller_clears_the_host controller.Asking seen e = absurd (false≢true e)
controller_clears_the_host controller.Asked seen e = absurd (false≢true e)
controller_clears_the_host controller.Down seen e = rw e
controller_clears_the_host controller.Cleared seen e = absurd (false≢true e)
controller_clears_the_host controller.Initializing seen e = absurd (false≢true e)

-- "keeps" is of both flags of an end: a change of either is none that keeps them
pub not_kept :
    (KeepsController (Controller SetUp) → ⊥)
    × (KeepsController (Controller SetReset) → ⊥)
    × (KeepsHost (Host SetUp) → ⊥)
    × (KeepsHost (Host SetReset) → ⊥)
not_kept = (
  (λ (k : KeepsController (Controller SetUp)). false≢true (sym (k all_clear).0)),
  (λ (k : KeepsController (Controller SetReset)). false≢true (sym (k all_clear).1)),
  (λ (k : KeepsHost (Host SetUp)). false≢true (sym (k all_clear).0)),
  (λ (k : KeepsHost (Host SetReset)). false≢true (sym (k all_clear).1)),
)
