-- Both ends at work on one interface: their steps and asks, in any order (document 02, #105).
-- Assumes nothing.
use Rattle.std.specs.Prelude.{List, [], ◌∷◌}
use Rattle.mmbi.specs.declared.interface.Flags.{Flags}
use Rattle.mmbi.specs.Changes.{changed_flags}
use Rattle.mmbi.specs.Interface.{normal_runtime}
use Rattle.handshake.specs.declared.host.HostPhase.{HostPhase}
use Rattle.handshake.specs.declared.host.HostPhase.TheVariants as host
use Rattle.handshake.specs.declared.controller.ControllerPhase.{ControllerPhase}
use Rattle.handshake.specs.declared.controller.ControllerPhase.TheVariants as controller
use Rattle.handshake.specs.declared.phase.Step.{Step}
use Rattle.handshake.specs.Phases.{host_asked, controller_asked}
use Rattle.handshake.specs.Steps.{host_step, controller_step}

-- the flags, and where each end stands
pub record Ends : Type 0 where
  pub flags : Flags
  pub host : HostPhase
  pub controller : ControllerPhase

pub data End : Type 0 where
  the_host : End
  the_controller : End

-- what an end's step leaves: the flags are changed as it says
abbrev pub host_leaves : Step HostPhase → Ends → Ends
host_leaves said e =
    record { flags = changed_flags said.change e.flags; host = said.next; controller = e.controller }

abbrev pub controller_leaves : Step ControllerPhase → Ends → Ends
controller_leaves said e =
    record { flags = changed_flags said.change e.flags; host = e.host; controller = said.next }

abbrev pub stepped : End → Ends → Ends
stepped the_host e = host_leaves (host_step e.host e.flags) e
stepped the_controller e = controller_leaves (controller_step e.controller e.flags) e

-- an ask changes the end's own phase alone
abbrev pub asked : End → Ends → Ends
asked the_host e = record { flags = e.flags; host = host_asked e.host; controller = e.controller }
asked the_controller e = record { flags = e.flags; host = e.host; controller = controller_asked e.controller }

-- all that may happen: a step or an ask, of either end
pub data Move : Type 0 where
  steps : End → Move
  asks : End → Move

abbrev pub moved : Move → Ends → Ends
moved (steps end) e = stepped end e
moved (asks end) e = asked end e

-- one after the other
unfoldable pub after : List Move → Ends → Ends
after [] e = e
after (move ∷ moves) e = after moves (moved move e)

-- normal runtime, in which neither end asks for anything: flags 1010 and both phases running
abbrev pub running : Ends
running = record { flags = normal_runtime; host = host.Running; controller = controller.Running }
