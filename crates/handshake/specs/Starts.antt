-- The phase that an end starts in: after power-up, and where it restarts alone with the interface as it was.
-- Assumes nothing.
use Rattle.std.specs.Prelude.{Bool, ◌||◌, List, [], ◌∷◌, Option, Some, None}
use Rattle.octets.specs.Choice.{pick}
use Rattle.mmbi.specs.declared.interface.Flags.{Flags}
use Rattle.mmbi.specs.Interface.{same_flags, normal_runtime, asked_by_host, asked_by_controller, acknowledged}
use Rattle.mmbi.specs.Interface.{transitioning}
use Rattle.mmbi.specs.Interface.{host_cleared, all_clear, completed}
use Rattle.handshake.specs.declared.controller.ControllerPhase.{ControllerPhase}
use Rattle.handshake.specs.declared.controller.ControllerPhase.TheVariants as controller
use Rattle.handshake.specs.declared.host.HostPhase.{HostPhase}
use Rattle.handshake.specs.declared.host.HostPhase.TheVariants as host
use Rattle.handshake.specs.Runs.{Ends, End, the_host, the_controller, Move, moved}

-- Table 5, 0000: "The (B)MC is initializing the data structures. The host can only monitor the data structures, waiting
-- for B_UP = 1 and B_RST = 0 flags."
abbrev pub host_at_power_up : HostPhase
host_at_power_up = host.Waiting

abbrev pub controller_at_power_up : ControllerPhase
controller_at_power_up = controller.Initializing

-- after power-up, with all flags clear; and so it is where a controller started anew and the host's caller put it into
-- phase waiting
abbrev pub power_up : Ends
power_up = record { flags = all_clear; host = host_at_power_up; controller = controller_at_power_up }

-- 8.1.3: "memory content, including buffers stay intact"; "the host's unexpected reset will leave the data structures
-- intact". The flag states that a graceful reset passes, and that such a restart can find: 1010, 1011, 1110, 1111,
-- 0111, 0100, 0000, 1000
abbrev pub has_row : Flags → Bool
has_row f =
    same_flags f normal_runtime || same_flags f asked_by_host || same_flags f asked_by_controller
    || same_flags f acknowledged
    || same_flags f transitioning || same_flags f host_cleared || same_flags f all_clear || same_flags f completed

-- "MMBI data structures can be reinitialized after the reset to allow a clean restart": the host asks anew while it is
-- up and hasn't set H_RST. Else it "shall only wait for the initialization to be completed by (B)MC" (Table 5, 1011)
abbrev pub host_by : Flags → HostPhase
host_by f = pick (same_flags f normal_runtime || same_flags f asked_by_controller) host.Asking host.Waiting

-- the controller goes on in 8.1.2.2 where the flags tell that it was: at 2) and 3) it has set B_RST, at 4) it has
-- cleared B_UP, at 5) H_UP and H_RST, at 6) B_RST. Else, while it is up and asks for nothing, it asks anew
abbrev pub controller_by : Flags → ControllerPhase
controller_by f =
    pick (same_flags f asked_by_controller || same_flags f acknowledged) controller.Asked
    (pick (same_flags f transitioning) controller.Down
    (pick (same_flags f host_cleared) controller.Cleared
    (pick (same_flags f all_clear) controller.Initializing controller.Asking)))

-- the other eight give no phase: in them Table 5 lets an end "stop using MMBI and report a fatal error", 8.1.1 has it
-- that "the (B)MC may consider the interface as inoperable", and "attempts to repair .. are system-dependent"
abbrev pub host_from_flags : Flags → Option HostPhase
host_from_flags f = pick (has_row f) (Some (host_by f)) None

abbrev pub controller_from_flags : Flags → Option ControllerPhase
controller_from_flags f = pick (has_row f) (Some (controller_by f)) None

-- what an end's restart makes of both: its own phase is new, the flags and the other end are as they were. Where it is
-- given no phase nothing is said of what it does; it is left as it was
abbrev pub host_starts : Option HostPhase → Ends → Ends
host_starts (Some phase) e = record { flags = e.flags; host = phase; controller = e.controller }
host_starts None e = e

abbrev pub controller_starts : Option ControllerPhase → Ends → Ends
controller_starts (Some phase) e = record { flags = e.flags; host = e.host; controller = phase }
controller_starts None e = e

abbrev pub restarted : End → Ends → Ends
restarted the_host e = host_starts (host_from_flags e.flags) e
restarted the_controller e = controller_starts (controller_from_flags e.flags) e

-- all that may happen where ends restart too, as often as they like: a step, an ask or a restart, of either end
pub data Incident : Type 0 where
  moves : Move → Incident
  restarts : End → Incident

abbrev pub incident_leaves : Incident → Ends → Ends
incident_leaves (moves move) e = moved move e
incident_leaves (restarts end) e = restarted end e

unfoldable pub after_incidents : List Incident → Ends → Ends
after_incidents [] e = e
after_incidents (incident ∷ incidents) e = after_incidents incidents (incident_leaves incident e)
