-- When normal runtime is back: after a counted number of steps in turn, within a bound in any fair order, and after a
-- wrong sight of the flags (document 02, #105).
-- Assumes nothing.
use Rattle.std.specs.Prelude.{◌≡◌, Bool, true, false, ◌&&◌, ◌||◌, List, [], ◌∷◌, map, ℕ, zero, suc, ◌+◌, ◌≤◌, length}
use Rattle.std.specs.Prelude.{take, drop}
use Rattle.octets.specs.Choice.{pick}
use Rattle.mmbi.specs.declared.interface.Flags.{Flags}
use Rattle.mmbi.specs.Interface.{same_flags, normal_runtime, asked_by_host, acknowledged, completed, all_clear}
use Rattle.handshake.specs.declared.controller.ControllerPhase.TheVariants as controller
use Rattle.handshake.specs.declared.host.HostPhase.TheVariants as host
use Rattle.handshake.specs.Order.{among}
use Rattle.handshake.specs.Phases.{host_is, controller_is}
use Rattle.handshake.specs.Runs.{Ends, End, the_host, the_controller, host_leaves, controller_leaves, stepped, asked}
use Rattle.handshake.specs.Runs.{steps, after, running}
use Rattle.handshake.specs.Steps.{host_step, controller_step}

-- flags 1010 and both phases running
abbrev pub is_back : Ends → Bool
is_back e =
    same_flags e.flags normal_runtime && host_is e.host host.Running
    && controller_is e.controller controller.Running

-- "from normal runtime, with one end asking", or both
pub data Asker : Type 0 where
  host_asks : Asker
  controller_asks : Asker
  both_ask : Asker

abbrev pub asking : Asker → Ends
asking host_asks = asked the_host running
asking controller_asks = asked the_controller running
asking both_ask = asked the_controller (asked the_host running)

-- "and both ends stepping in turn": so many steps, this end first
abbrev pub in_turn : End → ℕ → List End
in_turn end zero = []
in_turn the_host (suc n) = the_host ∷ in_turn the_controller n
in_turn the_controller (suc n) = the_controller ∷ in_turn the_host n

-- "normal runtime comes back within a stated number of steps, counted by a definition": every step counts, one that
-- waits too; one more than there are, where they don't lead back
unfoldable pub steps_back : List End → Ends → ℕ
steps_back [] e = pick (is_back e) 0 1
steps_back (end ∷ order) e = pick (is_back e) 0 (1 + steps_back order (stepped end e))

-- the stated number, by who asks and who steps first
abbrev pub stated_steps : Asker → End → ℕ
stated_steps host_asks the_host = 11
stated_steps host_asks the_controller = 12
stated_steps controller_asks the_host = 11
stated_steps controller_asks the_controller = 10
stated_steps both_ask the_host = 11
stated_steps both_ask the_controller = 10

-- the flags after each step
unfoldable pub trace : List End → Ends → List Flags
trace [] e = []
trace (end ∷ order) e = (stepped end e).flags ∷ trace order (stepped end e)

-- back after exactly that many steps in turn, all ones (Reset ACKed) and all zeros (Initialization in Progress) passed
-- on the way
pub record ComesBack (asker : Asker) (first : End) : Type 0 where
  pub counted : steps_back (in_turn first (stated_steps asker first)) (asking asker) ≡ stated_steps asker first
  pub acked : among (trace (in_turn first (stated_steps asker first)) (asking asker)) acknowledged ≡ true
  pub cleared : among (trace (in_turn first (stated_steps asker first)) (asking asker)) all_clear ≡ true

-- whether an end is among those that step
abbrev pub same_end : End → End → Bool
same_end the_host the_host = true
same_end the_host the_controller = false
same_end the_controller the_host = false
same_end the_controller the_controller = true

unfoldable pub steps_in : End → List End → Bool
steps_in end [] = false
steps_in end (other ∷ order) = same_end end other || steps_in end order

-- a fair order: each end steps at least once in every k steps
unfoldable pub Fair : ℕ → List End → Type 0
Fair k order = (end : End) (before : ℕ) → before + k ≤ length order → steps_in end (take k (drop before order)) ≡ true

-- after some of these steps, at most so many, both ends run in normal runtime
pub record BackWithin (most : ℕ) (order : List End) (e : Ends) : Type 0 where
  pub count : ℕ
  pub soon : count ≤ most
  pub back : after (map steps (take count order)) e ≡ running

-- a step on flags that aren't those that stand there
abbrev pub misled : End → Flags → Ends → Ends
misled the_host seen e = host_leaves (host_step e.host seen) e
misled the_controller seen e = controller_leaves (controller_step e.controller seen) e

-- the wrong sights that no waiting can save: the host in phase waiting is shown 1000; the controller in phase asked is
-- shown 1111; the controller at 1000, while the host isn't up yet, is shown an ask of the host's, or, where it is to
-- ask itself, normal runtime
abbrev pub beyond_help : End → Flags → Ends → Bool
beyond_help the_host seen e = host_is e.host host.Waiting && same_flags seen completed
beyond_help the_controller seen e =
    (controller_is e.controller controller.Asked && same_flags seen acknowledged)
    || (same_flags e.flags completed
    && (same_flags seen asked_by_host || (controller_is e.controller controller.Asking
    && same_flags seen normal_runtime)))
