-- How many acts are left until normal runtime is back: fewer after each step that acts, at most eight in every state
-- that can be reached, and none left only where it is back.
-- Assumes nothing.
use mathlib.Core.Path.{◌≡◌, refl, ap, sym}
use mathlib.Core.Bool.{Bool, true, false, ◌&&◌, ◌||◌, false≢true}
use mathlib.Core.List.{List, [], ◌∷◌}
use Prim.Native.Nat.{ℕ, zero, suc, ◌+◌, ◌≤◌}
use native.Mathlib.Omega.{arith}
use borrow.Author.Tests.{leb-true, eqb-true, le-leb}
use lib.Dec.{leb, eqb}
use Rattle.std.specs.List.{list_all}
use Rattle.octets.specs.Choice.{pick}
use Rattle.octets.proofs.Choice.{both, implies, implied}
use Rattle.mmbi.specs.declared.interface.Flags.{Flags}
use Rattle.mmbi.specs.Interface.{same_flags, normal_runtime}
use Rattle.mmbi.proofs.States.{every_flags, every_flags_lem, same_flags_true}
use Rattle.handshake.specs.declared.host.HostPhase.{HostPhase}
use Rattle.handshake.specs.declared.host.HostPhase.TheVariants as host
use Rattle.handshake.specs.declared.controller.ControllerPhase.{ControllerPhase}
use Rattle.handshake.specs.declared.controller.ControllerPhase.TheVariants as controller
use Rattle.handshake.specs.declared.phase.Step.{Step}
use Rattle.handshake.specs.Order.{host_order, controller_order, among}
use Rattle.handshake.specs.Phases.{host_is, controller_is}
use Rattle.handshake.specs.Back.{is_back}
use Rattle.handshake.specs.Runs.{Ends, End, the_host, the_controller, host_leaves, controller_leaves, stepped, Move}
use Rattle.handshake.specs.Runs.{steps, asks, moved, after, asked, running}
use Rattle.handshake.specs.Steps.{host_step, controller_step}
use Rattle.handshake.proofs.Phases.{hosts, controllers, every_host, every_controller}
use Rattle.handshake.proofs.Phases.{host_injective, controller_injective}
use Rattle.handshake.proofs.Waiting.{host_waits_lem, controller_waits_lem}

-- whether the flags are in order for this end, so that it acts at its next step
abbrev pub sees : End → Ends → Bool
sees the_host e = among (host_order e.host) e.flags
sees the_controller e = among (controller_order e.controller) e.flags

-- a step that waits leaves all as it was
pub waits : (end : End) (e : Ends) → sees end e ≡ false → stepped end e ≡ e
waits the_host e h = ap (λ (s : Step HostPhase). host_leaves s e) (host_waits_lem e.host e.flags h)
waits the_controller e h =
    ap (λ (s : Step ControllerPhase). controller_leaves s e) (controller_waits_lem e.controller e.flags h)

-- the acts that are left, at most so many: whoever can acts, the host first; more than that many where nobody can
unfoldable pub left_within : ℕ → Ends → ℕ
left_within zero e = pick (is_back e) 0 9
left_within (suc n) e =
    pick (is_back e) 0
    (pick (sees the_host e) (1 + left_within n (stepped the_host e))
    (pick (sees the_controller e) (1 + left_within n (stepped the_controller e)) 9))

unfoldable pub left : Ends → ℕ
left e = left_within 8 e

-- a test of every state that the flags and the two ends could be in, reached or not
abbrev ends : Flags → HostPhase → ControllerPhase → Ends
ends f h c = record { flags = f; host = h; controller = c }

abbrev pub every_ends : (Ends → Bool) → Bool
every_ends test = every_flags (λ f. list_all (λ h. list_all (λ c. test (ends f h c)) controllers) hosts)

pub every_ends_lem : (test : Ends → Bool) → every_ends test ≡ true → (e : Ends) → test e ≡ true
every_ends_lem test t e =
    every_controller (λ c. test (ends e.flags e.host c))
    (every_host (λ h. list_all (λ c. test (ends e.flags h c)) controllers)
    (every_flags_lem (λ f. list_all (λ h. list_all (λ c. test (ends f h c)) controllers) hosts) t e.flags) e.host)
    e.controller

-- the way back can be gone to its end
unfoldable pub finishes : Ends → Bool
finishes e = leb (left e) 8

pub few_left : (e : Ends) → finishes e ≡ true → left e ≤ 8
unfolding finishes
few_left e can = leb-true (left e) 8 can

pub finishes_few : (e : Ends) → left e ≤ 8 → finishes e ≡ true
unfolding finishes
finishes_few e few = le-leb (left e) 8 few

-- a step that acts leaves one act fewer
abbrev fewer : End → Ends → Bool
fewer end e = implies (sees end e) (eqb (1 + left (stepped end e)) (left e))

-- where the way back can be gone, it still can after an ask, each act is one fewer, and somebody acts unless it is back
abbrev asks_leave : Ends → Bool
asks_leave e = finishes (asked the_host e) && finishes (asked the_controller e)

abbrev steps_lead : Ends → Bool
steps_lead e = fewer the_host e && fewer the_controller e

abbrev someone_acts : Ends → Bool
someone_acts e = is_back e || (sees the_host e || sees the_controller e)

abbrev test : Ends → Bool
test e = implies (finishes e) (asks_leave e && (steps_lead e && someone_acts e))

tested : every_ends test ≡ true
unfolding finishes left left_within host_step controller_step
tested = refl

module _ (e : Ends) (can : finishes e ≡ true) where
  parts : (asks_leave e && (steps_lead e && someone_acts e)) ≡ true
  parts = implied (finishes e) _ (every_ends_lem test tested e) can

  ask_part : (finishes (asked the_host e) ≡ true) × (finishes (asked the_controller e) ≡ true)
  ask_part =
      both (finishes (asked the_host e)) (finishes (asked the_controller e))
      (both (asks_leave e) (steps_lead e && someone_acts e) parts).0

  step_part : (steps_lead e && someone_acts e) ≡ true
  step_part = (both (asks_leave e) (steps_lead e && someone_acts e) parts).1

  lead_part : (fewer the_host e ≡ true) × (fewer the_controller e ≡ true)
  lead_part = both (fewer the_host e) (fewer the_controller e) (both (steps_lead e) (someone_acts e) step_part).0

  -- each act is one fewer
  pub one_fewer : (end : End) → sees end e ≡ true → 1 + left (stepped end e) ≡ left e
  one_fewer the_host h = eqb-true _ _ (implied (sees the_host e) _ lead_part.0 h)
  one_fewer the_controller h = eqb-true _ _ (implied (sees the_controller e) _ lead_part.1 h)

  -- somebody acts, unless it is back
  pub someone_acts_lem : is_back e ≡ false → (end : End) × (sees end e ≡ true)
  someone_acts_lem n =
      choose (is_back e) (sees the_host e) (sees the_controller e) n refl refl
      (both (steps_lead e) (someone_acts e) step_part).1
    where
      choose : (a b c : Bool) → a ≡ false → sees the_host e ≡ b → sees the_controller e ≡ c → (a || (b || c)) ≡ true
          → (end : End) × (sees end e ≡ true)
      choose true b c n p q h = absurd (false≢true (sym n))
      choose false true c n p q h = (the_host, p)
      choose false false true n p q h = (the_controller, q)
      choose false false false n p q h = absurd (false≢true h)

-- every move leaves a way back
pub finishes_moved : (move : Move) (e : Ends) → finishes e ≡ true → finishes (moved move e) ≡ true
finishes_moved (asks the_host) e can = (ask_part e can).0
finishes_moved (asks the_controller) e can = (ask_part e can).1
finishes_moved (steps end) e can = after_step (sees end e) refl
  where
    after_step : (b : Bool) → sees end e ≡ b → finishes (stepped end e) ≡ true
    after_step true h =
        finishes_few (stepped end e) (omega (arith, few_left e can, one_fewer e can end h))
    after_step false h = rw (waits end e h) can

pub finishes_after : (moves : List Move) (e : Ends) → finishes e ≡ true → finishes (after moves e) ≡ true
unfolding after
finishes_after [] e can = can
finishes_after (move ∷ moves) e can = finishes_after moves (moved move e) (finishes_moved move e can)

-- back is normal runtime with both ends running, and nothing else
pub back_is_running : (e : Ends) → is_back e ≡ true → e ≡ running
back_is_running e b =
    let last = both (same_flags e.flags normal_runtime && host_is e.host host.Running)
    (controller_is e.controller controller.Running) b in
    let first = both (same_flags e.flags normal_runtime) (host_is e.host host.Running) last.0 in
    let flags = same_flags_true e.flags normal_runtime first.0 in
    let hosts = host_injective e.host host.Running (eqb-true _ _ first.1) in
    let controllers = controller_injective e.controller controller.Running (eqb-true _ _ last.1) in
    λ i. ends (flags i) (hosts i) (controllers i)
