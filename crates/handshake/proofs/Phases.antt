-- The phases' numbers: two phases with one number are equal, a test of all is a test of each, and a stored phase reads
-- back.
-- Assumes nothing.
use mathlib.Core.Path.{◌≡◌, refl, ap, sym, ◌∙◌}
use mathlib.Core.Bool.{Bool, true}
use mathlib.Core.List.{List, [], ◌∷◌}
use Prim.Native.Nat.{ℕ}
use native.Mathlib.Omega.{arith}
use lib.ListN.{get_or}
use Rattle.std.specs.List.{list_all}
use Rattle.std.specs.Prelude.{Result, Ok, Err}
use Rattle.std.proofs.lemmas.List.Sums.{AllPass-from_list_all}
use Rattle.mctp.specs.declared.refusal.Refusal.{Refusal}
use Rattle.mctp.specs.Refusals.{number_of}
use Rattle.mctp.proofs.Refusals.{number_injective, number_positive}
use Rattle.handshake.specs.declared.host.HostPhase.{HostPhase}
use Rattle.handshake.specs.declared.host.HostPhase.TheVariants as host
use Rattle.handshake.specs.declared.controller.ControllerPhase.{ControllerPhase}
use Rattle.handshake.specs.declared.controller.ControllerPhase.TheVariants as controller
use Rattle.handshake.specs.Phases.{host_number, host_phases, controller_number, controller_phases}
use Rattle.mctp.specs.Refusals.{outcome_number}
use Rattle.handshake.specs.Phases.{stored_refusal, stored_number, stored_in, host_refusal, host_stored}
use Rattle.handshake.specs.Phases.{controller_refusal, controller_stored}

-- the phases in the order of their numbers
abbrev pub hosts : List HostPhase
hosts = host.Running ∷ host.Asking ∷ host.Waiting ∷ []

abbrev host_at : ℕ → HostPhase
host_at n = get_or hosts n host.Running

host_at_lem : (phase : HostPhase) → host_at (host_number phase) ≡ phase
host_at_lem host.Running = refl
host_at_lem host.Asking = refl
host_at_lem host.Waiting = refl

abbrev pub controllers : List ControllerPhase
controllers =
    controller.Running
    ∷ controller.Asking
    ∷ controller.Asked
    ∷ controller.Down
    ∷ controller.Cleared
    ∷ controller.Initializing
    ∷ []

abbrev controller_at : ℕ → ControllerPhase
controller_at n = get_or controllers n controller.Running

controller_at_lem : (phase : ControllerPhase) → controller_at (controller_number phase) ≡ phase
controller_at_lem controller.Running = refl
controller_at_lem controller.Asking = refl
controller_at_lem controller.Asked = refl
controller_at_lem controller.Down = refl
controller_at_lem controller.Cleared = refl
controller_at_lem controller.Initializing = refl

-- two phases with one number are one phase
pub host_injective : (p q : HostPhase) → host_number p ≡ host_number q → p ≡ q
host_injective p q e = sym (host_at_lem p) ∙ ap host_at e ∙ host_at_lem q

pub controller_injective : (p q : ControllerPhase) → controller_number p ≡ controller_number q → p ≡ q
controller_injective p q e = sym (controller_at_lem p) ∙ ap controller_at e ∙ controller_at_lem q

-- a test of every phase, by computation
pub every_host : (test : HostPhase → Bool) → list_all test hosts ≡ true → (phase : HostPhase) → test phase ≡ true
every_host test e host.Running = AllPass-from_list_all test hosts e 0 host.Running (omega arith)
every_host test e host.Asking = AllPass-from_list_all test hosts e 1 host.Running (omega arith)
every_host test e host.Waiting = AllPass-from_list_all test hosts e 2 host.Running (omega arith)

pub every_controller : (test : ControllerPhase → Bool) → list_all test controllers ≡ true → (phase : ControllerPhase)
    → test phase ≡ true
every_controller test e controller.Running = AllPass-from_list_all test controllers e 0 controller.Running (omega arith)
every_controller test e controller.Asking = AllPass-from_list_all test controllers e 1 controller.Running (omega arith)
every_controller test e controller.Asked = AllPass-from_list_all test controllers e 2 controller.Running (omega arith)
every_controller test e controller.Down = AllPass-from_list_all test controllers e 3 controller.Running (omega arith)
every_controller test e controller.Cleared = AllPass-from_list_all test controllers e 4 controller.Running (omega arith)
every_controller test e controller.Initializing =
    AllPass-from_list_all test controllers e 5 controller.Running (omega arith)

-- no refusal has the number 0
not_good : (r : Refusal) → 0 ≡ number_of r → ⊥
not_good r e = omega (arith, number_positive r)

-- two answers with the same numbers are one answer
stored_equal : {P : Type 0} (number : P → ℕ) → ((p q : P) → number p ≡ number q → p ≡ q) → (a b : Result P Refusal)
    → outcome_number a ≡ outcome_number b → stored_in number a ≡ stored_in number b → a ≡ b
stored_equal number injective (Ok p) (Ok q) e n = ap Ok (injective p q n)
stored_equal number injective (Ok p) (Err r) e n = absurd (not_good r e)
stored_equal number injective (Err r) (Ok q) e n = absurd (not_good r (sym e))
stored_equal number injective (Err r) (Err s) e n = ap Err (number_injective r s e)

pub host_stored_equal : (a b : Result HostPhase Refusal) → host_refusal a ≡ host_refusal b
    → host_stored a ≡ host_stored b → a ≡ b
host_stored_equal = stored_equal host_number host_injective

pub controller_stored_equal : (a b : Result ControllerPhase Refusal) → controller_refusal a ≡ controller_refusal b
    → controller_stored a ≡ controller_stored b → a ≡ b
controller_stored_equal = stored_equal controller_number controller_injective

-- a phase that is stored reads back
pub host_stored_back : (p : HostPhase)
    → (stored_refusal host_phases (host_number p) ≡ 0) × (stored_number host_phases (host_number p) ≡ host_number p)
host_stored_back host.Running = (refl, refl)
host_stored_back host.Asking = (refl, refl)
host_stored_back host.Waiting = (refl, refl)

pub controller_stored_back : (p : ControllerPhase)
    → (stored_refusal controller_phases (controller_number p) ≡ 0)
    × (stored_number controller_phases (controller_number p) ≡ controller_number p)
controller_stored_back controller.Running = (refl, refl)
controller_stored_back controller.Asking = (refl, refl)
controller_stored_back controller.Asked = (refl, refl)
controller_stored_back controller.Down = (refl, refl)
controller_stored_back controller.Cleared = (refl, refl)
controller_stored_back controller.Initializing = (refl, refl)
