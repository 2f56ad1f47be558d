-- The interface's states: all sixteen rows of Table 5, which of them are transient, and which let a ring be used.
-- Assumes nothing.
use mathlib.Core.Path.{◌≡◌, refl}
use mathlib.Core.Bool.{Bool, beq, true, false, ◌&&◌}
use mathlib.Core.List.{List, [], ◌∷◌, map}
use Prim.Native.Nat.{ℕ, ◌+◌}
use lib.ListN.{get_or}
use Rattle.octets.specs.Choice.{pick}
use Rattle.octets.proofs.Choice.{both, beq_true}
use Rattle.mmbi.specs.declared.interface.Flags.{Flags}
use Rattle.mmbi.specs.declared.interface.InterfaceState.{InterfaceState}
use Rattle.mmbi.specs.declared.interface.InterfaceState.TheVariants.{InitializationInProgress}
use Rattle.mmbi.specs.declared.interface.InterfaceState.TheVariants.{InitializationCompleted, NormalRuntime}
use Rattle.mmbi.specs.declared.interface.InterfaceState.TheVariants.{ResetRequestByController}
use Rattle.mmbi.specs.declared.interface.InterfaceState.TheVariants.{ResetRequestByHost, ResetAcked}
use Rattle.mmbi.specs.declared.interface.InterfaceState.TheVariants.{TransitioningToInitialization}
use Rattle.mmbi.specs.declared.interface.InterfaceState.TheVariants.{TemporaryTransition, InitializationMismatch}
use Rattle.mmbi.specs.declared.interface.InterfaceState.TheVariants.{Unexpected}
use Rattle.mmbi.specs.Interface.{row, flags_of, normal_runtime, asked_by_host, asked_by_controller, completed}
use Rattle.mmbi.specs.Interface.{acknowledged, transitioning, host_cleared, all_clear, same_flags, state_of}
use Rattle.mmbi.specs.Interface.{is_transient, may_read, may_write}

-- the sixteen flag states, from 0000 to 1111
abbrev pub sixteen : List Flags
sixteen =
    flags_of false false false false
    ∷ flags_of false false false true
    ∷ flags_of false false true false
    ∷ flags_of false false true true
    ∷ flags_of false true false false
    ∷ flags_of false true false true
    ∷ flags_of false true true false
    ∷ flags_of false true true true
    ∷ flags_of true false false false
    ∷ flags_of true false false true
    ∷ flags_of true false true false
    ∷ flags_of true false true true
    ∷ flags_of true true false false
    ∷ flags_of true true false true
    ∷ flags_of true true true false
    ∷ flags_of true true true true
    ∷ []

-- Table 5 by the controller's flags and then the host's
abbrev by_ends : Bool → Bool → Bool → Bool → InterfaceState
by_ends bUp bRst hUp hRst =
    pick bUp
    (pick bRst
    (pick hUp (pick hRst ResetAcked ResetRequestByController) (pick hRst Unexpected Unexpected))
    (pick hUp (pick hRst ResetRequestByHost NormalRuntime) (pick hRst InitializationMismatch InitializationCompleted)))
    (pick bRst
    (pick hUp (pick hRst TransitioningToInitialization TemporaryTransition)
    (pick hRst TemporaryTransition TemporaryTransition))
    (pick hUp (pick hRst Unexpected Unexpected) (pick hRst TemporaryTransition InitializationInProgress)))

-- where the four flags stand, as the digits of a number
abbrev place_of : Bool → Bool → Bool → Bool → ℕ
place_of bUp bRst hUp hRst = pick bUp 8 0 + pick bRst 4 0 + pick hUp 2 0 + pick hRst 1 0

-- the flags as such a number
abbrev pub digits : Flags → ℕ
digits f = place_of f.controller_up f.controller_reset f.host_up f.host_reset

-- that table has the rows of Table 5, and the sixteen flag states leave none out: each stands at its place
pub each_row : (bUp bRst hUp hRst : Bool)
    → (by_ends bUp bRst hUp hRst ≡ row bUp bRst hUp hRst)
    × (get_or sixteen (place_of bUp bRst hUp hRst) normal_runtime ≡ flags_of bUp bRst hUp hRst)
each_row true true true true = (refl, refl)
each_row true true true false = (refl, refl)
each_row true true false true = (refl, refl)
each_row true true false false = (refl, refl)
each_row true false true true = (refl, refl)
each_row true false true false = (refl, refl)
each_row true false false true = (refl, refl)
each_row true false false false = (refl, refl)
each_row false true true true = (refl, refl)
each_row false true true false = (refl, refl)
each_row false true false true = (refl, refl)
each_row false true false false = (refl, refl)
each_row false false true true = (refl, refl)
each_row false false true false = (refl, refl)
each_row false false false true = (refl, refl)
each_row false false false false = (refl, refl)

-- every row of Table 5
pub all_states :
    map state_of sixteen
    ≡ InitializationInProgress
    ∷ TemporaryTransition
    ∷ Unexpected
    ∷ Unexpected
    ∷ TemporaryTransition
    ∷ TemporaryTransition
    ∷ TemporaryTransition
    ∷ TransitioningToInitialization
    ∷ InitializationCompleted
    ∷ InitializationMismatch
    ∷ NormalRuntime
    ∷ ResetRequestByHost
    ∷ Unexpected
    ∷ Unexpected
    ∷ ResetRequestByController
    ∷ ResetAcked
    ∷ []
unfolding state_of
all_states = refl

-- "1000 .. 1010 .. 1011 .. 1110 .. 1111 .. the rest transient": eleven of them
pub all_transient :
    map (λ (f : Flags). is_transient (state_of f)) sixteen
    ≡ true ∷ true ∷ true ∷ true ∷ true ∷ true ∷ true ∷ true ∷ false ∷ true ∷ false ∷ false ∷ true ∷ true ∷ false
    ∷ false ∷ []
unfolding state_of
all_transient = refl

-- "Reading is now allowed in normal runtime and in both reset-asked states": in 1010, 1011 and 1110, and in no other of
-- the sixteen
pub all_may_read :
    map (λ (f : Flags). may_read (state_of f)) sixteen
    ≡ false ∷ false ∷ false ∷ false ∷ false ∷ false ∷ false ∷ false
    ∷ false ∷ false ∷ true ∷ true ∷ false ∷ false ∷ true ∷ false ∷ []
unfolding state_of
all_may_read = refl

-- "writing stays in normal runtime only": in 1010
pub all_may_write :
    map (λ (f : Flags). may_write (state_of f)) sixteen
    ≡ false ∷ false ∷ false ∷ false ∷ false ∷ false ∷ false ∷ false
    ∷ false ∷ false ∷ true ∷ false ∷ false ∷ false ∷ false ∷ false ∷ []
unfolding state_of
all_may_write = refl

-- the flags that have a name, and their states
abbrev pub named_flags : List Flags
named_flags =
    all_clear ∷ host_cleared ∷ transitioning ∷ completed ∷ normal_runtime ∷ asked_by_host ∷ asked_by_controller
    ∷ acknowledged
    ∷ []

pub named_digits : map digits named_flags ≡ 0 ∷ 4 ∷ 7 ∷ 8 ∷ 10 ∷ 11 ∷ 14 ∷ 15 ∷ []
named_digits = refl

pub named :
    map state_of named_flags
    ≡ InitializationInProgress
    ∷ TemporaryTransition
    ∷ TransitioningToInitialization
    ∷ InitializationCompleted
    ∷ NormalRuntime
    ∷ ResetRequestByHost
    ∷ ResetRequestByController
    ∷ ResetAcked
    ∷ []
unfolding state_of
named = refl

-- a test of every flag state, by computation
abbrev every_bool : (Bool → Bool) → Bool
every_bool test = test true && test false

every_bool_lem : (test : Bool → Bool) → every_bool test ≡ true → (b : Bool) → test b ≡ true
every_bool_lem test e true = (both (test true) (test false) e).0
every_bool_lem test e false = (both (test true) (test false) e).1

abbrev pub every_flags : (Flags → Bool) → Bool
every_flags test =
    every_bool (λ a. every_bool (λ b. every_bool (λ c. every_bool (λ d. test (flags_of a b c d)))))

pub every_flags_lem : (test : Flags → Bool) → every_flags test ≡ true → (f : Flags) → test f ≡ true
every_flags_lem test e f =
    every_bool_lem (λ d. test (flags_of f.controller_up f.controller_reset f.host_up d))
    (every_bool_lem
    (λ c. every_bool (λ d. test (flags_of f.controller_up f.controller_reset c d)))
    (every_bool_lem
    (λ b. every_bool (λ c. every_bool (λ d. test (flags_of f.controller_up b c d))))
    (every_bool_lem
    (λ a. every_bool (λ b. every_bool (λ c. every_bool (λ d. test (flags_of a b c d)))))
    e f.controller_up)
    f.controller_reset)
    f.host_up)
    f.host_reset

-- the test of two flag states holds of equal ones, and of no others
pub same_flags_refl : (f : Flags) → same_flags f f ≡ true
same_flags_refl = every_flags_lem (λ f. same_flags f f) refl

pub same_flags_true : (f g : Flags) → same_flags f g ≡ true → f ≡ g
same_flags_true f g e =
    let up = both (beq f.controller_up g.controller_up) _ e in
    let reset = both (beq f.controller_reset g.controller_reset) _ up.1 in
    let hostUp = both (beq f.host_up g.host_up) _ reset.1 in
    λ i. flags_of (beq_true f.controller_up g.controller_up up.0 i)
    (beq_true f.controller_reset g.controller_reset reset.0 i)
    (beq_true f.host_up g.host_up hostUp.0 i)
    (beq_true f.host_reset g.host_reset hostUp.1 i)
