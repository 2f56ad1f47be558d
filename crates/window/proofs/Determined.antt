-- The contracts leave no choice: two results that one allows are equal, and so is every byte of the window at exit.
-- Assumes nothing.
use mathlib.Core.Path.{◌≡◌, refl, ap}
use native.Mathlib.Omega.{arith}
use contract.Lifetimes.{Lfts}
use Rattle.std.proofs.Common.{Result, Ok, Err}
use Rattle.octets.proofs.Choice.{determined}
use Rattle.mctp.specs.declared.refusal.Refusal.{Refusal}
use Rattle.mctp.specs.Refusals.{outcome_number}
use Rattle.mctp.proofs.Refusals.{number_injective, number_positive}
use Rattle.descriptor.specs.declared.place.Place.{Place}
use Rattle.window.specs.declared.word.Interface.{Interface}
use Rattle.window.proofs.place.check.Reads as check
use Rattle.window.proofs.place.place_of.Reads as place_of
use Rattle.window.proofs.place.area.Reads as area
use Rattle.window.proofs.word.interface_of.Reads as interface-of
use Rattle.window.proofs.word.store.Reads as store
use Rattle.window.proofs.word.store_pointer.Reads as store-pointer
use Rattle.window.proofs.word.store_flags.Reads as store-flags

-- an outcome is told by its number
outcome_injective : (a b : Result Unit Refusal) → outcome_number a ≡ outcome_number b → a ≡ b
outcome_injective (Ok x) (Ok y) e = refl
outcome_injective (Ok x) (Err why) e = absurd (omega (arith, number_positive why))
outcome_injective (Err why) (Ok y) e = absurd (omega (arith, number_positive why))
outcome_injective (Err why) (Err other) e = ap Err (number_injective why other e)

pub check_determined : (κs : Lfts 1) (a : _) (r q : Result Unit Refusal) (e f : _)
    → check.Post κs a r e → check.Post κs a q f → r ≡ q
check_determined κs a r q e f p o = outcome_injective r q (determined p o)

pub place_of_determined : (κs : Lfts 1) (a : _) (r q : Place) (e f : _)
    → place_of.Post κs a r e → place_of.Post κs a q f → r ≡ q
place_of_determined κs a r q e f p o = determined p o

-- the area shows the same bytes; where it lies is not said
pub area_determined : (κs : Lfts 1) (a r q e f : _) → area.Post κs a r e → area.Post κs a q f → r.now ≡ q.now
area_determined κs a r q e f p o = determined p o

pub interface_of_determined : (κs : Lfts 1) (a : _) (r q : Interface) (e f : _)
    → interface-of.Post κs a r e → interface-of.Post κs a q f → r ≡ q
interface_of_determined κs a r q e f p o = determined p o

pub store_determined : (κs : Lfts 1) (a : _) (r q : Result Unit Refusal) (e f : _)
    → store.Post κs a r e → store.Post κs a q f → (r ≡ q) × (e.0.now ≡ f.0.now)
store_determined κs a r q e f p o = (outcome_injective r q (determined p.0 o.0), determined p.1 o.1)

pub store_pointer_determined : (κs : Lfts 1) (a : _) (r q : Result Unit Refusal) (e f : _)
    → store-pointer.Post κs a r e → store-pointer.Post κs a q f → (r ≡ q) × (e.0.now ≡ f.0.now)
store_pointer_determined κs a r q e f p o = (outcome_injective r q (determined p.0 o.0), determined p.1 o.1)

pub store_flags_determined : (κs : Lfts 1) (a : _) (r q : Result Unit Refusal) (e f : _)
    → store-flags.Post κs a r e → store-flags.Post κs a q f → (r ≡ q) × (e.0.now ≡ f.0.now)
store_flags_determined κs a r q e f p o = (outcome_injective r q (determined p.0 o.0), determined p.1 o.1)

-- No call asks anything of its arguments first.
pub no_requires : ((κs : Lfts 1) (a : _) → check.Pre κs a)
    × ((κs : Lfts 1) (a : _) → place_of.Pre κs a)
    × ((κs : Lfts 1) (a : _) → area.Pre κs a)
    × ((κs : Lfts 1) (a : _) → interface-of.Pre κs a)
    × ((κs : Lfts 1) (a : _) → store.Pre κs a)
    × ((κs : Lfts 1) (a : _) → store-pointer.Pre κs a)
    × ((κs : Lfts 1) (a : _) → store-flags.Pre κs a)
no_requires =
    ((λ κs a. tt), (λ κs a. tt), (λ κs a. tt), (λ κs a. tt), (λ κs a. tt), (λ κs a. tt), (λ κs a. tt))
