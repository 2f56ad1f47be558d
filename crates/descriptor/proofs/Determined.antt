-- The contracts leave no choice: two results that one allows on the same input are equal.
-- Assumes nothing.
use mathlib.Core.Path.{◌≡◌, ap}
use mathlib.Core.Bool.{Bool}
use Prim.Native.Nat.{ℕ}
use Rattle.std.specs.Prelude.{Result, Ok, Err}
use contract.Lifetimes.{Lfts}
use Rattle.octets.proofs.Choice.{determined}
use Rattle.mctp.specs.Refusals.{number_of}
use Rattle.mctp.specs.declared.refusal.Refusal.{Refusal}
use Rattle.mctp.proofs.Refusals.{number_injective}
use Rattle.descriptor.specs.Reading.{described_in}
use Rattle.descriptor.specs.declared.place.Place.{Place}
use Rattle.descriptor.specs.declared.configuration.Configuration.{Configuration}
use Rattle.descriptor.proofs.reading.read_descriptor.Reads as read-descriptor
use Rattle.descriptor.proofs.configuration.Configuration.is_allowed.Reads as is-allowed
use Rattle.descriptor.proofs.configuration.Configuration.area_place.Reads as area-place
use Rattle.descriptor.proofs.place.Place.end.Reads as end

-- an answer is told by its number or its configuration
described_injective : (a b : Result Configuration Refusal) → described_in a ≡ described_in b → a ≡ b
described_injective (Ok c) (Ok d) e = cc
described_injective (Ok c) (Err n) e = cc
described_injective (Err m) (Ok d) e = cc
described_injective (Err m) (Err n) e =
    let same : number_of m ≡ number_of n = cc in
    ap Err (number_injective m n same)

pub read_descriptor_determined : (κs : Lfts 1) (a : _) (r q : Result Configuration Refusal) (e f : _)
    → read-descriptor.Post κs a r e → read-descriptor.Post κs a q f → r ≡ q
read_descriptor_determined κs a r q e f p o = described_injective r q (determined p o)

pub is_allowed_determined : (κs : Lfts 0) (a : _) (r q : Bool) (e f : _)
    → is-allowed.Post κs a r e → is-allowed.Post κs a q f → r ≡ q
is_allowed_determined κs a r q e f p o = determined p o

pub area_place_determined : (κs : Lfts 0) (a : _) (r q : Place) (e f : _)
    → area-place.Post κs a r e → area-place.Post κs a q f → r ≡ q
area_place_determined κs a r q e f p o = determined p o

pub end_determined : (κs : Lfts 0) (a : _) (r q : ℕ) (e f : _) → end.Post κs a r e → end.Post κs a q f → r ≡ q
end_determined κs a r q e f p o = determined p o

-- No call asks anything of its arguments first.
pub no_requires : ((κs : Lfts 1) (a : _) → read-descriptor.Pre κs a)
    × ((κs : Lfts 0) (a : _) → is-allowed.Pre κs a)
    × ((κs : Lfts 0) (a : _) → area-place.Pre κs a)
    × ((κs : Lfts 0) (a : _) → end.Pre κs a)
no_requires = ((λ κs a. tt), (λ κs a. tt), (λ κs a. tt), (λ κs a. tt))
