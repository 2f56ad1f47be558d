-- Answers: each is told by its number and values.
-- Assumes nothing.
use mathlib.Core.Path.{◌≡◌, refl, ap}
use Prim.Native.Nat.{ℕ}
use Rattle.std.specs.Prelude.{Result, Ok, Err}
use Rattle.mctp.specs.Refusals.{number_of}
use Rattle.mctp.specs.declared.refusal.Refusal.{Refusal}
use Rattle.mctp.proofs.Refusals.{number_injective}
use Rattle.ring.specs.declared.reading.Found.{Found}
use Rattle.ring.specs.declared.reading.Found.TheVariants.{Packet, Empty, Skipped}
use Rattle.ring.specs.Answers.{found_in, entered_in}

-- an answer of reading is told by its number and values
pub found_injective : (r s : Result Found Refusal) → found_in r ≡ found_in s → r ≡ s
found_injective (Ok (Packet a b)) (Ok (Packet c d)) e = cc
found_injective (Ok (Packet a b)) (Ok Empty) e = cc
found_injective (Ok (Packet a b)) (Ok (Skipped n d)) e = cc
found_injective (Ok (Packet a b)) (Err n) e = cc
found_injective (Ok Empty) (Ok (Packet c d)) e = cc
found_injective (Ok Empty) (Ok Empty) e = refl
found_injective (Ok Empty) (Ok (Skipped n d)) e = cc
found_injective (Ok Empty) (Err n) e = cc
found_injective (Ok (Skipped m b)) (Ok (Packet c d)) e = cc
found_injective (Ok (Skipped m b)) (Ok Empty) e = cc
found_injective (Ok (Skipped m b)) (Ok (Skipped n d)) e =
    let same : number_of m ≡ number_of n = cc in
    let at : b ≡ d = cc in
    cc (number_injective m n same)
found_injective (Ok (Skipped m b)) (Err n) e = cc
found_injective (Err m) (Ok (Packet c d)) e = cc
found_injective (Err m) (Ok Empty) e = cc
found_injective (Err m) (Ok (Skipped n d)) e = cc
found_injective (Err m) (Err n) e =
    let same : number_of m ≡ number_of n = cc in
    ap Err (number_injective m n same)

-- an answer of writing too
pub entered_injective : (r s : Result ℕ Refusal) → entered_in r ≡ entered_in s → r ≡ s
entered_injective (Ok a) (Ok b) e = cc
entered_injective (Ok a) (Err n) e = cc
entered_injective (Err m) (Ok b) e = cc
entered_injective (Err m) (Err n) e =
    let same : number_of m ≡ number_of n = cc in
    ap Err (number_injective m n same)
