-- The rule of odd counts: a checked list with an odd number of bits changed, anywhere, is not checked.
-- It rests on `checked_plus`, and on the even number of ones that a checked list has.
-- Assumes nothing.
use mathlib.Core.Path.{◌≡◌, ap, ◌∙◌}
use mathlib.Core.List.{List}
use Prim.Native.Nat.{ℕ, ◌%◌}
use native.Mathlib.Omega.{arith}
use Rattle.octets.specs.Bytes.{Below}
use Rattle.pec.specs.Wire.{wire, differences, OddChange}
use Rattle.pec.proofs.Checks.{Checked, checked_plus}
use Rattle.pec.proofs.Parity.{ones, checked_even, ones_plus}
use Rattle.pec.proofs.Sum.{plus, plus_bytes}
use Rattle.pec.proofs.WireBits.{wire_bits, wire_plus}

pub odd : (s t : List ℕ) → Below 256 s → Below 256 t → Checked s → OddChange s t → Checked t → ⊥
odd s t bs bt cs ch ct =
    let sum : Checked (plus s t) = checked_plus s t ch.lengths bs bt cs ct in
    let even : ones (wire (plus s t)) % 2 ≡ 0 = checked_even (plus s t) (plus_bytes s t bs bt) sum in
    let count : ones (wire (plus s t)) ≡ differences (wire s) (wire t) =
    ap ones (wire_plus s t) ∙ ones_plus (wire s) (wire t) (wire_bits s) (wire_bits t) in
    omega (arith, even, count, ch.odd)
