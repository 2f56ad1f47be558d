-- The window rule: a checked list with one or more bits changed, all within eight neighbours, is not checked.
-- It rests on `checked_plus`, and on what a checked list can't have within eight neighbours.
-- Assumes nothing.
use mathlib.Core.Path.{◌≡◌, refl, sym, ap, ◌∙◌}
use mathlib.Core.List.{List, [], ◌∷◌}
use Prim.Native.Nat.{ℕ}
use native.Mathlib.Omega.{arith}
use lib.Bits.{bit_xor, xor_self}
use lib.ListN.{get_or}
use Rattle.octets.specs.Bytes.{Below}
use Rattle.pec.specs.Remainder.{poly_step, eight_steps, byte_step, pec_from, pec_of}
use Rattle.pec.specs.Wire.{bits_of, wire, Change, WindowChange}
use Rattle.pec.proofs.Changes.{change_of}
use Rattle.pec.proofs.Checks.{Checked, checked_made, checked_plus}
use Rattle.pec.proofs.Neighbours.{zeros_alone}
use Rattle.pec.proofs.Sum.{plus, plus_bytes}
use Rattle.pec.proofs.WireBits.{wire_plus_at, wire_injective}
use Rattle.pec.proofs.Xor.{xor_equal}

pub window : (s t : List ℕ) → Below 256 s → Below 256 t → Checked s → WindowChange s t → Checked t → ⊥
window s t bs bt cs ch ct =
    let sum : Checked (plus s t) = checked_plus s t ch.lengths bs bt cs ct in
    let at : (k : ℕ) → get_or (wire (plus s t)) k 0 ≡ bit_xor (get_or (wire s) k 0) (get_or (wire t) k 0) =
    λ k. wire_plus_at s t k ch.lengths in
    let quiet : (k : ℕ) → get_or (wire s) k 0 ≡ get_or (wire t) k 0 → get_or (wire (plus s t)) k 0 ≡ 0 =
    λ k w. at k ∙ ap (λ (x : ℕ). bit_xor x (get_or (wire t) k 0)) w ∙ xor_self (get_or (wire t) k 0) in
    let none : (k : ℕ) → get_or (wire (plus s t)) k 0 ≡ 0 =
    zeros_alone (plus s t) (plus_bytes s t bs bt) sum ch.from _ (omega arith)
    (λ k l. quiet k (ch.before k l)) (λ k l. quiet k (ch.after k l)) in
    ch.differs
    (wire_injective s t ch.lengths bs bt
    (λ k. xor_equal (get_or (wire s) k 0) (get_or (wire t) k 0) (sym (at k) ∙ none k)))

-- Eight is the most: these two differ within nine neighbouring wire bits, by the polynomial itself; both are checked.
pub nine_pass : Change 9 (0x00 ∷ 0x00 ∷ []) (0x01 ∷ 0x07 ∷ []) × Checked (0x00 ∷ 0x00 ∷ []) × Checked (0x01 ∷ 0x07 ∷ [])
unfolding poly_step eight_steps byte_step pec_from pec_of wire bits_of
nine_pass = (
  change_of 9 7 (0x00 ∷ 0x00 ∷ []) (0x01 ∷ 0x07 ∷ []) refl refl refl
      (λ e. omega (arith, ap (λ (s : List ℕ). get_or s 0 0) e)),
  checked_made (0x00 ∷ []),
  checked_made (0x01 ∷ []),
)
