-- The premise of the window rule is met: three changes of document 01's good frame, each within eight wire bits.
-- Assumes nothing.
use mathlib.Core.Path.{◌≡◌, refl, ap}
use mathlib.Core.List.{List, [], ◌∷◌}
use Prim.Native.Nat.{ℕ}
use native.Mathlib.Omega.{arith}
use lib.ListN.{get_or}
use Rattle.pec.specs.Wire.{bits_of, wire, WindowChange}
use Rattle.pec.proofs.Changes.{change_of, byte_changed}
use Rattle.smbus.specs.Reading.{refusal_of}
use Rattle.smbus.proofs.Literal.{literal_frame}
use Rattle.smbus.proofs.WrongBits.{window_refused, literal_refused}

-- its first bit alone: 40 made C0
abbrev pub first_bit : List ℕ
first_bit = 0xC0 ∷ 0x0F ∷ 0x06 ∷ 0x23 ∷ 0x01 ∷ 0x09 ∷ 0x0A ∷ 0xC8 ∷ 0x00 ∷ 0x71 ∷ []

pub first_bit_lem : WindowChange literal_frame first_bit
first_bit_lem =
    byte_changed [] (0x0F ∷ 0x06 ∷ 0x23 ∷ 0x01 ∷ 0x09 ∷ 0x0A ∷ 0xC8 ∷ 0x00 ∷ 0x71 ∷ []) 0x40 0xC0 (λ e. omega arith)

-- four bits on each side of the border between the last body byte and the PEC: 00 71 made 0F 81
abbrev pub across_border : List ℕ
across_border = 0x40 ∷ 0x0F ∷ 0x06 ∷ 0x23 ∷ 0x01 ∷ 0x09 ∷ 0x0A ∷ 0xC8 ∷ 0x0F ∷ 0x81 ∷ []

pub across_border_lem : WindowChange literal_frame across_border
unfolding wire bits_of
across_border_lem =
    change_of 8 68 literal_frame across_border refl refl refl (λ e. omega (arith, ap (λ (s : List ℕ). get_or s 8 0) e))

-- the PEC itself, all its bits: 71 made 8E
abbrev pub other_pec : List ℕ
other_pec = 0x40 ∷ 0x0F ∷ 0x06 ∷ 0x23 ∷ 0x01 ∷ 0x09 ∷ 0x0A ∷ 0xC8 ∷ 0x00 ∷ 0x8E ∷ []

pub other_pec_lem : WindowChange literal_frame other_pec
other_pec_lem =
    byte_changed (0x40 ∷ 0x0F ∷ 0x06 ∷ 0x23 ∷ 0x01 ∷ 0x09 ∷ 0x0A ∷ 0xC8 ∷ 0x00 ∷ []) [] 0x71 0x8E (λ e. omega arith)

-- so the rule speaks of them: none is good at any address
pub first_bit_refused : (own : ℕ) → refusal_of 64 first_bit own ≡ 0 → ⊥
first_bit_refused = literal_refused WindowChange window_refused first_bit tt first_bit_lem

pub across_border_refused : (own : ℕ) → refusal_of 64 across_border own ≡ 0 → ⊥
across_border_refused = literal_refused WindowChange window_refused across_border tt across_border_lem

pub other_pec_refused : (own : ℕ) → refusal_of 64 other_pec own ≡ 0 → ⊥
other_pec_refused = literal_refused WindowChange window_refused other_pec tt other_pec_lem
