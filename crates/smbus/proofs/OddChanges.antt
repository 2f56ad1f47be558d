-- The premise of the rule of odd counts is met: by document 01's good frame with one bit changed, with three far apart,
-- with one of the PEC alone; and by every frame with the last bit of its PEC wrong.
-- Assumes nothing.
use mathlib.Core.Path.{◌≡◌, refl, ap}
use mathlib.Core.Bool.{Bool}
use mathlib.Core.List.{List, [], ◌∷◌, ◌++◌}
use Prim.Native.Nat.{ℕ, ◌+◌, ◌%◌, ◌≤◌, ◌<◌}
use lib.Bits.{bit_xor, xor_lt}
use lib.Dec.{T, eqb, eqb→eq, lit<}
use lib.ListN.{length, get_or}
use Rattle.octets.specs.Bytes.{Below}
use Rattle.pec.specs.Remainder.{poly_step, eight_steps, byte_step, pec_from, pec_of}
use Rattle.pec.specs.Wire.{bits_of, wire, differences, OddChange}
use Rattle.pec.proofs.Counts.{any_odd, byte_odd}
use Rattle.pec.proofs.Fold.{pec_byte}
use Rattle.pec.proofs.Tests.{below, passed}
use Rattle.smbus.specs.Layout.{covered_of, frame_of}
use Rattle.smbus.specs.Reading.{end_of, before_end, refusal_of}
use Rattle.smbus.proofs.Layouts.{ended_bytes}
use Rattle.smbus.proofs.Literal.{literal_frame}
use Rattle.smbus.proofs.Windows.{first_bit}
use Rattle.smbus.proofs.WrongBits.{odd_refused, literal_refused}

-- one bit of the body: 00 made 04
abbrev pub one_bit : List ℕ
one_bit = 0x40 ∷ 0x0F ∷ 0x06 ∷ 0x23 ∷ 0x01 ∷ 0x09 ∷ 0x0A ∷ 0xC8 ∷ 0x04 ∷ 0x71 ∷ []

-- three far apart: 23 made A3, 0A made 1A, 71 made 70
abbrev pub three_bits : List ℕ
three_bits = 0x40 ∷ 0x0F ∷ 0x06 ∷ 0xA3 ∷ 0x01 ∷ 0x09 ∷ 0x1A ∷ 0xC8 ∷ 0x00 ∷ 0x70 ∷ []

-- one bit of the PEC alone: 71 made F1
abbrev pub bit_of_pec : List ℕ
bit_of_pec = 0x40 ∷ 0x0F ∷ 0x06 ∷ 0x23 ∷ 0x01 ∷ 0x09 ∷ 0x0A ∷ 0xC8 ∷ 0x00 ∷ 0xF1 ∷ []

-- in how many places each differs from the frame, and in which
pub record Counted : Type 0 where
  pub one : differences (wire literal_frame) (wire one_bit) ≡ 1
  pub three : differences (wire literal_frame) (wire three_bits) ≡ 3
  pub place_24 : get_or (wire three_bits) 24 0 ≡ get_or (wire literal_frame) 24 0 + 1
  pub place_51 : get_or (wire three_bits) 51 0 ≡ get_or (wire literal_frame) 51 0 + 1
  pub place_79 : get_or (wire three_bits) 79 0 + 1 ≡ get_or (wire literal_frame) 79 0
  pub of_pec : differences (wire literal_frame) (wire bit_of_pec) ≡ 1
  pub place_72 : get_or (wire bit_of_pec) 72 0 ≡ get_or (wire literal_frame) 72 0 + 1

pub counted : Counted
unfolding differences wire bits_of
counted =
    record {
      one = refl;
      three = refl;
      place_24 = refl;
      place_51 = refl;
      place_79 = refl;
      of_pec = refl;
      place_72 = refl;
    }

-- each is an odd number,
pub one_bit_lem : OddChange literal_frame one_bit
one_bit_lem = any_odd literal_frame one_bit refl (ap (λ (n : ℕ). n % 2) counted.one)

pub three_bits_lem : OddChange literal_frame three_bits
three_bits_lem = any_odd literal_frame three_bits refl (ap (λ (n : ℕ). n % 2) counted.three)

pub bit_of_pec_lem : OddChange literal_frame bit_of_pec
bit_of_pec_lem = any_odd literal_frame bit_of_pec refl (ap (λ (n : ℕ). n % 2) counted.of_pec)

-- so the rule speaks of them: none is good at any address,
pub one_bit_refused : (own : ℕ) → refusal_of 64 one_bit own ≡ 0 → ⊥
one_bit_refused = literal_refused OddChange odd_refused one_bit tt one_bit_lem

pub three_bits_refused : (own : ℕ) → refusal_of 64 three_bits own ≡ 0 → ⊥
three_bits_refused = literal_refused OddChange odd_refused three_bits tt three_bits_lem

pub bit_of_pec_refused : (own : ℕ) → refusal_of 64 bit_of_pec own ≡ 0 → ⊥
bit_of_pec_refused = literal_refused OddChange odd_refused bit_of_pec tt bit_of_pec_lem

-- and at the frame's own address each has the PEC's number.
pub refused_with_8 : (refusal_of 64 one_bit 32 ≡ 8) × (refusal_of 64 three_bits 32 ≡ 8)
    × (refusal_of 64 bit_of_pec 32 ≡ 8)
unfolding refusal_of end_of before_end pec_of pec_from byte_step eight_steps poly_step
refused_with_8 = (refl, refl, refl)

-- A wrong bit in byte 0 meets an earlier check there, and so does one in the count: 06 made 07.
abbrev pub count_bit : List ℕ
count_bit = 0x40 ∷ 0x0F ∷ 0x07 ∷ 0x23 ∷ 0x01 ∷ 0x09 ∷ 0x0A ∷ 0xC8 ∷ 0x00 ∷ 0x71 ∷ []

pub refused_before_8 : (refusal_of 64 first_bit 32 ≡ 4) × (refusal_of 64 count_bit 32 ≡ 6)
unfolding refusal_of
refused_before_8 = (refl, refl)

-- The last bit of a byte made the other is one wrong bit.
last_bit : ℕ → Bool
unfolding differences bits_of
last_bit b = eqb (differences (bits_of b) (bits_of (bit_xor b 1))) 1

last_bit_test : T (below last_bit 256)
unfolding last_bit
last_bit_test = tt

last_bit_lem : (b : ℕ) → b < 256 → differences (bits_of b) (bits_of (bit_xor b 1)) ≡ 1
unfolding last_bit
last_bit_lem b h = eqb→eq _ _ (passed last_bit 256 last_bit_test b h)

-- Any frame, of any length, with the last bit of its PEC wrong.
module _ (destination source : ℕ) (packet : List ℕ) where
  abbrev check : ℕ
  check = pec_of (covered_of destination source packet)

  unfoldable pub wrong_pec : List ℕ
  wrong_pec = covered_of destination source packet ++ (bit_xor check 1 ∷ [])

  pub wrong_pec_lem : OddChange (frame_of destination source packet) wrong_pec
  unfolding frame_of wrong_pec
  wrong_pec_lem =
      byte_odd (covered_of destination source packet) [] check (bit_xor check 1)
      (ap (λ (n : ℕ). n % 2) (last_bit_lem check (pec_byte (covered_of destination source packet))))

  pub wrong_pec_bytes : destination ≤ 127 → source ≤ 127 → length packet ≤ 250 → Below 256 packet → Below 256 wrong_pec
  unfolding wrong_pec
  wrong_pec_bytes to by long =
      ended_bytes destination source packet to by long (bit_xor check 1)
      (xor_lt 8 check 1 (pec_byte (covered_of destination source packet)) (lit< tt))
