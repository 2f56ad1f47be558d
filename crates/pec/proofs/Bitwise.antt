-- The remainder worked out bit by bit in wire order, with no border between bytes: it is the PEC.
-- Assumes nothing.
use mathlib.Core.Path.{◌≡◌, refl, sym, ap, ◌∙◌}
use mathlib.Core.Bool.{Bool}
use mathlib.Core.List.{List, [], ◌∷◌, foldl, foldl-append}
use Prim.Native.Nat.{ℕ, suc, ◌*◌, ◌<◌}
use lib.Bits.{bit_xor, xor_zero_r}
use lib.Dec.{T, eqb, eqb→eq}
use lib.ListN.{length}
use Rattle.octets.specs.Bytes.{Below}
use Rattle.pec.specs.Remainder.{poly_step, eight_steps, byte_step, pec_from, pec_of}
use Rattle.pec.specs.Wire.{bits_of, wire}
use Rattle.pec.proofs.Fold.{poly_byte}
use Rattle.pec.proofs.Sum.{plus, poly_plus, eight_plus, fold_plus}
use Rattle.pec.proofs.Tests.{below, passed}
use Rattle.pec.proofs.Xor.{xor_swap, xor_up}

-- One wire bit comes to the remainder, at its top.
unfoldable pub bit_step : ℕ → ℕ → ℕ
bit_step r x = poly_step (bit_xor (x * 128) r)

unfoldable pub bits_from : ℕ → List ℕ → ℕ
bits_from r xs = foldl bit_step r xs

pub bit_byte : (r x : ℕ) → bit_step r x < 256
unfolding bit_step
bit_byte r x = poly_byte (bit_xor (x * 128) r)

step_plus : (r q x y : ℕ) → bit_step (bit_xor r q) (bit_xor x y) ≡ bit_xor (bit_step r x) (bit_step q y)
unfolding bit_step
step_plus r q x y =
    ap (λ (z : ℕ). poly_step (bit_xor z (bit_xor r q))) (xor_up 7 x y)
    ∙ ap poly_step (xor_swap (x * 128) (y * 128) r q)
    ∙ poly_plus (bit_xor (x * 128) r) (bit_xor (y * 128) q)

-- The remainder of the sum of two lists of bits is the sum of their remainders.
bits_plus : (xs ys : List ℕ) (r q : ℕ) → length xs ≡ length ys
    → bits_from (bit_xor r q) (plus xs ys) ≡ bit_xor (bits_from r xs) (bits_from q ys)
unfolding bits_from
bits_plus xs ys r q e = fold_plus bit_step step_plus xs ys r q e

-- A byte that comes to 0 bit by bit is eight steps from itself.
bits_right : ℕ → Bool
unfolding bits_from bit_step bits_of poly_step eight_steps
bits_right b = eqb (bits_from 0 (bits_of b)) (eight_steps b)

bits_test : T (below bits_right 256)
unfolding bits_right
bits_test = tt

from_zero : (b : ℕ) → b < 256 → bits_from 0 (bits_of b) ≡ eight_steps b
unfolding bits_right
from_zero b h = eqb→eq (bits_from 0 (bits_of b)) (eight_steps b) (passed bits_right 256 bits_test b h)

zeros : List ℕ
zeros = 0 ∷ 0 ∷ 0 ∷ 0 ∷ 0 ∷ 0 ∷ 0 ∷ 0 ∷ []

pub byte_bits : (r b : ℕ) → b < 256 → bits_from r (bits_of b) ≡ byte_step r b
unfolding byte_step eight_steps bits_from bit_step bits_of plus zeros
byte_bits r b h =
    ap (λ (q : ℕ). bits_from q (bits_of b)) (sym (xor_zero_r r))
    ∙ bits_plus zeros (bits_of b) r 0 refl
    ∙ ap (bit_xor (eight_steps r)) (from_zero b h)
    ∙ sym (eight_plus r b)

pub from_bits : (s : List ℕ) (r : ℕ) → Below 256 s → pec_from r s ≡ bits_from r (wire s)
unfolding pec_from bits_from wire
from_bits [] r h = refl
from_bits (b ∷ s) r h =
    from_bits s (byte_step r b) (λ i. h (suc i))
    ∙ ap (λ (q : ℕ). foldl bit_step q (wire s)) (sym (byte_bits r b (h 0)))
    ∙ sym (foldl-append bit_step r (bits_of b) (wire s))

-- The PEC is the remainder of the wire bits.
pub pec_bits : (s : List ℕ) → Below 256 s → pec_of s ≡ bits_from 0 (wire s)
unfolding pec_of
pec_bits s h = from_bits s 0 h
