-- What a checked list has: an even number of ones among its wire bits.
-- Assumes nothing.
use mathlib.Core.Path.{◌≡◌, refl, sym, ap, ap₂, ◌∙◌}
use mathlib.Core.Bool.{Bool}
use mathlib.Core.List.{List, [], ◌∷◌}
use Prim.Native.Nat.{ℕ, suc, ◌+◌, ◌%◌, ◌<◌}
use native.Mathlib.Nat.{zero-add}
use native.Mathlib.Omega.{arith}
use lib.Bits.{bit_xor}
use lib.Dec.{T, eqb, eqb→eq, lit<}
use Rattle.octets.specs.Bytes.{Below}
use Rattle.octets.specs.Choice.{pick}
use Rattle.pec.specs.Remainder.{poly_step}
use Rattle.pec.specs.Wire.{bits_of, wire, differences}
use Rattle.pec.proofs.Bitwise.{bit_step, bits_from, bit_byte, pec_bits}
use Rattle.pec.proofs.Checks.{Checked, checked_zero}
use Rattle.pec.proofs.Sum.{plus}
use Rattle.pec.proofs.Tests.{below, passed_two}
use Rattle.pec.proofs.WireBits.{Bits, wire_bits}

-- How many ones there are among bits: their sum.
unfoldable pub ones : List ℕ → ℕ
ones [] = 0
ones (x ∷ xs) = x + ones xs

-- The bit x that comes to the remainder r adds itself to the ones there, modulo 2: where an x^8 falls out, three low
-- terms come in for it.
adds : ℕ → ℕ → Bool
unfolding ones bit_step poly_step bits_of
adds x r = eqb (ones (bits_of (bit_step r x)) % 2) ((ones (bits_of r) + x) % 2)

adds_test : T (below (λ x. below (adds x) 256) 2)
unfolding adds
adds_test = tt

step_parity : (x r : ℕ) → x < 2 → r < 256 → ones (bits_of (bit_step r x)) % 2 ≡ (ones (bits_of r) + x) % 2
unfolding adds
step_parity x r hx hr = eqb→eq _ _ (passed_two adds 2 256 adds_test x r hx hr)

-- So do all the bits that come to it.
parity : (xs : List ℕ) (r : ℕ) → r < 256 → Bits xs
    → ones (bits_of (bits_from r xs)) % 2 ≡ (ones (bits_of r) + ones xs) % 2
unfolding ones bits_from
parity [] r h b = omega arith
parity (x ∷ xs) r h b =
    omega (arith, parity xs (bit_step r x) (bit_byte r x) (λ k. b (suc k)), step_parity x r (b 0) h)

-- A list of bytes that ends with its own PEC has an even number of one bits: it is a multiple of x^8 + x^2 + x + 1, so
-- x + 1, which divides that (four terms: 0 at x = 1), divides the list too, and its ones cancel at x = 1.
pub checked_even : (s : List ℕ) → Below 256 s → Checked s → ones (wire s) % 2 ≡ 0
unfolding ones bits_of
checked_even s b c =
    ap (λ (n : ℕ). n % 2) (sym (zero-add (ones (wire s))))
    ∙ sym (parity (wire s) 0 (lit< tt) (wire_bits s))
    ∙ ap (λ (r : ℕ). ones (bits_of r) % 2) (sym (pec_bits s b) ∙ checked_zero s c)

-- The sum of two bits is 1 where they differ.
differs : ℕ → ℕ → Bool
differs x y = eqb (bit_xor x y) (pick (eqb x y) 0 1)

differs_test : T (below (λ x. below (differs x) 2) 2)
unfolding differs
differs_test = tt

one_place : (x y : ℕ) → x < 2 → y < 2 → bit_xor x y ≡ pick (eqb x y) 0 1
unfolding differs
one_place x y hx hy = eqb→eq _ _ (passed_two differs 2 2 differs_test x y hx hy)

-- The sum of two lists of bits has a one in each place where they differ.
pub ones_plus : (xs ys : List ℕ) → Bits xs → Bits ys → ones (plus xs ys) ≡ differences xs ys
unfolding ones plus differences
ones_plus [] ys bx by = refl
ones_plus (x ∷ xs) [] bx by = refl
ones_plus (x ∷ xs) (y ∷ ys) bx by =
    ap₂ (λ (a b : ℕ). a + b) (one_place x y (bx 0) (by 0)) (ones_plus xs ys (λ k. bx (suc k)) (λ k. by (suc k)))
