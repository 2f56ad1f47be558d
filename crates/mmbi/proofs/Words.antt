-- Words: put together and taken apart are the same, and no pointer loses a flag.
-- Assumes nothing.
use mathlib.Core.Path.{◌≡◌, sym, ◌∙◌}
use mathlib.Core.Bool.{Bool, true, false}
use Prim.Native.Nat.{ℕ, ◌+◌, ◌*◌, ◌/◌, ◌%◌, ◌<◌, ◌^◌}
use native.Mathlib.Omega.{arith}
use native.Mathlib.Nat.{mul-one, mul-zero}
use native.Mathlib.Decide.{ℕ_discrete}
use mathlib.Core.Logic.{by_cases}
use borrow.Author.Tests.{eq-eqb, ne_eqb}
use lib.Dec.{eqb}
use Rattle.octets.specs.Choice.{pick}
use Rattle.mmbi.specs.declared.word.Word.{Word}
use Rattle.mmbi.specs.Words.{pointer_in, bit1In, bit0In, word_of, number_of}

-- the number that is one bit, tested and written
is_set : (x : ℕ) (a : Bool) → x ≡ pick a 1 0 → eqb x 1 ≡ a
is_set x true e = eq-eqb x 1 e
is_set x false e = ne_eqb x 1 (λ (o : x ≡ 1). omega arith)

bit_worth : (x k : ℕ) → x < 2 → pick (eqb x 1) k 0 ≡ k * x
bit_worth x k h =
    by_cases (ℕ_discrete x 1)
    (λ (e : x ≡ 1). rw (eq-eqb x 1 e, e) (sym (mul-one k)))
    (λ (n : x ≡ 1 → ⊥). let z : x ≡ 0 = omega arith in rw (ne_eqb x 1 n, z) (sym (mul-zero k)))

-- a number of 30 bits with two bits after it, taken apart
module _ (q : ℕ) where
  abbrev with_bits : Bool → Bool → ℕ
  with_bits a b = q * 4 + pick a 2 0 + pick b 1 0

  high_back : (a b : Bool) → with_bits a b / 2 % 2 ≡ pick a 1 0
  high_back true true = omega arith
  high_back true false = omega arith
  high_back false true = omega arith
  high_back false false = omega arith

  low_back : (a b : Bool) → with_bits a b % 2 ≡ pick b 1 0
  low_back true true = omega arith
  low_back true false = omega arith
  low_back false true = omega arith
  low_back false false = omega arith

  pointer_back : (a b : Bool) → with_bits a b / 4 * 4 ≡ q * 4
  pointer_back true true = omega arith
  pointer_back true false = omega arith
  pointer_back false true = omega arith
  pointer_back false false = omega arith

-- a number's word put together again is that number
pub number_back : (n : ℕ) → n < 2 ^ 32 → number_of (word_of n) ≡ n
unfolding word_of number_of
number_back n h =
    let pointer : n / 4 * 4 / 4 % 1073741824 ≡ n / 4 = omega arith in
    rw (pointer, bit_worth (n / 2 % 2) 2 (omega arith), bit_worth (n % 2) 1 (omega arith)) (omega arith)

-- whatever the pointer, no flag is lost
pub flags_kept : (w : Word) → (bit1In (number_of w) ≡ w.bit1) × (bit0In (number_of w) ≡ w.bit0)
unfolding number_of
flags_kept w =
    let q = w.pointer / 4 % 1073741824 in
    (is_set _ w.bit1 (high_back q w.bit1 w.bit0), is_set _ w.bit0 (low_back q w.bit1 w.bit0))

-- a word put together and taken apart is that word, where its pointer is a multiple of 4 of 32 bits
pub word_back : (w : Word) → w.pointer % 4 ≡ 0 → w.pointer < 2 ^ 32 → word_of (number_of w) ≡ w
unfolding word_of number_of
word_back w h k =
    let pointer : pointer_in (number_of w) ≡ w.pointer = pointer_back (w.pointer / 4 % 1073741824) w.bit1 w.bit0
    ∙ omega arith in
    let bit1 : bit1In (number_of w) ≡ w.bit1 = (flags_kept w).0 in
    let bit0 : bit0In (number_of w) ≡ w.bit0 = (flags_kept w).1 in
    λ i. record { pointer = pointer i; bit1 = bit1 i; bit0 = bit0 i }

-- a pointer out of a word is a multiple of 4, and a word put together has 32 bits
pub pointer_aligned : (n : ℕ) → (word_of n).pointer % 4 ≡ 0
unfolding word_of
pointer_aligned n = omega arith

pub number_below : (w : Word) → number_of w < 2 ^ 32
unfolding number_of
number_below w = below w.bit1 w.bit0
  where
    below : (a b : Bool) → w.pointer / 4 % 1073741824 * 4 + pick a 2 0 + pick b 1 0 < 2 ^ 32
    below true true = omega arith
    below true false = omega arith
    below false true = omega arith
    below false false = omega arith
