-- Words as the code shifts and folds them: what they are taken for has the same remainder.
-- Assumes nothing.
use mathlib.Core.Path.{◌≡◌, refl, sym, ap, ap₂, ◌∙◌}
use mathlib.Core.Bool.{Bool}
use Prim.Native.Nat.{ℕ, zero, suc, ◌+◌, ◌-◌, ◌*◌, ◌/◌, ◌%◌, ◌^◌, ◌<◌, ◌≤◌}
use native.Mathlib.Omega.{arith}
use native.Mathlib.Nat.{add-zero, add_comm, mod-lt, pow-le-pow_right, pow-suc}
use lib.Bits.{bit_xor, xor_zero_r}
use lib.Dec.{T, eqb, lit<, lit≤}
use lib.Pow.{pow-add, pow_pos, shr_lt, shl-shr, shr-shr, split}
use Rattle.pec.specs.Remainder.{poly_step, eight_steps, byte_step}
use Rattle.pec.specs.Words.{word_from, word_pec}
use Rattle.pec.proofs.Linear.{Linear, same, last, down, up, after, summed, agree}
use Rattle.pec.proofs.Tests.{below}
use Rattle.pec.proofs.Words.{word_plus, zeros_plus, in_room, number_comes, in_two}

-- Eight zero bytes come behind a word, as the code shifts it.
unfoldable pub shifted_word : ℕ → ℕ
shifted_word w =
    let over = bit_xor (w / 2 ^ 60) (w / 2 ^ 63) in
    bit_xor (bit_xor (bit_xor (bit_xor (bit_xor (w * 2 ^ 4 % 2 ^ 64) (w * 2 ^ 1 % 2 ^ 64)) w) (over * 2 ^ 4 % 2 ^ 64))
    (over * 2 ^ 1 % 2 ^ 64)) over

shifted_word_plus : Linear shifted_word
unfolding shifted_word
shifted_word_plus =
    let over = summed (down 60) (down 63) in
    summed (summed (summed (summed (summed (up 4) (up 1)) same) (after (up 4) over)) (after (up 1) over)) over

shifted_word_right : ℕ → Bool
unfolding word_from shifted_word byte_step eight_steps poly_step
shifted_word_right w = eqb (word_pec (shifted_word w)) (word_from (word_pec w) 8 0)

shifted_word_test : T (below (λ j. shifted_word_right (2 ^ j)) 64)
unfolding shifted_word_right
shifted_word_test = tt

pub shifted_word_right_lem : (w : ℕ) → w < 2 ^ 64 → word_pec (shifted_word w) ≡ word_from (word_pec w) 8 0
unfolding shifted_word_right
shifted_word_right_lem = agree _ _ (after word_plus shifted_word_plus) (zeros_plus 8) 64 shifted_word_test

-- A word is folded to sixteen bits.
unfoldable pub folded : ℕ → ℕ
folded w =
    let a = w / 2 ^ 32 in
    let b = bit_xor (bit_xor (bit_xor (w % 2 ^ 32) (a * 2 ^ 4 % 2 ^ 64)) (a * 2 ^ 2 % 2 ^ 64)) (a * 2 ^ 1 % 2 ^ 64) in
    let c = b / 2 ^ 16 in
    let d = bit_xor (bit_xor (bit_xor (b % 2 ^ 16) (c * 2 ^ 4 % 2 ^ 64)) (c * 2 ^ 2 % 2 ^ 64)) c in
    let e = d / 2 ^ 16 in
    bit_xor (bit_xor (bit_xor d (e * 2 ^ 4 % 2 ^ 64)) (e * 2 ^ 2 % 2 ^ 64)) e % 2 ^ 16

folded_plus : Linear folded
unfolding folded
folded_plus =
    let a = down 32 in
    let b = summed (summed (summed (last 32) (after (up 4) a)) (after (up 2) a)) (after (up 1) a) in
    let c = after (down 16) b in
    let d = summed (summed (summed (after (last 16) b) (after (up 4) c)) (after (up 2) c)) c in
    let e = after (down 16) d in
    after (last 16) (summed (summed (summed d (after (up 4) e)) (after (up 2) e)) e)

folded_right : ℕ → Bool
unfolding word_from folded byte_step eight_steps poly_step
folded_right w = eqb (word_pec (folded w)) (word_pec w)

folded_test : T (below (λ j. folded_right (2 ^ j)) 64)
unfolding folded_right
folded_test = tt

pub folded_right_lem : (w : ℕ) → w < 2 ^ 64 → word_pec (folded w) ≡ word_pec w
unfolding folded_right
folded_right_lem = agree _ _ (after word_plus folded_plus) word_plus 64 folded_test

-- Fewer than eight zero bytes come behind a word: what stays in it, and what is moved past the top, shifted by eight.
unfoldable pub shifted : (n w : ℕ) → ℕ
shifted n w =
    let over = w / 2 ^ (64 - 8 * n) in
    bit_xor (bit_xor (bit_xor (over * 2 ^ 4 % 2 ^ 64) (over * 2 ^ 1 % 2 ^ 64)) over) (w * 2 ^ (8 * n) % 2 ^ 64)

bits_of_bytes : (n : ℕ) → 2 ^ (8 * n) ≡ 256 ^ n
bits_of_bytes zero = refl
bits_of_bytes (suc n) =
    let more : 8 * suc n ≡ 8 * n + 8 = omega arith in
    ap (λ (k : ℕ). 2 ^ k) more ∙ pow-add 2 (8 * n) 8 ∙ ap (λ (p : ℕ). p * 256) (bits_of_bytes n) ∙ sym (pow-suc 256 n)

-- what a word of 60 bits is times x^64: nothing is moved past the top
abbrev times : ℕ → ℕ
times h = bit_xor (bit_xor (h * 2 ^ 4 % 2 ^ 64) (h * 2 ^ 1 % 2 ^ 64)) h

times_right : (h : ℕ) → h < 2 ^ 60 → word_pec (times h) ≡ word_from (word_pec h) 8 0
unfolding shifted_word
times_right h few =
    let a : h / 2 ^ 60 ≡ 0 = omega arith in
    let b : h / 2 ^ 63 ≡ 0 = omega arith in
    let t = times h in
    let alike : shifted_word h ≡ t =
    ap₂ (λ (x y : ℕ). let o = bit_xor x y in bit_xor (bit_xor (bit_xor t (o * 2 ^ 4 % 2 ^ 64)) (o * 2 ^ 1 % 2 ^ 64)) o)
    a b
    ∙ xor_zero_r (bit_xor (bit_xor t 0) 0) ∙ xor_zero_r (bit_xor t 0) ∙ xor_zero_r t in
    ap word_pec (sym alike) ∙ shifted_word_right_lem h (omega arith)

module _ (n w : ℕ) (few : n < 8) (h : w < 2 ^ 64) where
  -- the number that n zero bytes behind w make, its last eight bytes, and what stands above them
  abbrev all : ℕ
  all = w * 2 ^ (8 * n)

  abbrev low : ℕ
  low = all % 2 ^ 64

  abbrev over : ℕ
  over = w / 2 ^ (64 - 8 * n)

  bits : 8 * n + (64 - 8 * n) ≡ 64
  bits = omega arith

  low_below : low < 256 ^ 8
  low_below = mod-lt all (pow_pos 64)

  over_is : over ≡ all / 2 ^ 64
  over_is =
      ap (λ (x : ℕ). x / 2 ^ (64 - 8 * n)) (sym (shl-shr w (8 * n))) ∙ shr-shr all (8 * n) (64 - 8 * n)
      ∙ ap (λ (k : ℕ). all / 2 ^ k) bits

  over_below : over < 256 ^ n
  over_below = rw (sym (bits_of_bytes n)) (shr_lt (8 * n) (64 - 8 * n) (rw bits h))

  over_few : over < 2 ^ 60
  over_few =
      let seven : n ≤ 7 = omega arith in
      let most : 256 ^ n ≤ 256 ^ 7 = pow-le-pow_right (lit< tt) seven in
      omega (arith, over_below, most)

  joined : over * 256 ^ 8 + low ≡ w * 256 ^ n + 0
  joined =
      ap (λ (x : ℕ). x * 2 ^ 64 + low) over_is ∙ split all 64 ∙ ap (λ (p : ℕ). w * p) (bits_of_bytes n)
      ∙ sym (add-zero (w * 256 ^ n))

  pub shifted_right : word_pec (shifted n w) ≡ word_from (word_pec w) n 0
  unfolding shifted
  shifted_right =
      number_comes 8 over (times over) low (lit≤ tt) low_below (times_right over over_few)
      ∙ ap (λ (r : ℕ). word_from r 8 low) (in_room n over (omega arith) over_below)
      ∙ sym (in_two 0 n over 8 low low_below)
      ∙ ap₂ (λ (k x : ℕ). word_from 0 k x) (add_comm n 8) joined
      ∙ in_two 0 8 w n 0 (rw (sym (bits_of_bytes n)) (pow_pos (8 * n)))
