-- A word's remainder: it takes sums to sums; zero bytes in front change nothing; bytes come behind it as a number.
-- Assumes nothing.
use mathlib.Core.Path.{◌≡◌, refl, sym, ap, ap₂, ◌∙◌}
use mathlib.Core.List.{List, []}
use Prim.Native.Nat.{ℕ, zero, suc, ◌+◌, ◌-◌, ◌*◌, ◌/◌, ◌%◌, ◌^◌, ◌<◌, ◌≤◌}
use native.Mathlib.Omega.{arith}
use native.Mathlib.Nat.{add-zero, zero-add, add-suc, suc-add, mul_assoc, le-add_left, lt_of_lt_of_le}
use native.Mathlib.Nat.{pow-le-pow_right, pow-suc}
use lib.Bits.{bit_xor, xor_mod, xor_shr, xor_zero_l, xor_zero_r}
use lib.Dec.{lit<, lit≤}
use lib.ListN.{length, get_or, take, drop}
use lib.Seq.{drop-cons, drop-drop, get_or-take, get_or-drop}
use Rattle.std.specs.Int.{w64, from_be_bytes}
use Rattle.std.specs.Simd.{first_chunks}
use Rattle.octets.specs.Bytes.{Below}
use Rattle.pec.specs.Remainder.{poly_step, eight_steps, byte_step, pec_from}
use Rattle.pec.specs.Words.{number_at, word_from, word_pec}
use Rattle.pec.proofs.Linear.{Linear}
use Rattle.pec.proofs.Sum.{byte_plus}

-- Two words summed come to two remainders summed.
from_plus : (n r q v w : ℕ) → word_from (bit_xor r q) n (bit_xor v w) ≡ bit_xor (word_from r n v) (word_from q n w)
unfolding word_from
from_plus zero r q v w = refl
from_plus (suc n) r q v w =
    ap₂ byte_step (ap (word_from (bit_xor r q) n) (xor_shr v w 8) ∙ from_plus n r q (v / 256) (w / 256)) (xor_mod v w 8)
    ∙ byte_plus (word_from r n (v / 256)) (word_from q n (w / 256)) (v % 256) (w % 256)

pub word_plus : Linear word_pec
word_plus = record { plus = from_plus 8 0 0 }

pub zeros_plus : (n : ℕ) → Linear (λ w. word_from (word_pec w) n 0)
zeros_plus n =
    record {
      plus = λ a b. ap (λ (r : ℕ). word_from r n 0) (word_plus.plus a b) ∙ from_plus n (word_pec a) (word_pec b) 0 0;
    }

-- Zero bytes in front change nothing.
zero_first : (n w : ℕ) → w < 256 ^ n → word_from 0 (suc n) w ≡ word_from 0 n w
unfolding word_from byte_step eight_steps poly_step
zero_first zero w h = let e : w ≡ 0 = omega arith in rw e
zero_first (suc n) w h =
    ap (λ (r : ℕ). byte_step r (w % 256)) (zero_first n (w / 256) (omega (arith, pow-suc 256 n)))

zeros_first : (k n w : ℕ) → w < 256 ^ n → word_from 0 (k + n) w ≡ word_from 0 n w
zeros_first zero n w h = rw zero-add refl
zeros_first (suc k) n w h =
    let room : w < 256 ^ (k + n) = lt_of_lt_of_le h (pow-le-pow_right (lit< tt) (le-add_left n k)) in
    rw suc-add (zero_first (k + n) w room ∙ zeros_first k n w h)

-- The remainder of a word of n bytes, of these alone.
pub in_room : (n w : ℕ) → n ≤ 8 → w < 256 ^ n → word_pec w ≡ word_from 0 n w
in_room n w few h =
    let all : 8 ≡ 8 - n + n = omega arith in
    ap (λ (k : ℕ). word_from 0 k w) all ∙ zeros_first (8 - n) n w h

-- So the remainder of sixteen bits stands in two entries of the table.
pub two_entries : (w : ℕ) → w < 65536 → eight_steps (bit_xor (eight_steps (w / 256)) (w % 256)) ≡ word_pec w
unfolding word_from byte_step
two_entries w h =
    let top : w / 256 % 256 ≡ w / 256 = omega arith in
    ap (λ (x : ℕ). eight_steps (bit_xor (eight_steps x) (w % 256))) (sym top ∙ sym (xor_zero_l (w / 256 % 256)))
    ∙ sym (in_room 2 w (lit≤ tt) h)

-- A number of n bytes, summed into a word that has room for it, comes behind it.
pub number_comes : (n w v x : ℕ) → n ≤ 8 → x < 256 ^ n → word_pec v ≡ word_from (word_pec w) n 0
    → word_pec (bit_xor v x) ≡ word_from (word_pec w) n x
number_comes n w v x few h e =
    word_plus.plus v x ∙ ap₂ bit_xor e (in_room n x few h) ∙ sym (from_plus n (word_pec w) 0 0 x)
    ∙ ap₂ (λ (r y : ℕ). word_from r n y) (xor_zero_r (word_pec w)) (xor_zero_l x)

-- A number of bytes in two: the upper m come first, then the other n.
module _ (r m x : ℕ) where
  pub in_two : (n y : ℕ) → y < 256 ^ n → word_from r (m + n) (x * 256 ^ n + y) ≡ word_from (word_from r m x) n y
  unfolding word_from
  in_two zero y h = let e : x * 256 ^ 0 + y ≡ x = omega arith in rw (e, add-zero)
  in_two (suc n) y h =
      let z = x * 256 ^ suc n + y in
      let up : x * 256 ^ suc n ≡ x * 256 ^ n * 256 =
      ap (λ (p : ℕ). x * p) (pow-suc 256 n) ∙ sym (mul_assoc x (256 ^ n) 256) in
      let high : z / 256 ≡ x * 256 ^ n + y / 256 = omega (arith, up) in
      let low : z % 256 ≡ y % 256 = omega (arith, up) in
      rw add-suc
      (ap₂ (λ (a b : ℕ). byte_step (word_from r (m + n) a) b) high low
      ∙ ap (λ (q : ℕ). byte_step q (y % 256)) (in_two n (y / 256) (omega (arith, h, pow-suc 256 n))))

module _ (s : List ℕ) (bytes : Below 256 s) where
  -- n bytes make a number of n bytes,
  pub number_below : (i n : ℕ) → number_at s i n < 256 ^ n
  unfolding number_at
  number_below i zero = lit< tt
  number_below i (suc n) = rw pow-suc (omega (arith, bytes (i + n), number_below i n))

  -- and come as that number.
  pub bytes_come : (r i n : ℕ) → i + n ≤ length s
      → pec_from r (drop i s) ≡ pec_from (word_from r n (number_at s i n)) (drop (i + n) s)
  unfolding pec_from word_from number_at
  bytes_come r i zero h = rw add-zero refl
  bytes_come r i (suc n) h =
      let x = number_at s i n in
      let b = get_or s (i + n) 0 in
      let high : (x * 256 + b) / 256 ≡ x = omega (arith, bytes (i + n)) in
      let low : (x * 256 + b) % 256 ≡ b = omega (arith, bytes (i + n)) in
      let step : byte_step (word_from r n x) b ≡ word_from r (suc n) (x * 256 + b) =
      sym (ap₂ (λ (y z : ℕ). byte_step (word_from r n y) z) high low) in
      let rest : drop (suc (i + n)) s ≡ drop (i + suc n) s = ap (λ (k : ℕ). drop k s) (sym (add-suc i n)) in
      bytes_come r i n (omega arith)
      ∙ ap (pec_from (word_from r n x)) (drop-cons s (i + n) 0 (omega arith))
      ∙ ap₂ pec_from step rest

  -- So a word v, which is the word w with n zero bytes behind it, takes up the n bytes from place i on.
  pub comes : (w v x i n : ℕ) → n ≤ 8 → i + n ≤ length s → word_pec v ≡ word_from (word_pec w) n 0
      → x ≡ number_at s i n → pec_from (word_pec (bit_xor v x)) (drop (i + n) s) ≡ pec_from (word_pec w) (drop i s)
  comes w v x i n few h e number =
      let left = drop (i + n) s in
      ap (λ (y : ℕ). pec_from (word_pec (bit_xor v y)) left) number
      ∙ ap (λ (r : ℕ). pec_from r left) (number_comes n w v (number_at s i n) few (number_below i n) e)
      ∙ sym (bytes_come (word_pec w) i n h)

-- The number of a part is that of its places,
number_within : (s : List ℕ) (i n k : ℕ) → k ≤ n → number_at (take n (drop i s)) 0 k ≡ number_at s i k
unfolding number_at
number_within s i n zero h = refl
number_within s i n (suc k) h =
    let place : 0 + k ≡ k = omega arith in
    rw place
    (ap₂ (λ (x b : ℕ). x * 256 + b) (number_within s i n k (omega arith))
    (get_or-take n (drop i s) k 0 (omega arith) ∙ get_or-drop i s k 0))

pub number_of_part : (s : List ℕ) (i n : ℕ) → number_at (take n (drop i s)) 0 n ≡ number_at s i n
number_of_part s i n = number_within s i n n (omega arith)

-- and eight bytes make the number that the library makes of them.
pub number_of_eight : (s : List ℕ) → from_be_bytes w64 s ≡ number_at s 0 8
unfolding number_at
number_of_eight s = omega arith

-- The words of a list stand eight places apart.
pub chunk_at : (s : List ℕ) (n i : ℕ) → i < n → get_or (first_chunks 8 n s) i [] ≡ take 8 (drop (i * 8) s)
chunk_at s zero i h = absurd (omega arith)
chunk_at s (suc n) zero h = refl
chunk_at s (suc n) (suc i) h =
    let place : 8 + i * 8 ≡ suc i * 8 = omega arith in
    chunk_at (drop 8 s) n i (omega arith) ∙ ap (take 8) (drop-drop (i * 8) 8 s ∙ ap (λ (k : ℕ). drop k s) place)
