-- Decimal numbers: digit by digit, how many there are, and the number that they make again.
-- Assumes nothing.
use mathlib.Core.Path.{◌≡◌, refl, ap, sym, ◌∙◌}
use mathlib.Core.List.{List, [], ◌∷◌, ◌++◌}
use mathlib.Core.Logic.{by_cases}
use Prim.Native.Nat.{ℕ, zero, suc, ◌+◌, ◌-◌, ◌*◌, ◌/◌, ◌%◌, ◌^◌, ◌≤◌, ◌<◌}
use native.Mathlib.Decide.{dec_lt}
use native.Mathlib.Nat.{div-lt_iff_lt-mul, one-le-pow, pow-suc}
use native.Mathlib.Omega.{arith}
use borrow.Author.Tests.{lt-ltb, le-ltb}
use lib.Dec.{lit<}
use lib.ListN.{length, get_or, length-append}
use Rattle.records.specs.Decimal.{digits, decimal}

-- A law of every number by its digits: of one digit, and of a number whose tenth has the law.
module _ (P : ℕ → Type 0) (one : (n : ℕ) → n < 10 → P n) (more : (n : ℕ) → 10 ≤ n → P (n / 10) → P n) where
  by_size : (most n : ℕ) → n < most → P n
  by_size zero n h = absurd (omega arith)
  by_size (suc most) n h =
      by_cases (dec_lt n 10)
      (λ (few : n < 10). one n few)
      (λ (few : n < 10 → ⊥). more n (omega arith) (by_size most (n / 10) (omega arith)))

  pub by_digits : (n : ℕ) → P n
  by_digits n = by_size (suc n) n (omega arith)

-- a number below ten, and one of more digits
digits_one : (k n : ℕ) → n < 10 → digits (suc k) n ≡ (48 + n) ∷ []
unfolding digits
digits_one k n h = rw (lt-ltb n 10 h)

digits_more : (k n : ℕ) → 10 ≤ n → digits (suc k) n ≡ digits k (n / 10) ++ ((48 + n % 10) ∷ [])
unfolding digits
digits_more k n h = rw (le-ltb n 10 h)

-- room for a digit more changes nothing where there is room enough
digits_enough : (k n : ℕ) → n < 10 ^ suc k → digits (suc k) n ≡ digits (suc (suc k)) n
digits_enough zero n h = digits_one 0 n h ∙ sym (digits_one 1 n h)
digits_enough (suc k) n h =
    by_cases (dec_lt n 10)
    (λ (few : n < 10). digits_one (suc k) n few ∙ sym (digits_one (suc (suc k)) n few))
    (λ (few : n < 10 → ⊥).
    digits_more (suc k) n (omega arith)
    ∙ ap (λ (l : List ℕ). l ++ ((48 + n % 10) ∷ []))
    (digits_enough k (n / 10) ((div-lt_iff_lt-mul (lit< tt)).1 (rw pow-suc at h)))
    ∙ sym (digits_more (suc (suc k)) n (omega arith)))

-- a number of at most 64 bits, digit by digit
pub decimal_one : (n : ℕ) → n < 10 → decimal n ≡ (48 + n) ∷ []
unfolding decimal
decimal_one n h = digits_one 19 n h

pub decimal_more : (n : ℕ) → n < 10 ^ 20 → 10 ≤ n → decimal n ≡ decimal (n / 10) ++ ((48 + n % 10) ∷ [])
unfolding decimal
decimal_more n h m =
    digits_more 19 n m ∙ ap (λ (l : List ℕ). l ++ ((48 + n % 10) ∷ [])) (digits_enough 18 (n / 10) (omega arith))

-- how many digits there are
digits_most : (k n : ℕ) → length (digits k n) ≤ k
unfolding digits
digits_most zero n = omega arith
digits_most (suc k) n =
    by_cases (dec_lt n 10)
    (λ (h : n < 10). rw (lt-ltb n 10 h) (omega arith))
    (λ (h : n < 10 → ⊥). rw (le-ltb n 10 (omega arith), length-append) (omega (arith, digits_most k (n / 10))))

pub decimal_most : (n : ℕ) → length (decimal n) ≤ 20
unfolding decimal
decimal_most n = digits_most 20 n

pub count_one : (n : ℕ) → n < 10 → length (decimal n) ≡ 1
count_one n h = ap length (decimal_one n h)

pub count_more : (n : ℕ) → n < 10 ^ 20 → 10 ≤ n → length (decimal n) ≡ length (decimal (n / 10)) + 1
count_more n h m = ap length (decimal_more n h m) ∙ length-append (decimal (n / 10)) ((48 + n % 10) ∷ [])

-- a digit at least
pub decimal_some : (n : ℕ) → 1 ≤ length (decimal n)
unfolding decimal digits
decimal_some n =
    by_cases (dec_lt n 10)
    (λ (few : n < 10). omega (arith, count_one n few))
    (λ (few : n < 10 → ⊥).
    rw (le-ltb n 10 (omega arith), length-append) (omega arith))

-- one more than the power of ten that the number reaches
pub count_power : (k n : ℕ) → n < 10 ^ 20 → 10 ^ k ≤ n → n < 10 * 10 ^ k → k + 1 ≡ length (decimal n)
count_power zero n h low high = sym (count_one n (omega arith))
count_power (suc k) n h low high =
    let up : 10 ^ suc k ≡ 10 ^ k * 10 = pow-suc 10 k in
    let fewer : k + 1 ≡ length (decimal (n / 10)) =
    count_power k (n / 10) (omega arith) (omega arith) (omega arith) in
    let many : 1 ≤ 10 ^ k = one-le-pow k 10 (lit< tt) in
    omega (arith, count_more n h (omega arith))

-- the number that decimal digits make, going on from what those in front of them made
unfoldable pub made_from : ℕ → List ℕ → ℕ
made_from n [] = n
made_from n (letter ∷ letters) = made_from (n * 10 + (letter - 48)) letters

-- the digits make the number again
made-append : (n : ℕ) (a b : List ℕ) → made_from n (a ++ b) ≡ made_from (made_from n a) b
unfolding made_from
made-append n [] b = refl
made-append n (x ∷ a) b = made-append (n * 10 + (x - 48)) a b

pub decimal_made : (n : ℕ) → n < 10 ^ 20 → made_from 0 (decimal n) ≡ n
unfolding made_from
decimal_made =
    by_digits (λ (n : ℕ). n < 10 ^ 20 → made_from 0 (decimal n) ≡ n)
    (λ (n : ℕ) (few : n < 10) (h : n < 10 ^ 20). rw (decimal_one n few) (omega arith))
    (λ (n : ℕ) (m : 10 ≤ n) (tenth : n / 10 < 10 ^ 20 → made_from 0 (decimal (n / 10)) ≡ n / 10) (h : n < 10 ^ 20).
    rw (decimal_more n h m, made-append, tenth (omega arith)) (omega arith))

in_front : (a b : List ℕ) → 49 ≤ get_or a 0 0 → 49 ≤ get_or (a ++ b) 0 0
in_front [] b h = absurd (omega arith)
in_front (x ∷ a) b h = h

-- shortest: but for 0 the first letter is no 0
pub decimal_shortest : (n : ℕ) → 1 ≤ n → n < 10 ^ 20 → 49 ≤ get_or (decimal n) 0 0
decimal_shortest =
    by_digits (λ (n : ℕ). 1 ≤ n → n < 10 ^ 20 → 49 ≤ get_or (decimal n) 0 0)
    (λ (n : ℕ) (few : n < 10) (some : 1 ≤ n) (h : n < 10 ^ 20). rw (decimal_one n few) (omega arith))
    (λ (n : ℕ) (m : 10 ≤ n) (tenth : 1 ≤ n / 10 → n / 10 < 10 ^ 20 → 49 ≤ get_or (decimal (n / 10)) 0 0) (some : 1 ≤ n)
    (h : n < 10 ^ 20).
    rw (decimal_more n h m) (in_front (decimal (n / 10)) ((48 + n % 10) ∷ []) (tenth (omega arith) (omega arith))))
