-- Maps of numbers that take sums to sums: what they are made of, and that two which agree on the numbers of one bit
-- agree.
-- Assumes nothing.
use mathlib.Core.Path.{◌≡◌, refl, sym, ap, ap₂, ◌∙◌}
use Prim.Native.Nat.{ℕ, zero, suc, ◌*◌, ◌/◌, ◌%◌, ◌^◌, ◌<◌}
use native.Mathlib.Omega.{arith}
use native.Mathlib.Nat.{mod-lt, zero-mul, one-mul}
use native.Mathlib.Numerals.{one-add}
use lib.Bits.{bit_xor, xor_mod, xor_shr, xor_self, xor_shifted}
use lib.Dec.{T, eqb, eqb→eq}
use lib.Pow.{pow_pos, shr_lt, split}
use Rattle.pec.proofs.Tests.{below, both}
use Rattle.pec.proofs.Xor.{xor_swap, xor_up}

pub record Linear (f : ℕ → ℕ) : Type 0 where
  pub plus : (a b : ℕ) → f (bit_xor a b) ≡ bit_xor (f a) (f b)

-- What takes sums to sums: the number itself, its last k bits, moved down, moved up in a word,
pub same : Linear (λ x. x)
same = record { plus = λ a b. refl }

pub last : (k : ℕ) → Linear (λ x. x % 2 ^ k)
last k = record { plus = λ a b. xor_mod a b k }

pub down : (k : ℕ) → Linear (λ x. x / 2 ^ k)
down k = record { plus = λ a b. xor_shr a b k }

pub up : (k : ℕ) → Linear (λ x. x * 2 ^ k % 2 ^ 64)
up k = record { plus = λ a b. ap (λ (x : ℕ). x % 2 ^ 64) (xor_up k a b) ∙ xor_mod (a * 2 ^ k) (b * 2 ^ k) 64 }

-- two of them one after the other, and two of them summed.
pub after : {f g : ℕ → ℕ} → Linear f → Linear g → Linear (λ x. f (g x))
after {f} {g} hf hg = record { plus = λ a b. ap f (hg.plus a b) ∙ hf.plus (g a) (g b) }

pub summed : {f g : ℕ → ℕ} → Linear f → Linear g → Linear (λ x. bit_xor (f x) (g x))
summed {f} {g} hf hg =
    record { plus = λ a b. ap₂ bit_xor (hf.plus a b) (hg.plus a b) ∙ xor_swap (f a) (f b) (g a) (g b) }

-- Such a map takes 0 to 0.
at_zero : (f : ℕ → ℕ) → Linear f → f 0 ≡ 0
at_zero f h = h.plus 0 0 ∙ xor_self (f 0)

-- Two that agree on every number of one bit agree.
module _ (f g : ℕ → ℕ) (hf : Linear f) (hg : Linear g) where
  none : f 0 ≡ g 0
  none = at_zero f hf ∙ sym (at_zero g hg)

  on_bit : (x : ℕ) → f x ≡ g x → (b : ℕ) → b < 2 → f (b * x) ≡ g (b * x)
  on_bit x e zero h = rw zero-mul none
  on_bit x e (suc zero) h = rw one-mul e
  on_bit x e (suc (suc b)) h = absurd (omega arith)

  pub agree : (k : ℕ) → T (below (λ j. eqb (f (2 ^ j)) (g (2 ^ j))) k) → (n : ℕ) → n < 2 ^ k → f n ≡ g n
  agree zero t n h = let e : n ≡ 0 = omega arith in rw e none
  agree (suc k) t n h =
      let here = both (eqb (f (2 ^ k)) (g (2 ^ k))) (below (λ j. eqb (f (2 ^ j)) (g (2 ^ j))) k) t in
      let high = n / 2 ^ k * 2 ^ k in
      let parts : bit_xor high (n % 2 ^ k) ≡ n =
      xor_shifted (n / 2 ^ k) k (n % 2 ^ k) (mod-lt n (pow_pos k)) ∙ split n k in
      let top = on_bit (2 ^ k) (eqb→eq (f (2 ^ k)) (g (2 ^ k)) here.0) (n / 2 ^ k) (shr_lt 1 k (rw one-add h)) in
      let rest = agree k here.1 (n % 2 ^ k) (mod-lt n (pow_pos k)) in
      ap f (sym parts) ∙ hf.plus high (n % 2 ^ k) ∙ ap₂ bit_xor top rest ∙ sym (hg.plus high (n % 2 ^ k))
      ∙ ap g parts
