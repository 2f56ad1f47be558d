-- The bitwise sum of two lists, 1 where the two differ, so that what was changed in a frame can be spoken of by itself:
-- its PEC is the sum of their PECs, its places are theirs summed, and it is as long.
-- Assumes nothing.
use mathlib.Core.Path.{◌≡◌, refl, ap, ap₂, ◌∙◌}
use mathlib.Core.List.{List, [], ◌∷◌, foldl}
use Prim.Native.Nat.{ℕ, zero, suc, ◌*◌, ◌/◌, ◌%◌, ◌<◌}
use native.Mathlib.Omega.{arith}
use lib.Bits.{bit_xor, xor_mod, xor_lt}
use lib.Dec.{lit<}
use lib.ListN.{length, get_or}
use Rattle.octets.specs.Bytes.{Below}
use Rattle.pec.specs.Remainder.{low_terms, poly_step, eight_steps, byte_step, pec_from, pec_of}
use Rattle.pec.proofs.Linear.{Linear, after}
use Rattle.pec.proofs.Xor.{xor_swap, xor_up, xor_bit}

-- As far as both lists go.
unfoldable pub plus : List ℕ → List ℕ → List ℕ
plus [] t = []
plus (a ∷ s) [] = []
plus (a ∷ s) (b ∷ t) = bit_xor a b ∷ plus s t

terms_plus : (x y : ℕ) → x < 2 → y < 2 → bit_xor x y * low_terms ≡ bit_xor (x * low_terms) (y * low_terms)
terms_plus zero y hx hy = refl
terms_plus (suc zero) zero hx hy = refl
terms_plus (suc zero) (suc zero) hx hy = refl
terms_plus (suc zero) (suc (suc y)) hx hy = absurd (omega arith)
terms_plus (suc (suc x)) y hx hy = absurd (omega arith)

pub poly_plus : (a b : ℕ) → poly_step (bit_xor a b) ≡ bit_xor (poly_step a) (poly_step b)
unfolding poly_step
poly_plus a b =
    ap₂ bit_xor
    (ap (λ (x : ℕ). x % 256) (xor_up 1 a b) ∙ xor_mod (a * 2) (b * 2) 8)
    (ap (λ (x : ℕ). x * low_terms) (xor_bit 7 a b) ∙ terms_plus (a / 128 % 2) (b / 128 % 2) (omega arith) (omega arith))
    ∙ xor_swap (a * 2 % 256) (b * 2 % 256) (a / 128 % 2 * low_terms) (b / 128 % 2 * low_terms)

pub eight_plus : (a b : ℕ) → eight_steps (bit_xor a b) ≡ bit_xor (eight_steps a) (eight_steps b)
unfolding eight_steps
eight_plus =
    let one : Linear poly_step = record { plus = poly_plus } in
    let two = after one one in
    let four = after two two in
    (after four four).plus

-- A step that takes sums to sums does so over two lists of one length, from any two starts.
pub fold_plus : (step : ℕ → ℕ → ℕ)
    → ((r q a b : ℕ) → step (bit_xor r q) (bit_xor a b) ≡ bit_xor (step r a) (step q b))
    → (s t : List ℕ) (r q : ℕ) → length s ≡ length t
    → foldl step (bit_xor r q) (plus s t) ≡ bit_xor (foldl step r s) (foldl step q t)
unfolding plus
fold_plus step h [] [] r q e = refl
fold_plus step h [] (b ∷ t) r q e = absurd (omega arith)
fold_plus step h (a ∷ s) [] r q e = absurd (omega arith)
fold_plus step h (a ∷ s) (b ∷ t) r q e =
    ap (λ (x : ℕ). foldl step x (plus s t)) (h r q a b) ∙ fold_plus step h s t (step r a) (step q b) (omega arith)

pub byte_plus : (r q a b : ℕ) → byte_step (bit_xor r q) (bit_xor a b) ≡ bit_xor (byte_step r a) (byte_step q b)
unfolding byte_step
byte_plus r q a b = ap eight_steps (xor_swap r q a b) ∙ eight_plus (bit_xor r a) (bit_xor q b)

-- The PEC of the bitwise sum of two equally long lists is the sum of their PECs.
pub pec_plus : (s t : List ℕ) → length s ≡ length t → pec_of (plus s t) ≡ bit_xor (pec_of s) (pec_of t)
unfolding pec_of pec_from
pec_plus s t e = fold_plus byte_step byte_plus s t 0 0 e

-- What stands at a place of a sum.
pub plus_at : (s t : List ℕ) (k : ℕ) → length s ≡ length t
    → get_or (plus s t) k 0 ≡ bit_xor (get_or s k 0) (get_or t k 0)
unfolding plus
plus_at [] [] k e = refl
plus_at [] (b ∷ t) k e = absurd (omega arith)
plus_at (a ∷ s) [] k e = absurd (omega arith)
plus_at (a ∷ s) (b ∷ t) zero e = refl
plus_at (a ∷ s) (b ∷ t) (suc k) e = plus_at s t k (omega arith)

-- A sum is as long as what is summed,
pub plus-length : (s t : List ℕ) → length s ≡ length t → length (plus s t) ≡ length s
unfolding plus
plus-length [] t e = refl
plus-length (a ∷ s) [] e = absurd (omega arith)
plus-length (a ∷ s) (b ∷ t) e = ap suc (plus-length s t (omega arith))

-- and a sum of bytes is one of bytes.
pub plus_bytes : (s t : List ℕ) → Below 256 s → Below 256 t → Below 256 (plus s t)
unfolding plus
plus_bytes [] t hs ht i = lit< tt
plus_bytes (a ∷ s) [] hs ht i = lit< tt
plus_bytes (a ∷ s) (b ∷ t) hs ht zero = xor_lt 8 a b (hs 0) (ht 0)
plus_bytes (a ∷ s) (b ∷ t) hs ht (suc i) = plus_bytes s t (λ k. hs (suc k)) (λ k. ht (suc k)) i
