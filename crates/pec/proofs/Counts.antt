-- How many wire bits a change makes wrong, and which changes meet the premise of the rule of odd counts.
-- Assumes nothing.
use mathlib.Core.Path.{◌≡◌, refl, sym, ap, ap₂, ◌∙◌}
use mathlib.Core.List.{List, [], ◌∷◌, ◌++◌}
use Prim.Native.Nat.{ℕ, ◌+◌, ◌%◌}
use native.Mathlib.Omega.{arith}
use lib.ListN.{length, length-append}
use borrow.Author.Tests.{eq-eqb}
use Rattle.pec.specs.Wire.{bits_of, wire, differences, OddChange}
use Rattle.pec.proofs.WireBits.{wire-append}

-- No odd number is left out of the rule's premise.
pub any_odd : (s t : List ℕ) → length s ≡ length t → differences (wire s) (wire t) % 2 ≡ 1 → OddChange s t
any_odd s t lengths odd = record { lengths = lengths; odd = odd }

-- Places are counted part by part,
differences-append : (xs ys us vs : List ℕ) → length xs ≡ length ys
    → differences (xs ++ us) (ys ++ vs) ≡ differences xs ys + differences us vs
unfolding differences
differences-append [] [] us vs e = omega arith
differences-append [] (y ∷ ys) us vs e = absurd (omega arith)
differences-append (x ∷ xs) [] us vs e = absurd (omega arith)
differences-append (x ∷ xs) (y ∷ ys) us vs e = omega (arith, differences-append xs ys us vs (omega arith))

-- none in what stayed,
differences_none : (xs : List ℕ) → differences xs xs ≡ 0
unfolding differences
differences_none [] = refl
differences_none (x ∷ xs) = rw (eq-eqb x x refl) (omega (arith, differences_none xs))

-- so one byte made another counts by its own bits, wherever it stands.
byte_differences : (s t : List ℕ) (a b : ℕ)
    → differences (wire (s ++ a ∷ t)) (wire (s ++ b ∷ t)) ≡ differences (bits_of a) (bits_of b)
unfolding wire bits_of
byte_differences s t a b =
    ap₂ differences (wire-append s (a ∷ t)) (wire-append s (b ∷ t))
    ∙ differences-append (wire s) (wire s) (wire (a ∷ t)) (wire (b ∷ t)) refl
    ∙ ap₂ (λ (m n : ℕ). m + n) (differences_none (wire s))
    (differences-append (bits_of a) (bits_of b) (wire t) (wire t) refl)
    ∙ omega (arith, differences_none (wire t))

-- One byte made another in an odd number of its bits meets the premise.
pub byte_odd : (s t : List ℕ) (a b : ℕ) → differences (bits_of a) (bits_of b) % 2 ≡ 1
    → OddChange (s ++ a ∷ t) (s ++ b ∷ t)
byte_odd s t a b h =
    any_odd (s ++ a ∷ t) (s ++ b ∷ t)
    (length-append s (a ∷ t) ∙ sym (length-append s (b ∷ t)))
    (ap (λ (n : ℕ). n % 2) (byte_differences s t a b) ∙ h)
