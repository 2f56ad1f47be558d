-- Choosing by tests: what a choice says of its test, of both tests of a pair, and of two that are equal.
-- Assumes nothing.
use mathlib.Core.Path.{◌≡◌, refl, sym, ◌∙◌}
use mathlib.Core.Bool.{Bool, beq, true, false, ◌&&◌, false≢true}
use Prim.Native.Nat.{ℕ, ◌≤◌, ◌<◌}
use borrow.Author.Tests.{leb-true, le-leb, lt-leb}
use lib.Dec.{leb}
use Rattle.octets.specs.Choice.{pick, within}

-- two results that one equation allows are equal
pub determined : {A : Type 0} {x a b : A} → a ≡ x → b ≡ x → a ≡ b
determined p q = p ∙ sym q

-- what holds of both answers of a choice, each where its test says so, holds of the choice
pub pick_elim : {A : Type 0} (P : A → Type 0) (t : Bool) (x y : A) → (t ≡ true → P x) → (t ≡ false → P y)
    → P (pick t x y)
pick_elim P true x y f g = f refl
pick_elim P false x y f g = g refl

-- by a test, one way or the other
pub either_way : {A : Type 0} (t : Bool) → (t ≡ true → A) → (t ≡ false → A) → A
either_way true f g = f refl
either_way false f g = g refl

-- one test that holds only where the other does
abbrev pub implies : Bool → Bool → Bool
implies true b = b
implies false b = true

pub implied : (a b : Bool) → implies a b ≡ true → a ≡ true → b ≡ true
implied true b i e = i
implied false b i e = absurd (false≢true e)

pub implied_not : (a b : Bool) → implies a b ≡ true → b ≡ false → a ≡ false
implied_not true b i e = sym i ∙ e
implied_not false b i e = refl

-- both tests of a pair hold
pub both : (a b : Bool) → (a && b) ≡ true → (a ≡ true) × (b ≡ true)
both true b e = (refl, e)
both false b e = absurd (false≢true e)

-- the test of two tests holds of equal ones, and of no others
pub beq_true : (a b : Bool) → beq a b ≡ true → a ≡ b
beq_true true true e = refl
beq_true true false e = sym e
beq_true false true e = e
beq_true false false e = refl

pub beq_refl : (a : Bool) → beq a a ≡ true
beq_refl true = refl
beq_refl false = refl

-- a number within two bounds
pub within_bounds : (low high n : ℕ) → within low high n ≡ true → (low ≤ n) × (n ≤ high)
within_bounds low high n e =
    let h = both (leb low n) (leb n high) e in
    (leb-true low n h.0, leb-true n high h.1)

pub within_holds : (low high n : ℕ) → low ≤ n → n ≤ high → within low high n ≡ true
within_holds low high n h k = rw (le-leb low n h, le-leb n high k)

-- and one outside them
pub within_below : (low high n : ℕ) → n < low → within low high n ≡ false
within_below low high n h = rw (lt-leb low n h)

and-false : (t : Bool) → (t && false) ≡ false
and-false true = refl
and-false false = refl

pub within_above : (low high n : ℕ) → high < n → within low high n ≡ false
within_above low high n h = rw (lt-leb n high h) (and-false (leb low n))
