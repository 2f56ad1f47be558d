-- Check orders: where the first failing check stands gives the answer, and a good answer says that every test held.
-- Four laws serve every order; `tests` lets `omega` read and prove the facts that they ask for.
-- Assumes nothing.
use mathlib.Core.Path.{◌≡◌, refl, sym, ◌∙◌}
use mathlib.Core.Bool.{Bool, true, false, not, ◌&&◌, true≢false}
use mathlib.Core.List.{List, [], ◌∷◌}
use Prim.Native.Nat.{ℕ, zero, suc, ◌+◌, ◌-◌, ◌≤◌, ◌<◌}
use native.Mathlib.Omega.{arith}
use native.Mathlib.Decide.{dec_le}
use mathlib.Core.Logic.{by_cases}
use borrow.Author.Tests.{ltb-true, ltb-false, leb-true, leb-false, eqb-true, eqb-false}
use borrow.Author.Tests.{lt-ltb, le-ltb, le-leb, lt-leb, eq-eqb, ne_eqb}
use Rattle.octets.specs.Choice.{within}
use Rattle.octets.specs.Checks.{Check, ◌unless◌, first_failing}
pub use Rattle.octets.specs.Checks.{Hold}
use Rattle.octets.proofs.Choice.{both, within_bounds, within_holds, within_below, within_above}

-- the answer of the check at place i; past the last check, `last`
abbrev pub answer_at : {A : Type 0} → List (Check A) → A → ℕ → A
answer_at [] last i = last
answer_at ((a unless t) ∷ order) last zero = a
answer_at ((a unless t) ∷ order) last (suc i) = answer_at order last i

-- every answer passes
abbrev pub Each : {A : Type 0} → (A → Type 0) → List (Check A) → Type 0
Each P [] = Unit
Each P ((a unless t) ∷ order) = P a × Each P order

-- the tests before place i hold, and the one there fails
abbrev pub FailsAt : {A : Type 0} → List (Check A) → ℕ → Type 0
FailsAt [] i = ⊥
FailsAt ((a unless t) ∷ order) zero = t ≡ false
FailsAt ((a unless t) ∷ order) (suc i) = (t ≡ true) × FailsAt order i

-- no check answers what is good
abbrev pub apart : {A : Type 0} → (A → Bool) → List (Check A) → Bool
apart good [] = true
apart good ((a unless t) ∷ order) = not (good a) && apart good order

pub first_failing_lem : {A : Type 0} (order : List (Check A)) (last : A) (i : ℕ)
    → FailsAt order i → first_failing order last ≡ answer_at order last i
first_failing_lem [] last i f = absurd f
first_failing_lem ((a unless true) ∷ order) last zero f = absurd (true≢false f)
first_failing_lem ((a unless false) ∷ order) last zero f = refl
first_failing_lem ((a unless true) ∷ order) last (suc i) f = first_failing_lem order last i f.1
first_failing_lem ((a unless false) ∷ order) last (suc i) f = absurd (true≢false (sym f.0))

pub none_failing : {A : Type 0} (order : List (Check A)) (last : A) → Hold order → first_failing order last ≡ last
none_failing [] last h = refl
none_failing ((a unless true) ∷ order) last h = none_failing order last h.1
none_failing ((a unless false) ∷ order) last h = absurd (true≢false (sym h.0))

pub all_hold : {A : Type 0} (good : A → Bool) (order : List (Check A)) (last : A)
    → apart good order ≡ true → good (first_failing order last) ≡ true → Hold order
all_hold good [] last away e = tt
all_hold good ((a unless true) ∷ order) last away e =
    (refl, all_hold good order last (both (not (good a)) (apart good order) away).1 e)
all_hold good ((a unless false) ∷ order) last away e =
    absurd (true≢false (sym (both (not (good a)) (apart good order) away).0 ∙ gone (good a) e))
  where
    gone : (t : Bool) → t ≡ true → not t ≡ false
    gone true h = refl
    gone false h = absurd (true≢false (sym h))

-- what holds of each check's answer, and of the last where every test holds, holds of the order's answer
pub every_answer : {A : Type 0} (P : A → Type 0) (order : List (Check A)) (last : A)
    → Each P order → (Hold order → P last) → P (first_failing order last)
every_answer P [] last e f = f tt
every_answer P ((a unless true) ∷ order) last e f = every_answer P order last e.1 (λ h. f (refl, h))
every_answer P ((a unless false) ∷ order) last e f = e.0

-- a number within two bounds, as one sum that `omega` reads: how far it lies below, and how far above
pub within_true : (low high n : ℕ) → within low high n ≡ true → (low - n) + (n - high) ≡ 0
within_true low high n e = let h = within_bounds low high n e in omega arith

pub is_within : (low high n : ℕ) → (low - n) + (n - high) ≡ 0 → within low high n ≡ true
is_within low high n e = within_holds low high n (omega arith) (omega arith)

pub within_false : (low high n : ℕ) → within low high n ≡ false → 0 < (low - n) + (n - high)
within_false low high n e =
    by_cases (dec_le low n)
    (λ (h : low ≤ n). by_cases (dec_le n high)
    (λ (k : n ≤ high). absurd (true≢false (sym (within_holds low high n h k) ∙ e)))
    (λ (k : n ≤ high → ⊥). omega arith))
    (λ (h : low ≤ n → ⊥). omega arith)

pub not_within : (low high n : ℕ) → 0 < (low - n) + (n - high) → within low high n ≡ false
not_within low high n e =
    by_cases (dec_le low n)
    (λ (h : low ≤ n). within_above low high n (omega arith))
    (λ (h : low ≤ n → ⊥). within_below low high n (omega arith))

-- the tests of check orders, both ways
pub ruleset tests = (
  ltb-true,
  ltb-false,
  leb-true,
  leb-false,
  eqb-true,
  eqb-false,
  within_true,
  within_false,
  lt-ltb,
  le-ltb,
  le-leb,
  lt-leb,
  eq-eqb,
  ne_eqb,
  is_within,
  not_within,
)
