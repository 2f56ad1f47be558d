-- What a test that antt computes says: of two tests at once, of all numbers below a bound, of all pairs, of a list.
-- Assumes nothing.
use mathlib.Core.Path.{◌≡◌}
use mathlib.Core.Bool.{Bool, true, false, ◌&&◌}
use mathlib.Core.List.{List, [], ◌∷◌}
use mathlib.Core.Logic.{dite}
use Prim.Native.Nat.{ℕ, zero, suc, ◌<◌}
use native.Mathlib.Nat.{not-suc-le-zero}
use native.Mathlib.Decide.{ℕ_discrete}
use native.Mathlib.Omega.{arith}
use lib.Dec.{T, ltb, ltb→lt, lit<}
use Rattle.octets.specs.Bytes.{Below}

-- Two tests that are passed together are passed each.
pub both : (a b : Bool) → T (a && b) → T a × T b
both true b t = (tt, t)
both false b t = absurd t

-- A test of every number below n.
abbrev pub below : (ℕ → Bool) → ℕ → Bool
below f zero = true
below f (suc n) = f n && below f n

pub passed : (f : ℕ → Bool) (n : ℕ) → T (below f n) → (k : ℕ) → k < n → T (f k)
passed f zero t k h = absurd (not-suc-le-zero h)
passed f (suc n) t k h =
    dite (ℕ_discrete k n) (λ (e : k ≡ n). rw e (both (f n) (below f n) t).0)
    (λ (e : k ≡ n → ⊥). passed f n (both (f n) (below f n) t).1 k (omega arith))

-- A test of every two numbers below m and n.
pub passed_two : (f : ℕ → ℕ → Bool) (m n : ℕ) → T (below (λ i. below (f i) n) m) → (j k : ℕ) → j < m → k < n → T (f j k)
passed_two f m n t j k hj hk = passed (f j) n (passed (λ i. below (f i) n) m t j hj) k hk

-- A test of every element of a list: all are bytes.
abbrev pub all_bytes : List ℕ → Bool
all_bytes [] = true
all_bytes (b ∷ s) = ltb b 256 && all_bytes s

pub all_bytes_lem : (s : List ℕ) → T (all_bytes s) → Below 256 s
all_bytes_lem [] t i = lit< tt
all_bytes_lem (b ∷ s) t zero = ltb→lt b 256 (both (ltb b 256) (all_bytes s) t).0
all_bytes_lem (b ∷ s) t (suc i) = all_bytes_lem s (both (ltb b 256) (all_bytes s) t).1 i
