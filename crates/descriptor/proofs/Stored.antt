-- A stored configuration is right exactly if some descriptor gives it: what reading finds is allowed (`found_allowed`),
-- and for what is allowed there is a window whose descriptor gives it.
-- Assumes nothing.
use mathlib.Core.Path.{◌≡◌, refl}
use mathlib.Core.Bool.{Bool, true, ◌&&◌}
use mathlib.Core.List.{List, [], ◌∷◌, ◌++◌}
use Prim.Native.Nat.{ℕ, ◌-◌, ◌*◌, ◌/◌, ◌%◌, ◌^◌, ◌≤◌, ◌<◌}
use native.Mathlib.Omega.{arith}
use borrow.Author.Tests.{ltb-true, le-leb}
use lib.Dec.{ltb}
use lib.ListN.{length, replicate, length-replicate}
use Rattle.octets.specs.Bytes.{Below}
use Rattle.octets.specs.Words.{high_first, word_at, word_bytes}
use Rattle.octets.proofs.Choice.{both}
use Rattle.mmbi.specs.Pointers.{length_right}
use Rattle.octets.proofs.Words.{word_back}
use Rattle.octets.proofs.Below.{below-nil, below-cons, below-append, below_zeros, below_word}
use Rattle.descriptor.specs.declared.configuration.Configuration.{Configuration}
use Rattle.descriptor.specs.Configuration.{on_units, allowed}
use Rattle.descriptor.specs.Reading.{found, signature_right, base_at, configuration_in, described_of}
use Rattle.descriptor.proofs.Configurations.{allowed_facts}
use Rattle.mmbi.proofs.PointerNumbers.{length_facts}

unit : (n : ℕ) → n * 8 % 8 ≡ 0
unit n = omega arith

-- whatever a window holds, the bases that are read from it stand on units: reading refuses none for that
pub read_on_units : (s : List ℕ) → on_units (configuration_in s) ≡ true
unfolding configuration_in
read_on_units s =
    let word = word_at high_first s in
    rw (unit (word 8 % 536870912), unit (word 12 % 536870912), unit (word 32 % 536870912), unit (word 36 % 536870912))

-- what the types say of a stored configuration: bases of 32 bits
pub record Bases (c : Configuration) : Type 0 where
  pub b2h : c.b2h.offset < 2 ^ 32
  pub h2b : c.h2b.offset < 2 ^ 32
  pub ros : c.ros < 2 ^ 32
  pub rws : c.rws < 2 ^ 32

-- words one after the other
words : List ℕ → List ℕ
words [] = []
words (w ∷ l) = word_bytes high_first w ++ words l

words_below : (l : List ℕ) → Below 256 (words l)
unfolding words
words_below [] = below-nil
words_below (w ∷ l) = below-append (word_bytes high_first w) (words l) (below_word high_first w) (words_below l)

-- `#MMBI$` and version 1; the type; every reserved bit is clear
abbrev signed : List ℕ
signed = 35 ∷ 77 ∷ 77 ∷ 66 ∷ 73 ∷ 36 ∷ 1 ∷ 0 ∷ []

abbrev typed : List ℕ
typed = 1 ∷ 0 ∷ 0 ∷ 0 ∷ 0 ∷ 0 ∷ 0 ∷ 0 ∷ []

abbrev rings : Configuration → List ℕ
rings c = words ((c.b2h.offset / 8) ∷ (c.h2b.offset / 8) ∷ c.b2h.length ∷ c.h2b.length ∷ [])

abbrev structures : Configuration → List ℕ
structures c = words ((c.ros / 8) ∷ (c.rws / 8) ∷ [])

-- the first 40 bytes of a descriptor that gives this configuration, and zeros up to the window's end
window_for : ℕ → Configuration → List ℕ
window_for n c = signed ++ (rings c ++ (typed ++ (structures c ++ replicate (n - 40) 0)))

-- bytes by one test
small : List ℕ → Bool
small [] = true
small (b ∷ s) = ltb b 256 && small s

small_below : (s : List ℕ) → small s ≡ true → Below 256 s
unfolding small
small_below [] e = below-nil
small_below (b ∷ s) e =
    let h = both (ltb b 256) (small s) e in
    below-cons b s (ltb-true b 256 h.0) (small_below s h.1)

-- a base in units, and back in bytes
base_back : (b : ℕ) → b % 8 ≡ 0 → b < 2 ^ 32 → b / 8 % 536870912 * 8 ≡ b
base_back b h k = omega arith

module _ (n : ℕ) (c : Configuration) where
  for_length : 40 ≤ n → length (window_for n c) ≡ n
  unfolding window_for words word_bytes
  for_length h = rw length-replicate (omega arith)

  for_bytes : Below 256 (window_for n c)
  unfolding window_for small
  for_bytes =
      let last : List ℕ = structures c ++ replicate (n - 40) 0 in
      below-append signed (rings c ++ (typed ++ last)) (small_below signed refl)
      (below-append (rings c) (typed ++ last) (words_below _)
      (below-append typed last (small_below typed refl)
      (below-append (structures c) _ (words_below _) (below_zeros (n - 40)))))

  module _ (ok : allowed n c ≡ true) (bases : Bases c) where
    base : (b : ℕ) → b % 8 ≡ 0 → b < 2 ^ 32 → word_at high_first
        (word_bytes high_first (b / 8) ++ []) 0 % 536870912 * 8 ≡ b
    base b h k = rw (word_back high_first (b / 8) [] (omega arith)) (base_back b h k)

    size : (l : ℕ) → length_right l ≡ true → word_at high_first (word_bytes high_first l ++ []) 0 ≡ l
    size l h = word_back high_first l [] (omega (arith, length_facts l h))

    for_configuration : configuration_in (window_for n c) ≡ c
    unfolding configuration_in window_for words word_at word_bytes
    for_configuration =
        let a = allowed_facts n c ok in
        let u = a.units in
        let b2h : base_at (window_for n c) 8 ≡ c.b2h.offset = base c.b2h.offset u.b2h bases.b2h in
        let h2b : base_at (window_for n c) 12 ≡ c.h2b.offset = base c.h2b.offset u.h2b bases.h2b in
        let one : word_at high_first (window_for n c) 16 ≡ c.b2h.length = size c.b2h.length a.b2h_right in
        let other : word_at high_first (window_for n c) 20 ≡ c.h2b.length = size c.h2b.length a.h2b_right in
        let ros : base_at (window_for n c) 32 ≡ c.ros = base c.ros u.ros bases.ros in
        let rws : base_at (window_for n c) 36 ≡ c.rws = base c.rws u.rws bases.rws in
        λ i. record {
          b2h = record { offset = b2h i; length = one i };
          h2b = record { offset = h2b i; length = other i };
          ros = ros i;
          rws = rws i;
        }

    for_described : described_of (window_for n c) ≡ found c
    unfolding described_of window_for words signature_right word_bytes
    for_described =
        let long : 64 ≤ n = (allowed_facts n c ok).descriptor in
        let size : length (window_for n c) ≡ n = for_length (omega arith) in
        rw (size, le-leb 64 n long, for_configuration, ok)

    -- it has n bytes, and its descriptor gives this configuration
    pub given_by_a_descriptor : (s : List ℕ) × (length s ≡ n) × Below 256 s × (described_of s ≡ found c)
    given_by_a_descriptor =
        (window_for n c, for_length (omega (arith, (allowed_facts n c ok).descriptor)), for_bytes, for_described)
