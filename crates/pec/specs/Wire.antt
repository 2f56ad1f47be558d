-- What a frame is on the wire, and which changes of its wire bits the PEC finds.
-- Document 01, "SMBus frame"; demand 3; document 02, #113.
-- Assumes nothing.
use Rattle.std.specs.Prelude.{◌≡◌, List, [], ◌∷◌, ◌++◌, ℕ, ◌+◌, ◌/◌, ◌%◌, ◌≤◌, ◌<◌, eqb, length, get_or}
use Rattle.octets.specs.Choice.{pick}

-- "highest bit of each byte first"
unfoldable pub bits_of : ℕ → List ℕ
bits_of b =
    b / 128 % 2 ∷ b / 64 % 2 ∷ b / 32 % 2 ∷ b / 16 % 2 ∷ b / 8 % 2 ∷ b / 4 % 2 ∷ b / 2 % 2 ∷ b % 2 ∷ []

-- The bits of all bytes in wire order, across the bytes' borders.
unfoldable pub wire : List ℕ → List ℕ
wire [] = []
wire (b ∷ s) = bits_of b ++ wire s

-- One or more bits changed, all within so many neighbouring bits in wire order: t is s so changed.
pub record Change (width : ℕ) (s t : List ℕ) : Type 0 where
  pub lengths : length s ≡ length t
  pub from : ℕ
  pub before : (i : ℕ) → i < from → get_or (wire s) i 0 ≡ get_or (wire t) i 0
  pub after : (i : ℕ) → from + width ≤ i → get_or (wire s) i 0 ≡ get_or (wire t) i 0
  pub differs : s ≡ t → ⊥

-- "one or more bits changed, all within eight neighbouring bits in wire order"
abbrev pub WindowChange : List ℕ → List ℕ → Type 0
WindowChange s t = Change 8 s t

-- In how many places two lists of bits differ, as far as both go.
unfoldable pub differences : List ℕ → List ℕ → ℕ
differences [] ys = 0
differences (x ∷ xs) [] = 0
differences (x ∷ xs) (y ∷ ys) = pick (eqb x y) 0 1 + differences xs ys

-- "one, three, or any other odd number of bits changed, anywhere, the PEC included": t is s so changed.
pub record OddChange (s t : List ℕ) : Type 0 where
  pub lengths : length s ≡ length t
  pub odd : differences (wire s) (wire t) % 2 ≡ 1
