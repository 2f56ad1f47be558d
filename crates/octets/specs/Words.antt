-- Words of four bytes: PCC's stand with the lowest byte first, MMBI's with the highest (003, 4.2: "Big Endian").
-- Assumes nothing.
use Rattle.std.specs.Prelude.{ℕ, ◌+◌, ◌*◌, ◌/◌, ◌%◌, List, [], ◌∷◌, get_or}

-- which byte of a word stands first
pub data Order : Type 0 where
  low_first : Order
  high_first : Order

-- four bytes, turned round where the highest stands first
abbrev pub arranged : Order → ℕ → ℕ → ℕ → ℕ → List ℕ
arranged low_first a b c d = a ∷ b ∷ c ∷ d ∷ []
arranged high_first a b c d = d ∷ c ∷ b ∷ a ∷ []

-- the number that digits to the base 256 make, the lowest first
abbrev pub value : List ℕ → ℕ
value [] = 0
value (b ∷ s) = b + 256 * value s

-- the word at place `at` of s; a byte past the end counts as 0
unfoldable pub word_at : Order → List ℕ → ℕ → ℕ
word_at o s at = value (arranged o (get_or s at 0) (get_or s (at + 1) 0) (get_or s (at + 2) 0) (get_or s (at + 3) 0))

-- the four bytes of a word
unfoldable pub word_bytes : Order → ℕ → List ℕ
word_bytes o w = arranged o (w % 256) (w / 256 % 256) (w / 65536 % 256) (w / 16777216 % 256)
