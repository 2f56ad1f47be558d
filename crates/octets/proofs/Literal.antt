-- Words and laid bytes written out, since a definition and its code could be wrong alike.
-- Assumes nothing.
use mathlib.Core.Path.{◌≡◌, refl}
use mathlib.Core.List.{List, [], ◌∷◌}
use Prim.Native.Nat.{ℕ}
use Rattle.octets.specs.Bytes.{part, laid}
use Rattle.octets.specs.Words.{low_first, high_first, word_at, word_bytes}

abbrev five : List ℕ
five = 0xFF ∷ 1 ∷ 2 ∷ 3 ∷ 4 ∷ []

-- two bytes from place 3 on; of three from place 4 on the one that there is; none past the end
pub parts : (part five 3 2 ≡ 3 ∷ 4 ∷ []) × (part five 4 3 ≡ 4 ∷ []) × (part five 5 1 ≡ [])
parts = (refl, refl, refl)

-- lowest byte first
pub low_read : word_at low_first five 1 ≡ 0x04030201
unfolding word_at
low_read = refl

pub low_bytes : word_bytes low_first 0x04030201 ≡ 1 ∷ 2 ∷ 3 ∷ 4 ∷ []
unfolding word_bytes
low_bytes = refl

-- highest byte first
pub high_read : word_at high_first five 1 ≡ 0x01020304
unfolding word_at
high_read = refl

pub high_bytes : word_bytes high_first 0x01020304 ≡ 1 ∷ 2 ∷ 3 ∷ 4 ∷ []
unfolding word_bytes
high_bytes = refl

-- a byte past the end counts as 0
pub high_past : word_at high_first five 2 ≡ 0x02030400
unfolding word_at
high_past = refl

-- and one that would be laid there falls off
pub laid_over : laid five 3 (7 ∷ 8 ∷ 9 ∷ []) ≡ 0xFF ∷ 1 ∷ 2 ∷ 7 ∷ 8 ∷ []
unfolding laid
laid_over = refl
