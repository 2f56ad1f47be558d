-- Bytes as one number, and the remainder of a word of eight bytes.
-- Assumes nothing.
use Rattle.std.specs.Prelude.{List, ℕ, zero, suc, ◌+◌, ◌*◌, ◌/◌, ◌%◌, get_or}
use Rattle.pec.specs.Remainder.{byte_step}

-- The n bytes of s from place i on as a number, the highest first.
unfoldable pub number_at : List ℕ → (i n : ℕ) → ℕ
number_at s i zero = 0
number_at s i (suc n) = number_at s i n * 256 + get_or s (i + n) 0

-- The last n bytes of the word w come to the remainder r, the highest first.
unfoldable pub word_from : (r n w : ℕ) → ℕ
word_from r zero w = r
word_from r (suc n) w = byte_step (word_from r n (w / 256)) (w % 256)

-- The remainder of a word: of its eight bytes, the highest first.
abbrev pub word_pec : ℕ → ℕ
word_pec w = word_from 0 8 w
