-- Decimal numbers in ASCII, as document 01's lines have them.
-- Assumes nothing.
use Rattle.std.specs.Prelude.{ℕ, zero, suc, ◌+◌, ◌/◌, ◌%◌, List, [], ◌∷◌, ◌++◌, ltb}
use Rattle.octets.specs.Choice.{pick}

-- at most so many digits, the highest first and none before the first that counts; the letter 0 is 48
unfoldable pub digits : (most n : ℕ) → List ℕ
digits zero n = []
digits (suc most) n = pick (ltb n 10) ((48 + n) ∷ []) (digits most (n / 10) ++ ((48 + n % 10) ∷ []))

-- a number of 64 bits has at most 20
unfoldable pub decimal : ℕ → List ℕ
decimal n = digits 20 n
