-- The input as the bench program meets it: read by read, cut anywhere.
-- Assumes nothing.
use Rattle.std.specs.Prelude.{ℕ, Bool, true, List, [], ◌∷◌, ◌++◌, ltb, length}

-- all that came; the last read stands first
unfoldable pub came_in : List (List ℕ) → List ℕ
came_in [] = []
came_in (read ∷ earlier) = came_in earlier ++ read

-- nothing was read yet, or the last read brought something: the input has not ended
abbrev pub goes_on : List (List ℕ) → Bool
goes_on [] = true
goes_on (read ∷ earlier) = ltb 0 (length read)
