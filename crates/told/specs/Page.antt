-- A page's state between its lines.
-- Assumes nothing.
use Rattle.std.specs.Prelude.{ℕ, List, [], ◌∷◌, Bool, true, false}

-- a line has begun where something ends it
abbrev pub is_begun : List ℕ → Bool
is_begun [] = false
is_begun (_ ∷ _) = true
