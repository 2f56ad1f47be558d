-- A failure's words without its number: "No space left on device (os error 28)" up to its mark.
-- Assumes nothing.
use Rattle.std.specs.Prelude.{ℕ, ◌<◌, ◌≡◌, ◌⊎◌, List, ◌++◌, length, codes}
use Rattle.std.specs.Str.Pattern.{LacksTextAt}

-- what stands between the words and the number
abbrev pub number_mark : List ℕ
number_mark = codes " (os error "

-- the reason is the text before its first mark, or all of it where there is none
abbrev pub IsReason : List ℕ → List ℕ → Type 0
IsReason text reason = ((i : ℕ) → i < length reason → LacksTextAt number_mark text i)
    × ((reason ≡ text) ⊎ ((rest : List ℕ) × (text ≡ reason ++ (number_mark ++ rest))))
