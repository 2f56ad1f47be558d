-- Lists of bytes: every entry a byte, a part, one list laid over another, a list put to an output's front.
-- Assumes nothing.
use Rattle.std.specs.Prelude.{ℕ, ◌<◌, List, ◌++◌, length, get_or, take, drop}
use Rattle.std.proofs.lemmas.List.Edits.{sets}

-- every entry of s is below the limit; `Below 256 s` says that s holds bytes
abbrev pub Below : ℕ → List ℕ → Type 0
Below limit s = (i : ℕ) → get_or s i 0 < limit

-- "a part of the lent frame, not a copy" (document 01): n entries from place `at` on, fewer where the list ends before
abbrev pub part : List ℕ → ℕ → ℕ → List ℕ
part s at n = take n (drop at s)

-- `new` stored over `old`, one byte after the other from place `at` on; what would lie past the end falls off, so the
-- length stays
unfoldable pub laid : List ℕ → ℕ → List ℕ → List ℕ
laid old at new = sets old at new

-- "goes to the output's front, the rest unchanged" (document 01), of bytes that fit
unfoldable pub fronted : List ℕ → List ℕ → List ℕ
fronted out bytes = bytes ++ drop (length bytes) out
