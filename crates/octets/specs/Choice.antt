-- How a definition chooses: by a test, or between two bounds.
-- Assumes nothing.
use Rattle.std.specs.Prelude.{ℕ, Bool, true, false, ◌&&◌, leb}

-- the first answer where the test holds, else the second
abbrev pub pick : {A : Type 0} → Bool → A → A → A
pick true a b = a
pick false a b = b

-- n is one of low, .., high
abbrev pub within : ℕ → ℕ → ℕ → Bool
within low high n = leb low n && leb n high
