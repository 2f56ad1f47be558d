-- A check order as data: document 01's own line, "1, 3, 4, 5, ..". The first check whose test fails gives the answer.
-- Assumes nothing.
use Rattle.std.specs.Prelude.{◌≡◌, Bool, true, List, [], ◌∷◌}
use Rattle.octets.specs.Choice.{pick}

infix 68 ◌unless◌
-- this answer, unless the test holds
pub data Check (A : Type 0) : Type 0 where
  ◌unless◌ : A → Bool → Check A

-- the answer of the first check that fails; `last` where none does
abbrev pub first_failing : {A : Type 0} → List (Check A) → A → A
first_failing [] last = last
first_failing ((answer unless test) ∷ order) last = pick test (first_failing order last) answer

-- every test holds
abbrev pub Hold : {A : Type 0} → List (Check A) → Type 0
Hold [] = Unit
Hold ((answer unless test) ∷ order) = (test ≡ true) × Hold order
