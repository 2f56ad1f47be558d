-- A ring as a list that starts at a pointer: what is read, and what is stored, may run over the ring's end.
-- Assumes nothing.
use Rattle.std.specs.Prelude.{ℕ, ◌-◌, List, ◌++◌, length, take, drop}
use Rattle.octets.specs.Bytes.{fronted}

-- the ring read once round, from the pointer on
unfoldable pub round_from : ℕ → List ℕ → List ℕ
round_from pointer ring = drop pointer ring ++ take pointer ring

-- bytes stored from the pointer on, the rest unchanged: rounded to the pointer, put to the front, rounded back
unfoldable pub stored : List ℕ → ℕ → List ℕ → List ℕ
stored ring pointer bytes = round_from (length ring - pointer) (fronted (round_from pointer ring) bytes)
