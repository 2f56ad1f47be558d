-- PECs worked out by other means, as the definitions give them: a reader's first check of the definitions. Those that
-- document 01 gives stand in the demands' list of numbers.
-- Assumes nothing.
use mathlib.Core.Path.{◌≡◌, refl}
use mathlib.Core.List.{[], ◌∷◌}
use Rattle.pec.specs.Remainder.{poly_step, eight_steps, byte_step, pec_from, pec_of}

pub record Vectors : Type 0 where
  -- the digits 1 to 9 in ASCII: the check value that is published for this polynomial with start 0, nothing reversed
  pub digits : pec_of (0x31 ∷ 0x32 ∷ 0x33 ∷ 0x34 ∷ 0x35 ∷ 0x36 ∷ 0x37 ∷ 0x38 ∷ 0x39 ∷ []) ≡ 0xF4
  -- one byte, unlike itself with its bits reversed; and a zero byte behind another, which counts too
  pub byte : pec_of (0x5A ∷ []) ≡ 0x81
  pub zero_behind : pec_of (0xC3 ∷ 0x00 ∷ []) ≡ 0xD2

pub vectors : Vectors
unfolding poly_step eight_steps byte_step pec_from pec_of
vectors = record { digits = refl; byte = refl; zero_behind = refl }
