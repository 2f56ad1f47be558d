-- The order of the checks on literal rings: one input for each neighbouring pair, which fails both, and the limits.
-- Assumes nothing.
use mathlib.Core.Path.{◌≡◌, refl}
use mathlib.Core.Bool.{true, false}
use mathlib.Core.List.{List, [], ◌∷◌, ◌++◌, map}
use Prim.Native.Nat.{ℕ}
use lib.ListN.{replicate}
use Rattle.octets.specs.Words.{word_at}
use Rattle.ring.specs.Numbers.{filled_of, room_of, next_of}
use Rattle.ring.specs.Reading as reading
use Rattle.ring.specs.Round.{round_from}
use Rattle.ring.specs.Writing as writing

-- a ring of 128 bytes that starts with this header
abbrev headed : ℕ → ℕ → ℕ → ℕ → List ℕ
headed a b c d = a ∷ b ∷ c ∷ d ∷ replicate 124 238

-- a ring of 128 bytes whose last 12 are a packet of 5
abbrev at_the_end : List ℕ
at_the_end = replicate 116 238 ++ (0 ∷ 0 ∷ 11 ∷ 4 ∷ replicate 8 238)

-- "1 (length outside the rule, or not that of the lent ring), 2 (output under 68), 11, 12, EMPTY, 13, 14, 3"
pub record Reading : Type 0 where
  pub one_two : reading.found_of 64 [] 128 true 0 12 67 ≡ reading.refused 1
  pub two_eleven : reading.found_of 64 (headed 0 0 11 4) 128 false 0 12 67 ≡ reading.refused 2
  pub eleven_twelve : reading.found_of 64 (headed 0 0 11 4) 128 false 2 12 68 ≡ reading.refused 11
  pub twelve_empty : reading.found_of 64 (headed 0 0 11 4) 128 true 2 2 68 ≡ reading.refused 12
  pub empty_thirteen : reading.found_of 64 (headed 255 0 11 4) 128 true 0 0 68 ≡ reading.empty
  pub thirteen_fourteen : map (λ (c : ℕ). reading.found_of 64 (headed 0 0 c 5) 128 true 0 8 68) (8 ∷ 1 ∷ [])
      ≡ reading.refused 13 ∷ reading.refused 13 ∷ []
  pub fourteen_three : reading.found_of 64 (headed 0 0 0 5) 128 true 0 8 68 ≡ reading.skipped 14 4
  -- packets of 4, 5, 68 and 69 bytes
  pub sizes : map (λ (c : ℕ). reading.found_of 64 (headed 0 0 c 4) 128 true 0 76 68) (4 ∷ 11 ∷ 68 ∷ 75 ∷ [])
      ≡ reading.skipped 3 8 ∷ reading.packet 5 12 ∷ reading.packet 68 72 ∷ reading.skipped 3 76 ∷ []
  -- a pointer at 124, and at the length
  pub pointers : map (λ (read : ℕ). reading.found_of 64 (headed 0 0 11 4) 128 true read 124 68) (124 ∷ 128 ∷ [])
      ≡ reading.empty ∷ reading.refused 12 ∷ []
  -- up to the ring's end: filled 12, 16, 4 and 8
  pub ends : map (λ (write : ℕ). reading.found_of 64 at_the_end 128 true 116 write 68) (0 ∷ 4 ∷ 120 ∷ 124 ∷ [])
      ≡ reading.packet 5 0 ∷ reading.packet 5 0 ∷ reading.refused 13 ∷ reading.refused 13 ∷ []

pub reading_order : Reading
unfolding reading.found_of reading.judged filled_of next_of round_from word_at
reading_order =
    record {
      one_two = refl;
      two_eleven = refl;
      eleven_twelve = refl;
      twelve_empty = refl;
      empty_thirteen = refl;
      thirteen_fourteen = refl;
      fourteen_three = refl;
      sizes = refl;
      pointers = refl;
      ends = refl;
    }

-- "Writing: 1, 3, 11, 12, 2 (needs more than room)"
pub record Writing : Type 0 where
  pub one_three : writing.entered_of 64 127 128 true 0 0 4 ≡ writing.refused 1
  pub three_eleven : writing.entered_of 64 128 128 false 0 0 4 ≡ writing.refused 3
  pub eleven_twelve : writing.entered_of 64 128 128 false 2 0 5 ≡ writing.refused 11
  pub twelve_two : writing.entered_of 64 128 128 true 2 0 68 ≡ writing.refused 12
  -- room for 8, for 12, and for none
  pub rooms : map (λ (read : ℕ). writing.entered_of 64 128 128 true read 0 5) (12 ∷ 16 ∷ 4 ∷ [])
      ≡ writing.refused 2 ∷ writing.entered 12 ∷ writing.refused 2 ∷ []
  pub sizes : map (writing.entered_of 64 128 128 true 0 0) (4 ∷ 5 ∷ 68 ∷ 69 ∷ [])
      ≡ writing.refused 3 ∷ writing.entered 12 ∷ writing.entered 72 ∷ writing.refused 3 ∷ []
  -- 12 bytes that end before the ring's end, at it and over it
  pub ends : map (λ (write : ℕ). writing.entered_of 64 128 128 true write write 5) (112 ∷ 116 ∷ 120 ∷ [])
      ≡ writing.entered 124 ∷ writing.entered 0 ∷ writing.entered 4 ∷ []
  -- "a multiple of 4 from 128 to 65,536"
  pub lengths : map (λ (n : ℕ). writing.entered_of 64 n n true 0 0 5) (124 ∷ 128 ∷ 130 ∷ 65536 ∷ 65540 ∷ 131200 ∷ [])
      ≡ writing.refused 1 ∷ writing.entered 12 ∷ writing.refused 1 ∷ writing.entered 12 ∷ writing.refused 1
      ∷ writing.refused 1 ∷ []

pub writing_order : Writing
unfolding writing.entered_of filled_of room_of next_of
writing_order =
    record {
      one_three = refl;
      three_eleven = refl;
      eleven_twelve = refl;
      twelve_two = refl;
      rooms = refl;
      sizes = refl;
      ends = refl;
      lengths = refl;
    }
