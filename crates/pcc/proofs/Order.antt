-- The check orders on literal bytes: where two neighbouring checks both fail, the earlier one gives the number.
-- Assumes nothing.
use mathlib.Core.Path.{◌≡◌, refl}
use mathlib.Core.List.{[], ◌∷◌}
use lib.ListN.{replicate}
use Rattle.octets.specs.Bytes.{laid}
use Rattle.octets.specs.Words.{word_at, word_bytes}
use Rattle.pcc.specs.Reading.{refusal_of}
use Rattle.pcc.specs.Writing.{write_refusal}
use Rattle.pcc.proofs.Literal.{literal_region, lengthened}

-- "Reading: 1 (id over 255), 2 (region under 84), 9, 5, 3 (length not 9 to 72)."
pub record Reading : Type 0 where
  pub one_one : refusal_of 63 [] 256 ≡ 1
  pub one_two : refusal_of 64 [] 256 ≡ 1
  pub two_nine : refusal_of 64 (replicate 83 0) 3 ≡ 2
  pub nine_five : refusal_of 64 (replicate 84 0) 3 ≡ 9
  pub five_three : refusal_of 64 (laid (lengthened 8) 12 (0x4E ∷ [])) 3 ≡ 5
  pub three_three : refusal_of 64 (lengthened 73) 3 ≡ 3

pub reading : Reading
unfolding laid refusal_of word_at word_bytes literal_region lengthened
reading =
    record {
      one_one = refl;
      one_two = refl;
      two_nine = refl;
      nine_five = refl;
      five_three = refl;
      three_three = refl;
    }

-- "Writing: 1, 3, 2 (region under 84)."
pub record Writing : Type 0 where
  pub one_one : write_refusal 63 0 256 4 ≡ 1
  pub one_three : write_refusal 64 0 256 4 ≡ 1
  pub three_two : write_refusal 64 0 3 4 ≡ 3
  pub two_two : write_refusal 246 83 3 68 ≡ 2
  pub two : write_refusal 64 83 3 5 ≡ 2

pub writing : Writing
unfolding write_refusal
writing = record { one_one = refl; one_three = refl; three_two = refl; two_two = refl; two = refl }
