-- Document 01's sample ("Numbers to check"), as the definitions give it: its records, its lines to the letter, and a
-- few lines more.
-- Assumes nothing.
use mathlib.Core.Path.{◌≡◌, refl}
use mathlib.Core.Bool.{true, false}
use mathlib.Core.List.{[], ◌∷◌}
use Rattle.records.specs.declared.line.Line.TheVariants.{Done, Held, Refused}
use Rattle.records.specs.declared.record.Record.TheVariants.{Whole, Cut, End}
use Rattle.records.specs.Record.{record_at, walk, records_of, rest_of}
use Rattle.records.specs.Decimal.{digits, decimal}
use Rattle.records.specs.Line.{named, pair, line_bytes, last_line}

-- "For the good frame above (length byte 0A), then `01 00`"; an empty frame, and a last record cut short
pub record Records : Type 0 where
  pub sample : records_of (0x0A ∷ 0x40 ∷ 0x0F ∷ 0x06 ∷ 0x23 ∷ 0x01 ∷ 0x09 ∷ 0x0A ∷ 0xC8 ∷ 0x00 ∷ 0x71 ∷ 0x01 ∷ 0x00
      ∷ []) ≡ (0x40 ∷ 0x0F ∷ 0x06 ∷ 0x23 ∷ 0x01 ∷ 0x09 ∷ 0x0A ∷ 0xC8 ∷ 0x00 ∷ 0x71 ∷ []) ∷ (0x00 ∷ []) ∷ []
  pub empty_frames : records_of (0x00 ∷ 0x00 ∷ []) ≡ [] ∷ [] ∷ []
  pub cut_short : records_of (0x01 ∷ 0x00 ∷ 0x03 ∷ 0x40 ∷ 0x0F ∷ []) ≡ (0x00 ∷ []) ∷ []
  pub left_over : rest_of (0x01 ∷ 0x00 ∷ 0x03 ∷ 0x40 ∷ 0x0F ∷ []) ≡ 0x03 ∷ 0x40 ∷ 0x0F ∷ []
  pub lone_length : record_at (0x0A ∷ []) 0 ≡ Cut
  pub empty_frame : record_at (0x00 ∷ []) 0 ≡ Whole 1 0
  pub nothing : record_at [] 0 ≡ End

pub records : Records
unfolding record_at walk records_of rest_of
records =
    record {
      sample = refl;
      empty_frames = refl;
      cut_short = refl;
      left_over = refl;
      lone_length = refl;
      empty_frame = refl;
      nothing = refl;
    }

-- each line with its line feed
pub record Lines : Type 0 where
  -- `1 done slot 0 length 1`
  pub done : line_bytes 1 (Done 0 1 false)
      ≡ 49 ∷ 32 ∷ 100 ∷ 111 ∷ 110 ∷ 101 ∷ 32 ∷ 115 ∷ 108 ∷ 111 ∷ 116 ∷ 32 ∷ 48 ∷ 32 ∷ 108 ∷ 101 ∷ 110 ∷ 103 ∷ 116 ∷ 104
      ∷ 32 ∷ 49 ∷ 10 ∷ []
  -- `2 refused 3`
  pub refused : line_bytes 2 (Refused 3) ≡ 50 ∷ 32 ∷ 114 ∷ 101 ∷ 102 ∷ 117 ∷ 115 ∷ 101 ∷ 100 ∷ 32 ∷ 51 ∷ 10 ∷ []
  -- `arrivals 2 packets 1`
  pub last : last_line 2 1 ≡ 97 ∷ 114 ∷ 114 ∷ 105 ∷ 118 ∷ 97 ∷ 108 ∷ 115 ∷ 32 ∷ 50 ∷ 32 ∷ 112 ∷ 97 ∷ 99 ∷ 107 ∷ 101
      ∷ 116 ∷ 115 ∷ 32 ∷ 49 ∷ 10 ∷ []
  -- `40 held slot 3 bytes 64`
  pub held : line_bytes 40 (Held 3 64 false)
      ≡ 52 ∷ 48 ∷ 32 ∷ 104 ∷ 101 ∷ 108 ∷ 100 ∷ 32 ∷ 115 ∷ 108 ∷ 111 ∷ 116 ∷ 32 ∷ 51 ∷ 32 ∷ 98 ∷ 121 ∷ 116 ∷ 101 ∷ 115
      ∷ 32 ∷ 54 ∷ 52 ∷ 10 ∷ []
  -- `1000000 done slot 1 length 130 again`
  pub done_again : line_bytes 1000000 (Done 1 130 true)
      ≡ 49 ∷ 48 ∷ 48 ∷ 48 ∷ 48 ∷ 48 ∷ 48 ∷ 32 ∷ 100 ∷ 111 ∷ 110 ∷ 101 ∷ 32 ∷ 115 ∷ 108 ∷ 111 ∷ 116 ∷ 32 ∷ 49 ∷ 32 ∷ 108
      ∷ 101 ∷ 110 ∷ 103 ∷ 116 ∷ 104 ∷ 32 ∷ 49 ∷ 51 ∷ 48 ∷ 32 ∷ 97 ∷ 103 ∷ 97 ∷ 105 ∷ 110 ∷ 10 ∷ []
  -- `18446744073709551615 held slot 0 bytes 1024 again`
  pub held_again : line_bytes 18446744073709551615 (Held 0 1024 true)
      ≡ 49 ∷ 56 ∷ 52 ∷ 52 ∷ 54 ∷ 55 ∷ 52 ∷ 52 ∷ 48 ∷ 55 ∷ 51 ∷ 55 ∷ 48 ∷ 57 ∷ 53 ∷ 53 ∷ 49 ∷ 54 ∷ 49 ∷ 53 ∷ 32 ∷ 104
      ∷ 101 ∷ 108 ∷ 100 ∷ 32 ∷ 115 ∷ 108 ∷ 111 ∷ 116 ∷ 32 ∷ 48 ∷ 32 ∷ 98 ∷ 121 ∷ 116 ∷ 101 ∷ 115 ∷ 32 ∷ 49 ∷ 48 ∷ 50
      ∷ 52 ∷ 32 ∷ 97 ∷ 103 ∷ 97 ∷ 105 ∷ 110 ∷ 10 ∷ []
  -- `arrivals 0 packets 0`
  pub none : last_line 0 0 ≡ 97 ∷ 114 ∷ 114 ∷ 105 ∷ 118 ∷ 97 ∷ 108 ∷ 115 ∷ 32 ∷ 48 ∷ 32 ∷ 112 ∷ 97 ∷ 99 ∷ 107 ∷ 101
      ∷ 116 ∷ 115 ∷ 32 ∷ 48 ∷ 10 ∷ []

pub lines : Lines
unfolding digits decimal named pair line_bytes last_line
lines =
    record { done = refl; refused = refl; last = refl; held = refl; done_again = refl; held_again = refl; none = refl }
