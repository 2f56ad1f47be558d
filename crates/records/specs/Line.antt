-- The lines that the bench program writes, to the letter (document 01, "Bench program"), in ASCII.
-- Assumes nothing.
use Rattle.std.specs.Prelude.{ℕ, ◌+◌, ◌≡◌, Bool, true, false, List, [], ◌∷◌, ◌++◌, leb, length}
use Rattle.octets.specs.Bytes.{laid}
use Rattle.octets.specs.Choice.{pick}
use Rattle.records.specs.Decimal.{decimal}
use Rattle.records.specs.declared.line.Line.{Line}
use Rattle.records.specs.declared.line.Line.TheVariants.{Done, Held, Refused}

-- ` done slot `
abbrev pub done_slot : List ℕ
done_slot = 32 ∷ 100 ∷ 111 ∷ 110 ∷ 101 ∷ 32 ∷ 115 ∷ 108 ∷ 111 ∷ 116 ∷ 32 ∷ []

-- ` length `
abbrev pub length_word : List ℕ
length_word = 32 ∷ 108 ∷ 101 ∷ 110 ∷ 103 ∷ 116 ∷ 104 ∷ 32 ∷ []

-- ` held slot `
abbrev pub held_slot : List ℕ
held_slot = 32 ∷ 104 ∷ 101 ∷ 108 ∷ 100 ∷ 32 ∷ 115 ∷ 108 ∷ 111 ∷ 116 ∷ 32 ∷ []

-- ` bytes `
abbrev pub bytes_word : List ℕ
bytes_word = 32 ∷ 98 ∷ 121 ∷ 116 ∷ 101 ∷ 115 ∷ 32 ∷ []

-- ` refused `
abbrev pub refused_word : List ℕ
refused_word = 32 ∷ 114 ∷ 101 ∷ 102 ∷ 117 ∷ 115 ∷ 101 ∷ 100 ∷ 32 ∷ []

-- `arrivals `
abbrev pub arrivals_word : List ℕ
arrivals_word = 97 ∷ 114 ∷ 114 ∷ 105 ∷ 118 ∷ 97 ∷ 108 ∷ 115 ∷ 32 ∷ []

-- ` packets `
abbrev pub packets_word : List ℕ
packets_word = 32 ∷ 112 ∷ 97 ∷ 99 ∷ 107 ∷ 101 ∷ 116 ∷ 115 ∷ 32 ∷ []

-- a word and its number
unfoldable pub named : List ℕ → ℕ → List ℕ
named word n = word ++ decimal n

-- "A restart adds ` again`": at the end of the line, before its line feed
abbrev pub ending : Bool → List ℕ
ending true = 32 ∷ 97 ∷ 103 ∷ 97 ∷ 105 ∷ 110 ∷ 10 ∷ []
ending false = 10 ∷ []

-- two words, each with its number, and the ending
unfoldable pub pair : (first : List ℕ) (a : ℕ) (second : List ℕ) (b : ℕ) (again : Bool) → List ℕ
pair first a second b again = named first a ++ (named second b ++ ending again)

-- line N: `1 done slot 0 length 1`, "a held line is `N held slot S bytes B`", `2 refused 3`
unfoldable pub line_bytes : (number : ℕ) → Line → List ℕ
line_bytes n (Done slot size again) = decimal n ++ pair done_slot slot length_word size again
line_bytes n (Held slot bytes again) = decimal n ++ pair held_slot slot bytes_word bytes again
line_bytes n (Refused number) = decimal n ++ (named refused_word number ++ ending false)

-- `arrivals 2 packets 1`
unfoldable pub last_line : (arrivals packets : ℕ) → List ℕ
last_line arrivals packets = pair arrivals_word arrivals packets_word packets false

-- a line is put whole or not at all
unfoldable pub put : (out : List ℕ) (at : ℕ) (line : List ℕ) → List ℕ
put out at line = pick (leb (at + length line) (length out)) (laid out at line) out

-- the place after a line; where it was not put, the place stays (a line has a byte at least)
unfoldable pub place_after : (out : List ℕ) (at : ℕ) (line : List ℕ) → ℕ
place_after out at line = pick (leb (at + length line) (length out)) (at + length line) at

-- bytes laid from a place on, and the place behind them
pub record Placed (before : List ℕ) (at : ℕ) (bytes : List ℕ) (behind : ℕ) (after : List ℕ) : Type 0 where
  pub place : behind ≡ at + length bytes
  pub stored : after ≡ laid before at bytes
