-- A word of Host_RWS or Host_ROS: a pointer and two flags (003, Tables 3 and 4).
-- Assumes nothing.
use Rattle.std.specs.Prelude.{ℕ, ◌+◌, ◌*◌, ◌/◌, ◌%◌, Bool, eqb}
use Rattle.octets.specs.Choice.{pick}
use Rattle.mmbi.specs.declared.word.Word.{Word}

-- "[31:2] .. Bits [31:2] of the offset .. Bits [1:0] of the offset are assumed to always be zero (for 4-byte
-- alignment)."
abbrev pub pointer_in : ℕ → ℕ
pointer_in n = n / 4 * 4

-- "[1] Host Interface Up (H_UP)", "[1] (B)MC Interface Up (B_UP)", and in the second words "[1] Reserved"
abbrev pub bit1In : ℕ → Bool
bit1In n = eqb (n / 2 % 2) 1

-- "[0] Host Reset Request (H_RST)", "[0] (B)MC Reset Request (B_RST)", and in the second words "[0] Host Ready
-- (H_RDY)", "[0] (B)MC Ready (B_RDY)"
abbrev pub bit0In : ℕ → Bool
bit0In n = eqb (n % 2) 1

-- a word taken apart
unfoldable pub word_of : ℕ → Word
word_of n = record { pointer = pointer_in n; bit1 = bit1In n; bit0 = bit0In n }

-- and put together: "Bits [31:2] of the offset", whatever its others
unfoldable pub number_of : Word → ℕ
number_of w = w.pointer / 4 % 1073741824 * 4 + pick w.bit1 2 0 + pick w.bit0 1 0
