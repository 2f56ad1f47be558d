-- The words of Host_RWS and Host_ROS in a window, read and stored by a configuration, which may be any.
-- Assumes nothing.
use Rattle.std.specs.Prelude.{ℕ, ◌+◌, Bool, true, false, ◌&&◌, List, [], ◌∷◌, eqb, length}
use Rattle.octets.specs.Bytes.{laid}
use Rattle.octets.specs.Checks.{Check, ◌unless◌, first_failing}
use Rattle.octets.specs.Choice.{pick}
use Rattle.octets.specs.Words.{high_first, word_at, word_bytes}
use Rattle.mmbi.specs.declared.change.Act.{Act}
use Rattle.mmbi.specs.declared.change.Change.{Change}
use Rattle.mmbi.specs.declared.change.Change.TheVariants.{Nothing, Host, Controller}
use Rattle.mmbi.specs.declared.interface.Flags.{Flags}
use Rattle.mmbi.specs.declared.word.Word.{Word}
use Rattle.mmbi.specs.Changes.{changed_word}
use Rattle.mmbi.specs.Interface.{flags_of}
use Rattle.mmbi.specs.Pointers.{pointer_right}
use Rattle.mmbi.specs.Words.{word_of, number_of}
use Rattle.descriptor.specs.Configuration.{area_place, allowed}
use Rattle.descriptor.specs.declared.configuration.Configuration.{Configuration}
use Rattle.descriptor.specs.declared.configuration.Area.{Area}
use Rattle.descriptor.specs.declared.configuration.Area.TheVariants.{B2h, H2b}
use Rattle.window.specs.declared.word.Pointer.{Pointer}
use Rattle.window.specs.declared.word.Pointer.TheVariants.{H2bWrite, B2hRead, B2hWrite, H2bRead}
use Rattle.window.specs.declared.word.Interface.{Interface}

-- Table 3: "0:3 .. H2B_WP", "4:7 .. B2H_RP" of Host_RWS; Table 4: "0:3 .. B2H_WP", "4:7 .. H2B_RP" of Host_ROS
abbrev pub word_place : Configuration → Pointer → ℕ
word_place c H2bWrite = c.rws
word_place c B2hRead = c.rws + 4
word_place c B2hWrite = c.ros
word_place c H2bRead = c.ros + 4

-- bit 1 is H_UP or B_UP beside a write pointer; beside a read pointer "[1] Reserved"
abbrev pub has_up : Pointer → Bool
has_up H2bWrite = true
has_up B2hRead = false
has_up B2hWrite = true
has_up H2bRead = false

-- 003, 4.1: reserved bits "shall be written as 0 (zero) and ignored when read"
unfoldable pub cleared : Pointer → Word → Word
cleared p w = record { pointer = w.pointer; bit1 = w.bit1 && has_up p; bit0 = w.bit0 }

-- the word that holds a pointer, where `ok`; else the pointer is 0 and the flags are clear
unfoldable pub word_where : Bool → List ℕ → Configuration → Pointer → Word
word_where ok s c p = cleared p (word_of (pick ok (word_at high_first s (word_place c p)) 0))

-- the same where the configuration is allowed
abbrev pub word_in : List ℕ → Configuration → Pointer → Word
word_in s c = word_where (allowed (length s) c) s c

-- all four words, by what they say
unfoldable pub interface_in : List ℕ → Configuration → Interface
interface_in s c =
    record {
      flags =
          flags_of (word_in s c B2hWrite).bit1 (word_in s c B2hWrite).bit0 (word_in s c H2bWrite).bit1
          (word_in s c H2bWrite).bit0;
      b2h = record { read = (word_in s c B2hRead).pointer; write = (word_in s c B2hWrite).pointer };
      h2b = record { read = (word_in s c H2bRead).pointer; write = (word_in s c H2bWrite).pointer };
      host_ready = (word_in s c B2hRead).bit0;
      controller_ready = (word_in s c H2bRead).bit0;
    }

-- whose pointer it is: "H2B_WP" and "H2B_RP" are the H2B ring's, the other two the B2H ring's
abbrev pub points_into : Pointer → Area
points_into H2bWrite = H2b
points_into B2hRead = B2h
points_into B2hWrite = B2h
points_into H2bRead = H2b

-- 1: a configuration that the window doesn't allow; 12: "not a multiple of 4, or not below the length" of its ring
abbrev pub store_order : ℕ → Configuration → Pointer → ℕ → List (Check ℕ)
store_order window c p at =
    1 unless allowed window c ∷ 12 unless pointer_right (area_place c (points_into p)).length at ∷ []

unfoldable pub store_refusal : ℕ → Configuration → Pointer → ℕ → ℕ
store_refusal window c p at = first_failing (store_order window c p at) 0

-- a word's four bytes, laid where its pointer is held
abbrev pub with_word : List ℕ → Configuration → Pointer → Word → List ℕ
with_word s c p w = laid s (word_place c p) (word_bytes high_first (number_of (cleared p w)))

-- the window after a word is stored; where refused nothing is
unfoldable pub stored : List ℕ → Configuration → Pointer → Word → List ℕ
stored s c p w = pick (eqb (store_refusal (length s) c p w.pointer) 0) (with_word s c p w) s

-- another pointer beside the same flags
abbrev pub pointing : Word → ℕ → Word
pointing w at = record { pointer = at; bit1 = w.bit1; bit0 = w.bit0 }

-- the window after a pointer alone is stored: the flags are those that stood there
unfoldable pub stored_pointer : List ℕ → Configuration → Pointer → ℕ → List ℕ
stored_pointer s c p at = stored s c p (pointing (word_in s c p) at)

-- the window after one end's flags are changed, beside the pointer that stands in their word, right or not
abbrev pub with_flags : List ℕ → Configuration → Pointer → Act → List ℕ
with_flags s c p act = with_word s c p (changed_word act (word_where true s c p))

-- whose flags stand where: beside H2B_WP "[1] Host Interface Up (H_UP)", "[0] Host Reset Request (H_RST)"; beside
-- B2H_WP "[1] (B)MC Interface Up (B_UP)", "[0] (B)MC Reset Request (B_RST)"
abbrev pub with_change : List ℕ → Configuration → Change → List ℕ
with_change s c Nothing = s
with_change s c (Host act) = with_flags s c H2bWrite act
with_change s c (Controller act) = with_flags s c B2hWrite act

-- the window after a step of the reset handshake, as 8.1.2.2: "4) The (B)MC clears the H_UP and H_RST flags"; where the
-- configuration is refused nothing is stored
unfoldable pub stored_flags : List ℕ → Configuration → Change → List ℕ
stored_flags s c change = pick (allowed (length s) c) (with_change s c change) s

-- what the words then say: other flags, all else as it was
abbrev pub reflagged : Interface → Flags → Interface
reflagged i f =
    record {
      flags = f;
      b2h = i.b2h;
      h2b = i.h2b;
      host_ready = i.host_ready;
      controller_ready = i.controller_ready;
    }
