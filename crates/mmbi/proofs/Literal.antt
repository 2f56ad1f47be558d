-- Words and flag states written out from Tables 3 to 5 of 003, none alike at both ends, since a definition and its code
-- could be wrong alike.
-- Assumes nothing.
use mathlib.Core.Path.{◌≡◌, refl}
use mathlib.Core.Bool.{Bool, true, false}
use mathlib.Core.List.{List, [], ◌∷◌, ◌++◌, map}
use Prim.Native.Nat.{ℕ}
use Rattle.mmbi.specs.declared.change.Act.{Act}
use Rattle.mmbi.specs.declared.change.Act.TheVariants.{SetUp, ClearUp, SetReset, ClearReset, ClearBoth}
use Rattle.mmbi.specs.declared.change.Change.{Change}
use Rattle.mmbi.specs.declared.change.Change.TheVariants.{Nothing, Host, Controller}
use Rattle.mmbi.specs.declared.interface.Flags.{Flags}
use Rattle.mmbi.specs.declared.interface.InterfaceState.TheVariants.{InitializationCompleted}
use Rattle.mmbi.specs.declared.interface.InterfaceState.TheVariants.{ResetRequestByController}
use Rattle.mmbi.specs.declared.interface.InterfaceState.TheVariants.{ResetRequestByHost}
use Rattle.mmbi.specs.declared.interface.InterfaceState.TheVariants.{TransitioningToInitialization}
use Rattle.mmbi.specs.declared.interface.InterfaceState.TheVariants.{TemporaryTransition, InitializationMismatch}
use Rattle.mmbi.specs.declared.interface.InterfaceState.TheVariants.{Unexpected}
use Rattle.mmbi.specs.declared.word.Word.{Word}
use Rattle.mmbi.specs.Changes.{changed_flags, changed_word}
use Rattle.mmbi.specs.Interface.{state_of}
use Rattle.mmbi.specs.Words.{word_of, number_of}
use Rattle.mmbi.proofs.States.{digits}

-- the words: bit 0 alone, bit 1 alone, four bytes that differ, every bit but bit 1, every bit of 16 but bit 0
abbrev numbers : List ℕ
numbers = 1 ∷ 2 ∷ 0x01020304 ∷ 0xFFFFFFFD ∷ 0xFFFE ∷ []

abbrev read : List Word
read =
    record { pointer = 0; bit1 = false; bit0 = true }
    ∷ record { pointer = 0; bit1 = true; bit0 = false }
    ∷ record { pointer = 16909060; bit1 = false; bit0 = false }
    ∷ record { pointer = 4294967292; bit1 = false; bit0 = true }
    ∷ record { pointer = 65532; bit1 = true; bit0 = false }
    ∷ []

pub words_read : map word_of numbers ≡ read
unfolding word_of
words_read = refl

pub words_written : map number_of read ≡ numbers
unfolding number_of
words_written = refl

-- what has no place in the word: bits 1 and 0 of a pointer, and its bits from 32 on
pub pointer_cut : number_of (record { pointer = 0x10000000B; bit1 = false; bit0 = true }) ≡ 9
unfolding number_of
pointer_cut = refl

-- Table 5 by the flags' own names
abbrev ends : Bool → Bool → Bool → Bool → Flags
ends bUp bRst hUp hRst =
    record { controller_up = bUp; controller_reset = bRst; host_up = hUp; host_reset = hRst }

-- every row whose state is another one with the two ends exchanged, and after it that other one: 1000 and 0010, 1110
-- and 1011, 1001 and 0110, 0111 and 1101
pub ends_apart :
    map state_of
    (ends true false false false
    ∷ ends false false true false
    ∷ ends true true true false
    ∷ ends true false true true
    ∷ ends true false false true
    ∷ ends false true true false
    ∷ ends false true true true
    ∷ ends true true false true
    ∷ [])
    ≡ InitializationCompleted
    ∷ Unexpected
    ∷ ResetRequestByController
    ∷ ResetRequestByHost
    ∷ InitializationMismatch
    ∷ TemporaryTransition
    ∷ TransitioningToInitialization
    ∷ Unexpected
    ∷ []
unfolding state_of
ends_apart = refl

-- every change of 1010, and of 0101: nothing; then the host's, and then the controller's, UP set and cleared, RST set
-- and cleared, both cleared
abbrev acts : List Act
acts = SetUp ∷ ClearUp ∷ SetReset ∷ ClearReset ∷ ClearBoth ∷ []

abbrev changes : List Change
changes = Nothing ∷ map Host acts ++ map Controller acts

pub each_change :
    map (λ (c : Change). digits (changed_flags c (ends true false true false))) changes
    ++ map (λ (c : Change). digits (changed_flags c (ends false true false true))) changes
    ≡ 10 ∷ 10 ∷ 8 ∷ 11 ∷ 10 ∷ 8 ∷ 10 ∷ 2 ∷ 14 ∷ 10 ∷ 2 ∷ 5 ∷ 7 ∷ 5 ∷ 5 ∷ 4 ∷ 4 ∷ 13 ∷ 5 ∷ 5 ∷ 1 ∷ 1 ∷ []
each_change = refl

-- and of a word with its pointer, bit 1 alone set, and bit 0 alone
pub each_word :
    map (λ (act : Act). number_of (changed_word act (word_of 0xFFFFFFFE))) acts
    ++ map (λ (act : Act). number_of (changed_word act (word_of 0x01020305))) acts
    ≡ 0xFFFFFFFE ∷ 0xFFFFFFFC ∷ 0xFFFFFFFF ∷ 0xFFFFFFFE ∷ 0xFFFFFFFC ∷ 0x01020307 ∷ 0x01020305 ∷ 0x01020305
    ∷ 0x01020304 ∷ 0x01020304 ∷ []
unfolding changed_word word_of number_of
each_word = refl
