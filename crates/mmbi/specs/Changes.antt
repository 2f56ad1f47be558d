-- Flags set and cleared (003, 8.1.2), and the word that holds them.
-- Assumes nothing.
use Rattle.std.specs.Prelude.{Bool, true, false}
use Rattle.mmbi.specs.declared.change.Act.{Act}
use Rattle.mmbi.specs.declared.change.Act.TheVariants.{SetUp, ClearUp, SetReset, ClearReset, ClearBoth}
use Rattle.mmbi.specs.declared.change.Change.{Change}
use Rattle.mmbi.specs.declared.change.Change.TheVariants.{Nothing, Host, Controller}
use Rattle.mmbi.specs.declared.interface.Flags.{Flags}
use Rattle.mmbi.specs.declared.word.Word.{Word}
use Rattle.mmbi.specs.Interface.{flags_of}

-- an end's UP flag after "setting H_UP = 1", "sets B_UP = 1", "clears the B_UP flag", "clears the H_UP and H_RST flags"
abbrev pub up_after : Act → Bool → Bool
up_after SetUp up = true
up_after ClearUp up = false
up_after SetReset up = up
up_after ClearReset up = up
up_after ClearBoth up = false

-- its RST flag after "sets H_RST = 1", "sets B_RST = 1", "clears the B_RST flag", "clears the H_UP and H_RST flags"
abbrev pub reset_after : Act → Bool → Bool
reset_after SetUp reset = reset
reset_after ClearUp reset = reset
reset_after SetReset reset = true
reset_after ClearReset reset = false
reset_after ClearBoth reset = false

-- all four flags after a change of one end's
abbrev pub changed_flags : Change → Flags → Flags
changed_flags Nothing f = f
changed_flags (Host act) f =
    flags_of f.controller_up f.controller_reset (up_after act f.host_up) (reset_after act f.host_reset)
changed_flags (Controller act) f =
    flags_of (up_after act f.controller_up) (reset_after act f.controller_reset) f.host_up f.host_reset

-- the word that holds an end's flags, "[1] .. (H_UP)" and "[0] .. (H_RST)" or "[1] .. (B_UP)" and "[0] .. (B_RST)",
-- after a change of them; the pointer in it stays
unfoldable pub changed_word : Act → Word → Word
changed_word act w = record { pointer = w.pointer; bit1 = up_after act w.bit1; bit0 = reset_after act w.bit0 }
