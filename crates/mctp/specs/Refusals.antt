-- The refusal numbers of documents 01 and 02, one for each name.
-- Assumes nothing.
use Rattle.std.specs.Prelude.{ℕ, Result, Ok, Err}
use Rattle.mctp.specs.declared.refusal.Refusal.{Refusal}
use Rattle.mctp.specs.declared.refusal.Refusal.TheVariants.{Setup, Room, Size, Address, Command, Count}
use Rattle.mctp.specs.declared.refusal.Refusal.TheVariants.{SourceBit, Pec, Signature, Descriptor, NotRunning}
use Rattle.mctp.specs.declared.refusal.Refusal.TheVariants.{Pointer, BadPacket, OtherKind, Version, NotOurs}
use Rattle.mctp.specs.declared.refusal.Refusal.TheVariants.{Source, NoSlot, NoStart, Sequence, Unit, TooLong}
use Rattle.mctp.specs.declared.refusal.Refusal.TheVariants.{PastEnd}

-- "Refusal numbers": the table, line by line
abbrev pub number_of : Refusal → ℕ
number_of Setup = 1
number_of Room = 2
number_of Size = 3
number_of Address = 4
number_of Command = 5
number_of Count = 6
number_of SourceBit = 7
number_of Pec = 8
number_of Signature = 9
number_of Descriptor = 10
number_of NotRunning = 11
number_of Pointer = 12
number_of BadPacket = 13
number_of OtherKind = 14
number_of Version = 15
number_of NotOurs = 16
number_of Source = 17
number_of NoSlot = 18
number_of NoStart = 19
number_of Sequence = 20
number_of Unit = 21
number_of TooLong = 22
-- "23 for k past the end" (document 02, #101)
number_of PastEnd = 23

-- the number of what a call comes to: 0 where good
abbrev pub outcome_number : {T : Type 0} → Result T Refusal → ℕ
outcome_number (Ok value) = 0
outcome_number (Err refusal) = number_of refusal
