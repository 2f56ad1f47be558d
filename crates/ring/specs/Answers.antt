-- Each case of what reading and writing answer, with document 01's number and its values.
-- Assumes nothing.
use Rattle.std.specs.Prelude.{ℕ, Result, Ok, Err}
use Rattle.mctp.specs.Refusals.{number_of}
use Rattle.mctp.specs.declared.refusal.Refusal.{Refusal}
use Rattle.ring.specs.declared.reading.Found.{Found}
use Rattle.ring.specs.declared.reading.Found.TheVariants.{Packet, Empty, Skipped}
use Rattle.ring.specs.Reading as reading
use Rattle.ring.specs.Writing as writing

abbrev pub found_in : Result Found Refusal → reading.Found
found_in (Ok (Packet size next)) = reading.packet size next
found_in (Ok Empty) = reading.empty
found_in (Ok (Skipped refusal next)) = reading.skipped (number_of refusal) next
found_in (Err refusal) = reading.refused (number_of refusal)

abbrev pub entered_in : Result ℕ Refusal → writing.Entered
entered_in (Ok next) = writing.entered next
entered_in (Err refusal) = writing.refused (number_of refusal)
