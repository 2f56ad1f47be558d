-- What the carrier's answers say: document 01's number, and the value that goes with it.
-- Assumes nothing.
use Rattle.std.specs.Prelude.{ℕ, Result, Ok, Err}
use Rattle.std.specs.Result.{result_unwrap_or}
use Rattle.mctp.specs.declared.refusal.Refusal.{Refusal}
use Rattle.mctp.specs.Refusals.{outcome_number}
use Rattle.smbus.specs.declared.answer.Packet.{Packet}

-- "The refusal number (0 where good)"
abbrev pub number_read : Result Packet Refusal → ℕ
number_read answer = outcome_number answer

-- "and the source address (0 where refused)"
abbrev pub source_read : Result Packet Refusal → ℕ
source_read (Ok packet) = packet.source
source_read (Err why) = 0

-- the refusal number, 0 where written
abbrev pub number_written : Result ℕ Refusal → ℕ
number_written answer = outcome_number answer

-- the frame's length, 0 where refused
abbrev pub size_written : Result ℕ Refusal → ℕ
size_written answer = result_unwrap_or answer 0
