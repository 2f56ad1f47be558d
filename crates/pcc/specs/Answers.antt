-- What the answers say: document 01's number and the values of each case.
-- Assumes nothing.
use Rattle.std.specs.Prelude.{Bool, false, ℕ, Result, Ok, Err}
use Rattle.mctp.specs.declared.refusal.Refusal.{Refusal}
use Rattle.mctp.specs.Refusals.{outcome_number}
use Rattle.pcc.specs.declared.answer.Packet.{Packet}

-- "the number (0 where good)"
abbrev pub number_read : Result Packet Refusal → ℕ
number_read answer = outcome_number answer

-- "a part of the region, empty where refused": its size
abbrev pub size_read : Result Packet Refusal → ℕ
size_read (Ok packet) = packet.size
size_read (Err why) = 0

-- "the notify flag (clear where refused)"
abbrev pub notify_read : Result Packet Refusal → Bool
notify_read (Ok packet) = packet.notify
notify_read (Err why) = false

-- the number of an attempt to write, 0 where the packet was written
abbrev pub number_written : Result Unit Refusal → ℕ
number_written answer = outcome_number answer
