-- What the sender's answers say: the number, and the value that goes with it.
-- Assumes nothing.
use Rattle.std.specs.Prelude.{ℕ, Result}
use Rattle.std.specs.Result.{result_unwrap_or}
use Rattle.mctp.specs.declared.refusal.Refusal.{Refusal}
use Rattle.mctp.specs.Refusals.{outcome_number}

-- the refusal number, 0 where counted
abbrev pub number_counted : Result ℕ Refusal → ℕ
number_counted answer = outcome_number answer

-- the number of packets, 0 where refused
abbrev pub packets_counted : Result ℕ Refusal → ℕ
packets_counted answer = result_unwrap_or answer 0

-- the refusal number, 0 where cut
abbrev pub number_cut : Result ℕ Refusal → ℕ
number_cut answer = outcome_number answer

-- the packet's size, 0 where refused
abbrev pub size_cut : Result ℕ Refusal → ℕ
size_cut answer = result_unwrap_or answer 0
