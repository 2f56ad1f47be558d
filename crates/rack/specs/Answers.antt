-- What an arrival call answers and leaves (document 01, "Putting messages together" and the refusal table).
-- Assumes nothing.
use Rattle.std.specs.Prelude.{ℕ, List, Result, Ok, Err}
use Rattle.slots.specs.declared.state.Receiver.{Receiver}
use Rattle.receiver.specs.Step as rules
use Rattle.rack.specs.declared.answer.Beside.{Beside}
use Rattle.rack.specs.declared.answer.Arrived.{Arrived}
use Rattle.rack.specs.declared.answer.NoPacket.{NoPacket}
use Rattle.rack.specs.declared.answer.Received.{Received}
use Rattle.rack.specs.Arrivals.{Without, without, Brought, packet, none}

-- what is told of an arrival: a carrier's refusal is not a message rule's, and EMPTY is neither
pub data Told : Type 0 where
  -- a packet was found: what the carrier also knows, and what the message rules say to the packet
  given : Beside → rules.Said → Told
  nothing : Without → Told

abbrev pub tells : Result Arrived NoPacket → Told
tells (Ok arrived) = given arrived.beside (rules.says arrived.answer)
tells (Err why) = nothing (without why)

-- all that a call leaves
pub record AfterArrival : Type 0 where
  pub told : Told
  pub receiver : Receiver
  pub memory : List ℕ

abbrev pub after_arrival : Received → List ℕ → AfterArrival
after_arrival o m = record { told = tells o.arrived; receiver = o.receiver; memory = m }

-- what the message rules leave of a packet, with what the carrier also knows
abbrev pub with_beside : Beside → rules.Left → AfterArrival
with_beside beside l = record { told = given beside l.said; receiver = l.receiver; memory = l.memory }

-- "a good arrival's packet goes to the message rules", with the count; "A carrier's refusal never reaches the slots.",
-- and "frees nothing"
abbrev pub arrived_of : (most time : ℕ) (r : Receiver) (m : List ℕ) → Brought → AfterArrival
arrived_of most time r m (packet p beside) = with_beside beside (rules.step_of most time r m p)
arrived_of most time r m (none why) = record { told = nothing why; receiver = r; memory = m }
