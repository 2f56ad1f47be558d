-- The decision on a packet: the checks in their order, then the rules. It sees the memory's size and none of its bytes.
-- Before it, old slots are freed (document 02, #106).
-- Assumes nothing.
use Rattle.std.specs.Prelude.{ℕ, ◌&&◌, List, ◌++◌, eqb, length, ◌≡◌, Result, Ok, Err}
use Rattle.octets.specs.Choice.{pick}
use Rattle.octets.specs.Checks.{Check, first_failing}
use Rattle.mctp.specs.Packet.{body_of}
use Rattle.mctp.specs.Key.{header_of}
use Rattle.slots.specs.declared.state.Receiver.{Receiver}
use Rattle.slots.specs.State.{right_state}
use Rattle.slots.specs.Ages.{expired}
use Rattle.mctp.specs.declared.refusal.Refusal.{Refusal}
use Rattle.mctp.specs.Refusals.{number_of}
use Rattle.decision.specs.Checks.{setup_order, packet_order, source_order}
use Rattle.decision.specs.Rules.{refuse, Decision, ruled}

-- "Order there: 1, 2 (memory size), 3, 15, 16, 17, then"
abbrev pub check_order : (most : ℕ) → Receiver → (size : ℕ) → (packet : List ℕ) → List (Check Decision)
check_order most r size p = setup_order most r size ++ (packet_order most r.setup p ++ source_order p)

-- the outcome of the checks, before what the rules decide
abbrev pub unless_refused : Result (Unit {0}) Refusal → Decision → Decision
unless_refused (Ok good) d = d
unless_refused (Err why) d = refuse (number_of why)

-- this is the outcome of a check order, whatever comes behind it
abbrev pub OutcomeOf : List (Check Decision) → Result (Unit {0}) Refusal → Type 0
OutcomeOf order r = (d : Decision) → first_failing order d ≡ unless_refused r d

-- "Before anything but checks 1 and 2, every slot whose age exceeds a set limit of 1 to 60,000 is freed, whatever the
-- packet's answer.": the receiver that the packet is decided on
abbrev pub aged_of : (most time : ℕ) → Receiver → (size : ℕ) → Receiver
aged_of most time r size = pick (right_state most r && eqb size 4096) (expired time r) r

unfoldable pub decided : (most : ℕ) → Receiver → (size : ℕ) → (packet : List ℕ) → Decision
decided most r size p = first_failing (check_order most r size p) (ruled r.slots (header_of p) (length (body_of p)))
