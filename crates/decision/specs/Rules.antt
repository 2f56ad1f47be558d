-- What the rules decide on a packet that no check refused, from its header and its body's size n: start, or not start.
-- Assumes nothing.
use Rattle.std.specs.Prelude.{ℕ, ◌+◌, ◌%◌, Bool, true, false, List, [], ◌∷◌, eqb, leb, ltb}
use Rattle.octets.specs.Choice.{pick}
use Rattle.octets.specs.Checks.{Check, ◌unless◌, first_failing}
use Rattle.mctp.specs.declared.packet.Header.{Header}
use Rattle.mctp.specs.Refusals.{number_of}
use Rattle.slots.specs.declared.state.Slot.{Slot}
use Rattle.slots.specs.declared.state.SlotState.{SlotState}
use Rattle.slots.specs.declared.state.SlotState.TheVariants.{Free, Gathering}
use Rattle.slots.specs.Slots.{slot_at, slot_of, lowest_free}
use Rattle.decision.specs.declared.rules.Plan.{Plan}
use Rattle.decision.specs.declared.rules.Plan.TheVariants.{Refuse, Release, Put}

-- what is to be done: refuse with a number; free a slot and refuse with a number; or put the body into a slot, behind
-- its first `at` bytes, say whether it began again there, and leave the slot in a state
pub data Decision : Type 0 where
  refuse : ℕ → Decision
  release : ℕ → ℕ → Decision
  put : ℕ → ℕ → Bool → SlotState → Decision

-- the number and the values of each plan
abbrev pub planned : Plan → Decision
planned (Refuse refusal) = refuse (number_of refusal)
planned (Release slot refusal) = release slot (number_of refusal)
planned (Put slot at again then) = put slot at again then

-- "With end set .. the slot is free." Without end it gathers on, with this packet's sequence as the last.
unfoldable pub after : Header → (unit held : ℕ) → SlotState
after h unit held = pick h.end Free (Gathering h.key h.sequence unit held)

-- "Start: takes its key's slot, dropping what was there (the answer says "again"), else the lowest free slot, else 18.
-- Its body goes to the slot's front and its size is the unit."
unfoldable pub on_start : List Slot → Header → (n : ℕ) → Decision
on_start slots h n =
    pick (ltb (slot_of slots h.key) 4) (put (slot_of slots h.key) 0 true (after h n n))
    (pick (ltb (lowest_free slots 0 4) 4) (put (lowest_free slots 0 4) 0 false (after h n n))
    (refuse 18))

-- "a middle body differs from the unit, or an end body exceeds it": what 21 lets through
abbrev pub unit_right : (end : Bool) → (unit n : ℕ) → Bool
unit_right end unit n = pick end (leb n unit) (eqb n unit)

-- "20 if sequence is not last + 1 modulo 4; 21 if a middle body differs from the unit, or an end body exceeds it;
-- 22 if held + body exceeds 1,024."
abbrev pub gather_order : (slot last unit held : ℕ) → Header → (n : ℕ) → List (Check Decision)
gather_order slot last unit held h n =
    release slot 20 unless eqb h.sequence ((last + 1) % 4)
    ∷ release slot 21 unless unit_right h.end unit n
    ∷ release slot 22 unless leb (held + n) 1024
    ∷ []

-- "Else the body is appended."
unfoldable pub gathered : (slot last unit held : ℕ) → Header → (n : ℕ) → Decision
gathered slot last unit held h n =
    first_failing (gather_order slot last unit held h n) (put slot held false (after h unit (held + n)))

-- "19 if no slot has the key"
abbrev pub follow : (slot : ℕ) → SlotState → Header → (n : ℕ) → Decision
follow slot Free h n = refuse 19
follow slot (Gathering key last unit held) h n = gathered slot last unit held h n

-- "Not start": where no slot has the key, `slot_of` is past the last slot, which reads as free
unfoldable pub on_follow : List Slot → Header → (n : ℕ) → Decision
on_follow slots h n = follow (slot_of slots h.key) (slot_at slots (slot_of slots h.key)) h n

unfoldable pub ruled : List Slot → Header → (n : ℕ) → Decision
ruled slots h n = pick h.start (on_start slots h n) (on_follow slots h n)
