-- A packet given to the message rules: old slots freed, the packet counted, and the decision carried out, with the
-- answer, the receiver and every byte of the memory.
-- Assumes nothing.
use Rattle.std.specs.Prelude.{ℕ, ◌+◌, ◌*◌, Bool, true, List, ltb, length, Result, Ok, Err}
use Rattle.octets.specs.Bytes.{laid}
use Rattle.octets.specs.Choice.{pick}
use Rattle.mctp.specs.Packet.{body_of}
use Rattle.mctp.specs.declared.refusal.Refusal.{Refusal}
use Rattle.mctp.specs.Refusals.{number_of}
use Rattle.slots.specs.declared.state.Slot.{Slot}
use Rattle.slots.specs.declared.state.SlotState.{SlotState}
use Rattle.slots.specs.declared.state.SlotState.TheVariants.{Free, Gathering}
use Rattle.slots.specs.declared.state.Receiver.{Receiver}
use Rattle.slots.specs.Slots.{free_slot}
use Rattle.slots.specs.Changes.{with_slot, with_offered, with_done}
use Rattle.decision.specs.Rules.{Decision, refuse, release, put}
use Rattle.decision.specs.Decision.{aged_of, decided}
use Rattle.receiver.specs.declared.giving.Kept.{Kept}
use Rattle.receiver.specs.declared.giving.Kept.TheVariants.{Held, Done}
use Rattle.receiver.specs.declared.giving.Given.{Given}

-- what is answered: a refusal's number; "held, with slot and bytes held"; "done, with slot and length"; the last is
-- "again"
pub data Said : Type 0 where
  refused : ℕ → Said
  held : ℕ → ℕ → Bool → Said
  done : ℕ → ℕ → Bool → Said

-- the number and the values of each answer
abbrev pub says : Result Kept Refusal → Said
says (Err refusal) = refused (number_of refusal)
says (Ok (Held slot bytes again)) = held slot bytes again
says (Ok (Done slot length again)) = done slot length again

-- all that a call leaves
pub record Left : Type 0 where
  pub said : Said
  pub receiver : Receiver
  pub memory : List ℕ

abbrev pub left : Given → (memory : List ℕ) → Left
left g m = record { said = says g.answer; receiver = g.receiver; memory = m }

-- "With end set the answer is done, with slot and length, and the slot is free... Without end: held, with slot and
-- bytes held."
abbrev pub answer_of : SlotState → (slot bytes : ℕ) → (again : Bool) → Said
answer_of Free slot bytes again = done slot bytes again
answer_of (Gathering key sequence unit now) slot bytes again = held slot bytes again

-- "messages done": one more for each answer "done"
abbrev pub after_put : SlotState → Receiver → Receiver
after_put Free r = with_done r
after_put (Gathering key sequence unit now) r = r

-- "each gathering slot keeps the count of its last accepted packet": this packet's; one that is free keeps none
abbrev pub since_in : SlotState → (time : ℕ) → ℕ
since_in Free time = 0
since_in (Gathering key sequence unit now) time = time

-- the slot that a packet leaves in this state
abbrev pub slot_in : SlotState → (time : ℕ) → Slot
slot_in s time = record { state = s; since = since_in s time }

-- a decision carried out. "1, 2 .. 15, 16, 17, 18, 19: number; all unchanged"; "20, 21, 22: number; that slot becomes
-- free, memory unchanged". "message memory of exactly 4,096 lent bytes, 1,024 for each slot": slot i has those from
-- 1,024 × i on.
abbrev pub carried_out : (time : ℕ) → Receiver → (memory packet : List ℕ) → Decision → Left
carried_out time r m p (refuse n) = record { said = refused n; receiver = r; memory = m }
carried_out time r m p (release slot n) = record { said = refused n; receiver = with_slot r slot free_slot; memory = m }
carried_out time r m p (put slot at again then) =
    record {
      said = answer_of then slot (at + length (body_of p)) again;
      receiver = after_put then (with_slot r slot (slot_in then time));
      memory = laid m (1024 * slot + at) (body_of p);
    }

-- "A packet refused with 3 or 15 to 22 counts as offered ..; 1 and 2 count nothing."
abbrev pub offers : Decision → Bool
offers (refuse n) = ltb 2 n
offers (release slot n) = true
offers (put slot at again then) = true

-- the receiver that a decision is carried out on: the packet is counted first, whatever comes of it
abbrev pub after_offer : Receiver → Decision → Receiver
after_offer r d = pick (offers d) (with_offered r) r

-- the packet counted, and the decision on it carried out
unfoldable pub offered_to : (most time : ℕ) → Receiver → (memory packet : List ℕ) → Left
offered_to most time r m p =
    let d = decided most r (length m) p in
    carried_out time (after_offer r d) m p d

-- one packet given to the message rules at this count: every old slot is freed first
unfoldable pub step_of : (most time : ℕ) → Receiver → (memory packet : List ℕ) → Left
step_of most time r m p = offered_to most time (aged_of most time r (length m)) m p
