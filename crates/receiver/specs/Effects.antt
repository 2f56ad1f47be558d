-- What a refused packet changes (document 01's table of refusals), and what may stand in a slot whose half-message was
-- old. With 3 and from 15 on it is said from the receiver that has freed its old slots and then counted the packet,
-- `with_offered (expired time r)`: "packet refusals may also leave expired slots free" (document 02, #106), and "that
-- tally is then the one further change to the receiver" (#102).
-- Assumes nothing.
use Rattle.std.specs.Prelude.{ℕ, ◌<◌, ◌≡◌, true, List, length}
use Rattle.mctp.specs.declared.packet.Key.{Key}
use Rattle.mctp.specs.Packet.{body_of, start_of, sequence_of}
use Rattle.mctp.specs.Key.{key_of}
use Rattle.slots.specs.declared.state.SlotState.{SlotState}
use Rattle.slots.specs.declared.state.SlotState.TheVariants.{Gathering}
use Rattle.slots.specs.declared.state.Receiver.{Receiver}
use Rattle.slots.specs.Slots.{free_slot, slot_at, has_key}
use Rattle.slots.specs.Changes.{with_slot}

-- "all unchanged": from receiver r and memory m to r₂ and m₂
pub record Unchanged (r : Receiver) (m : List ℕ) (r₂ : Receiver) (m₂ : List ℕ) : Type 0 where
  pub receiver : r₂ ≡ r
  pub memory : m₂ ≡ m

-- "that slot becomes free, memory unchanged": the slot that has this key, and no other; the tallies that the slots tell
-- follow
pub record SlotFreed (k : Key) (r : Receiver) (m : List ℕ) (r₂ : Receiver) (m₂ : List ℕ) : Type 0 where
  pub slot : ℕ
  pub one_of_four : slot < 4
  pub has_the_key : has_key k (slot_at r.slots slot) ≡ true
  pub receiver : r₂ ≡ with_slot r slot free_slot
  pub memory : m₂ ≡ m

-- a slot in this state was begun by this very packet, a start of key k: it holds that packet's body, and nothing else
pub record BegunAnew (k : Key) (p : List ℕ) (s : SlotState) : Type 0 where
  pub start : start_of p ≡ true
  pub key : key_of p ≡ k
  pub state : s ≡ Gathering k (sequence_of p) (length (body_of p)) (length (body_of p))
