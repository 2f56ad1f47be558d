-- The age of a slot, and slots freed by age (document 02, #106).
-- Assumes nothing.
use Rattle.std.specs.Prelude.{ℕ, zero, suc, ◌+◌, ◌-◌, ◌%◌, Bool, not, ◌&&◌, nat_lt}
use Rattle.octets.specs.Choice.{pick}
use Rattle.slots.specs.declared.state.SlotState.{SlotState}
use Rattle.slots.specs.declared.state.Receiver.{Receiver}
use Rattle.slots.specs.Slots.{free_slot, slot_at, since_at, is_free}
use Rattle.slots.specs.Changes.{with_slot}

-- "Age is now minus then, modulo 2^32.": now is the call's count, then the count of the slot's last accepted packet
abbrev pub age : (time since : ℕ) → ℕ
age time since = (time + (4294967296 - since)) % 4294967296

-- "every slot whose age exceeds a set limit": a slot that gathers; a free one has no age
abbrev pub too_old : (limit time : ℕ) → SlotState → (since : ℕ) → Bool
too_old limit time s since = not (is_free s) && nat_lt limit (age time since)

-- slot i is too old at this count
abbrev pub old_at : (time : ℕ) → Receiver → (slot : ℕ) → Bool
old_at time r i = too_old r.setup.limit time (slot_at r.slots i) (since_at r.slots i)

-- such a slot "is freed": the first n slots looked through
unfoldable pub expired_to : (time : ℕ) → Receiver → (n : ℕ) → Receiver
expired_to time r zero = r
expired_to time r (suc n) =
    let q = expired_to time r n in
    pick (old_at time q n) (with_slot q n free_slot) q

-- "every slot"
abbrev pub expired : (time : ℕ) → Receiver → Receiver
expired time r = expired_to time r 4
