-- The slots of a receiver: one by its number, one by its key, the lowest that is free. As many as were looked through
-- stands for none.
-- Assumes nothing.
use Rattle.std.specs.Prelude.{ℕ, zero, suc, Bool, true, false, List, slice_index_or, nat_lt, Option, Some, None}
use Rattle.octets.specs.Choice.{pick}
use Rattle.mctp.specs.declared.packet.Key.{Key}
use Rattle.mctp.specs.Key.{same_key}
use Rattle.slots.specs.declared.state.Slot.{Slot}
use Rattle.slots.specs.declared.state.SlotState.{SlotState}
use Rattle.slots.specs.declared.state.SlotState.TheVariants.{Free, Gathering}

abbrev pub free_slot : Slot
free_slot = record { state = Free; since = 0 }

-- the state of slot i; past the last slot there is nothing, and it reads as free
abbrev pub slot_at : List Slot → (i : ℕ) → SlotState
slot_at slots i = (slice_index_or slots i free_slot).state

-- "each gathering slot keeps the count of its last accepted packet": the count of slot i
abbrev pub since_at : List Slot → (i : ℕ) → ℕ
since_at slots i = (slice_index_or slots i free_slot).since

abbrev pub is_free : SlotState → Bool
is_free Free = true
is_free (Gathering key sequence unit held) = false

-- the slot gathers for this key
abbrev pub has_key : Key → SlotState → Bool
has_key k Free = false
has_key k (Gathering key sequence unit held) = same_key key k

-- the first of n slots from slot i on that passes a test, else the slot after them
unfoldable pub first_of : (SlotState → Bool) → List Slot → (i n : ℕ) → ℕ
first_of f slots i zero = i
first_of f slots i (suc n) = pick (f (slot_at slots i)) i (first_of f slots (suc i) n)

-- the slot that gathers for this key, 4 where none does
unfoldable pub slot_of : List Slot → Key → ℕ
slot_of slots k = first_of (has_key k) slots 0 4

-- "the lowest free slot" of n slots from slot i on
unfoldable pub lowest_free : List Slot → (i n : ℕ) → ℕ
lowest_free slots i n = first_of is_free slots i n

-- the slot of this number, none past the last
abbrev pub found_slot : (slot : ℕ) → Option ℕ
found_slot i = pick (nat_lt i 4) (Some i) None
