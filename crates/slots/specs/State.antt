-- What makes a receiver's state right (document 01, "Putting messages together"; document 02, #102, #106): exactly that
-- list.
-- Assumes nothing.
use Rattle.std.specs.Prelude.{ℕ, ◌%◌, Bool, true, false, not, ◌&&◌, List, length, ◌==◌, nat_le}
use Rattle.mctp.specs.Packet.{body_right}
use Rattle.slots.specs.declared.state.Setup.{Setup}
use Rattle.slots.specs.declared.state.Slot.{Slot}
use Rattle.slots.specs.declared.state.SlotState.{SlotState}
use Rattle.slots.specs.declared.state.SlotState.TheVariants.{Free, Gathering}
use Rattle.slots.specs.declared.state.Receiver.{Receiver}
use Rattle.slots.specs.Setup.{right_setup, ours_of}
use Rattle.slots.specs.Slots.{slot_at, has_key}
use Rattle.slots.specs.Tallies.{gathering_in, held_in, right_tallies}

-- "a positive multiple of the unit": of a unit that is at least 1
unfoldable pub multiple : (unit held : ℕ) → Bool
multiple unit held = nat_le 1 unit && held % unit == 0

-- "Held is a positive multiple of the unit, at most 1,024; unit is 1 to 64; sequence is 0 to 3": 64 is the largest
-- body, `most`
unfoldable pub right_numbers : (most sequence unit held : ℕ) → Bool
right_numbers most sequence unit held =
    nat_le unit most && multiple unit held && nat_le 1 held && nat_le held 1024 && nat_le sequence 3

-- "tag 0 to 7 .. a key's destination is one that 16 lets through"; nothing is said of a key's source, so any is right
unfoldable pub right_slot : (most : ℕ) → Setup → SlotState → Bool
right_slot most s Free = true
right_slot most s (Gathering key sequence unit held) =
    right_numbers most sequence unit held && nat_le key.tag 7 && ours_of s key.destination.0

-- two slots have one key
unfoldable pub clash : SlotState → SlotState → Bool
clash Free t = false
clash (Gathering key sequence unit held) t = has_key key t

abbrev pub four_right : (most : ℕ) → Setup → (a b c d : SlotState) → Bool
four_right most s a b c d = right_slot most s a && right_slot most s b && right_slot most s c && right_slot most s d

-- "no two slots have one key": six pairs
abbrev pub four_apart : (a b c d : SlotState) → Bool
four_apart a b c d =
    not (clash a b) && not (clash a c) && not (clash a d) && not (clash b c) && not (clash b d) && not (clash c d)

-- the four slots of a list
abbrev pub each_right : (most : ℕ) → Setup → List Slot → Bool
each_right most s slots = four_right most s (slot_at slots 0) (slot_at slots 1) (slot_at slots 2) (slot_at slots 3)

abbrev pub all_apart : List Slot → Bool
all_apart slots = four_apart (slot_at slots 0) (slot_at slots 1) (slot_at slots 2) (slot_at slots 3)

-- "The receiver has an own EID (0 or 8 to 254), four slots": the whole list
unfoldable pub right_state : (most : ℕ) → Receiver → Bool
right_state most r =
    body_right most
    && right_setup r.setup
    && each_right most r.setup r.slots
    && all_apart r.slots
    && right_tallies r.tallies (gathering_in r.slots) (held_in r.slots)
    && length r.slots == 4
