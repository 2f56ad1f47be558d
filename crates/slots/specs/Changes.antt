-- How a state changes: set-up, a slot set anew, a packet or a message counted, a slot freed.
-- Assumes nothing.
use Rattle.std.specs.Prelude.{ℕ, ◌&&◌, List, [], ◌∷◌, nat_lt, slice_set}
use Rattle.octets.specs.Choice.{pick}
use Rattle.slots.specs.declared.state.Setup.{Setup}
use Rattle.slots.specs.declared.state.Slot.{Slot}
use Rattle.slots.specs.declared.state.Tallies.{Tallies}
use Rattle.slots.specs.declared.state.Receiver.{Receiver}
use Rattle.slots.specs.Setup.{right_setup}
use Rattle.slots.specs.Slots.{free_slot, slot_at}
use Rattle.slots.specs.State.{right_state}
use Rattle.slots.specs.Tallies.{next_tally, moved_tallies}

abbrev pub all_zero : Tallies
all_zero = record { gathering = 0; held = 0; offered = 0; done = 0 }

-- a receiver just set up: four free slots, and nothing tallied
abbrev pub fresh : Setup → Receiver
fresh s = record { setup = s; slots = free_slot ∷ free_slot ∷ free_slot ∷ free_slot ∷ []; tallies = all_zero }

-- the receiver with these slots, of which slot i alone may be another than it was: the tallies move with it
abbrev pub with_slots : Receiver → (slot : ℕ) → List Slot → Receiver
with_slots r i slots =
    record {
      setup = r.setup;
      slots = slots;
      tallies = moved_tallies r.tallies (slot_at r.slots i) (slot_at slots i);
    }

-- the receiver with another slot i; past the last slot there is nothing to change
abbrev pub with_slot : Receiver → (slot : ℕ) → Slot → Receiver
with_slot r i x = with_slots r i (slice_set r.slots i x)

-- the receiver with other tallies
abbrev pub with_tallies : Receiver → Tallies → Receiver
with_tallies r t = record { setup = r.setup; slots = r.slots; tallies = t }

-- "packets offered to the message rules": one more
abbrev pub with_offered : Receiver → Receiver
with_offered r =
    with_tallies r
    (record {
      gathering = r.tallies.gathering;
      held = r.tallies.held;
      offered = next_tally r.tallies.offered;
      done = r.tallies.done;
    })

-- "and messages done": one more
abbrev pub with_done : Receiver → Receiver
with_done r =
    with_tallies r
    (record {
      gathering = r.tallies.gathering;
      held = r.tallies.held;
      offered = r.tallies.offered;
      done = next_tally r.tallies.done;
    })

-- "A set-up or state that breaks this is refused with 1."
unfoldable pub set_up_refusal : Setup → ℕ
set_up_refusal s = pick (right_setup s) 0 1

-- beside the 1 stands a receiver with the null EID and the longest limit
unfoldable pub set_up_of : Setup → Receiver
set_up_of s = fresh (pick (right_setup s) s (record { own = record { 0 = 0 }; limit = 60000 }))

-- "A separate call frees slot 0 to 3 (any other number: 1)"
unfoldable pub free_refusal : (most : ℕ) → Receiver → (slot : ℕ) → ℕ
free_refusal most r i = pick (right_state most r && nat_lt i 4) 0 1

unfoldable pub freed_of : (most : ℕ) → Receiver → (slot : ℕ) → Receiver
freed_of most r i = pick (right_state most r && nat_lt i 4) (with_slot r i free_slot) r
