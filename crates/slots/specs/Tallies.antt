-- The tallies of the front panel (document 02, #102): two that the slots tell, and two that count on from set-up.
-- Assumes nothing.
use Rattle.std.specs.Prelude.{ℕ, ◌+◌, ◌-◌, min, Bool, ◌&&◌, List, ◌==◌}
use Rattle.slots.specs.declared.state.Slot.{Slot}
use Rattle.slots.specs.declared.state.SlotState.{SlotState}
use Rattle.slots.specs.declared.state.SlotState.TheVariants.{Free, Gathering}
use Rattle.slots.specs.declared.state.Tallies.{Tallies}
use Rattle.slots.specs.Slots.{slot_at}

-- what one slot adds to the slots that gather, and to the bytes held
abbrev pub one_gathering : SlotState → ℕ
one_gathering Free = 0
one_gathering (Gathering key sequence unit held) = 1

abbrev pub bytes_held : SlotState → ℕ
bytes_held Free = 0
bytes_held (Gathering key sequence unit held) = held

-- what four slots add up to
abbrev pub four_sum : (SlotState → ℕ) → (a b c d : SlotState) → ℕ
four_sum f a b c d = f a + f b + f c + f d

unfoldable pub sum_of : (SlotState → ℕ) → List Slot → ℕ
sum_of f slots = four_sum f (slot_at slots 0) (slot_at slots 1) (slot_at slots 2) (slot_at slots 3)

-- "how many slots are gathering"
abbrev pub gathering_in : List Slot → ℕ
gathering_in slots = sum_of one_gathering slots

-- "and how many bytes they hold"
abbrev pub held_in : List Slot → ℕ
held_in slots = sum_of bytes_held slots

-- "A stored state whose first two tallies are wrong is refused with 1."; of the last two any value is right
abbrev pub right_tallies : Tallies → (gathering held : ℕ) → Bool
right_tallies t gathering held = t.gathering == gathering && t.held == held

-- a tally has 32 bits: it stops "at 4,294,967,295"
abbrev pub stopped : ℕ → ℕ
stopped n = min n 4294967295

-- one more of the last two
abbrev pub next_tally : ℕ → ℕ
next_tally n = stopped (n + 1)

-- "Store both and keep them true through every call.": less what a slot added before, and more what it adds now. (In a
-- right state neither end of a tally's range is met; a wrong one is refused with 1.)
abbrev pub moved : (tally before now : ℕ) → ℕ
moved tally before now = stopped (tally - before + now)

abbrev pub moved_tallies : Tallies → (before now : SlotState) → Tallies
moved_tallies t before now =
    record {
      gathering = moved t.gathering (one_gathering before) (one_gathering now);
      held = moved t.held (bytes_held before) (bytes_held now);
      offered = t.offered;
      done = t.done;
    }
