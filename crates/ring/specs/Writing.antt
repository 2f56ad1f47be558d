-- Putting a packet into the ring: the check order, what is answered, and the ring, on every input (document 01,
-- "Writing").
-- Assumes nothing.
use Rattle.std.specs.Prelude.{ℕ, Bool, List, [], ◌∷◌, length, leb}
use Rattle.octets.specs.Checks.{Check, ◌unless◌, first_failing}
use Rattle.mctp.specs.Packet.{size_right}
use Rattle.ring.specs.Numbers.{set_up_right, pointers_right, room_of, next_of}
use Rattle.ring.specs.Round.{stored}
use Rattle.ring.specs.Layout.{whole_for, ring_bytes}

-- what writing answers, in document 01's numbers
pub data Entered : Type 0 where
  -- the new write pointer
  entered : ℕ → Entered
  -- "number only"
  refused : ℕ → Entered

-- "Writing: 1, 3, 11, 12, 2 (needs more than room)"; of the packet the size alone is looked at; 11 is for every state
-- but normal runtime
abbrev pub write_order : (most lent configured : ℕ) (running : Bool) (read write size : ℕ) → List (Check Entered)
write_order most lent configured running read write size =
    refused 1 unless set_up_right most configured lent
    ∷ refused 3 unless size_right most size
    ∷ refused 11 unless running
    ∷ refused 12 unless pointers_right configured read write
    ∷ refused 2 unless leb (whole_for size) (room_of configured read write)
    ∷ []

unfoldable pub entered_of : (most lent configured : ℕ) (running : Bool) (read write size : ℕ) → Entered
entered_of most lent configured running read write size =
    first_failing (write_order most lent configured running read write size)
    (entered (next_of configured write (whole_for size)))

-- "Only the packet's own ring bytes change"; a refusal leaves "all unchanged"
abbrev pub ring_after : Entered → List ℕ → ℕ → List ℕ → List ℕ
ring_after (entered next) ring write packet = stored ring write (ring_bytes packet)
ring_after (refused number) ring write packet = ring

abbrev pub written_of : (most : ℕ) (ring : List ℕ) (configured : ℕ) (running : Bool) (read write : ℕ) (packet : List ℕ)
    → List ℕ
written_of most ring configured running read write packet =
    ring_after (entered_of most (length ring) configured running read write (length packet)) ring write packet
