-- Reading and writing at what is offered beside a ring's bytes.
-- Assumes nothing.
use Rattle.std.specs.Prelude.{ℕ, List}
use Rattle.mmbi.specs.Interface.{state_of, may_read, may_write}
use Rattle.ring.specs.declared.offer.Offered.{Offered}
use Rattle.ring.specs.Reading.{Found, found_of, output_of}
use Rattle.ring.specs.Writing.{Entered, entered_of, written_of}

module _ (most : ℕ) (ring : List ℕ) (offered : Offered) where
  -- what reading finds, for an output of this length
  abbrev pub found_at : (output : ℕ) → Found
  found_at output =
      found_of most ring offered.configured (may_read (state_of offered.flags)) offered.pointers.read
      offered.pointers.write output

  -- the output that reading leaves
  abbrev pub output_at : (out : List ℕ) → List ℕ
  output_at out =
      output_of most ring offered.configured (may_read (state_of offered.flags)) offered.pointers.read
      offered.pointers.write out

  -- the ring that writing leaves
  abbrev pub written_at : (packet : List ℕ) → List ℕ
  written_at packet =
      written_of most ring offered.configured (may_write (state_of offered.flags)) offered.pointers.read
      offered.pointers.write packet

-- what writing answers, of a lent ring of this length and a packet of this size
abbrev pub entered_at : (most lent : ℕ) → Offered → (size : ℕ) → Entered
entered_at most lent offered size =
    entered_of most lent offered.configured (may_write (state_of offered.flags)) offered.pointers.read
    offered.pointers.write size
