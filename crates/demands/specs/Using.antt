-- A receiver in use: arrivals on the three paths mixed at will, each at its count, packets given directly and slots
-- freed; and the bare calls that they come to (demand 3).
-- Assumes nothing.
use Rattle.std.specs.Prelude.{ℕ, List, [], ◌∷◌, ◌++◌, map}
use Rattle.slots.specs.declared.state.Receiver.{Receiver}
use Rattle.messages.specs.Run.{Call, give, Ran, called, joined}
use Rattle.rack.specs.Arrivals.{Arrival, brings}
use Rattle.demands.specs.Presenting.{arrival, of_arrival, packet_in}

-- all that a receiver is used for: an arrival on one of the three paths at the count of its call, or a call of the
-- message rules' own, a packet given directly or a slot freed
pub data Use : Type 0 where
  arrives : ℕ × Arrival → Use
  calls : Call → Use

abbrev pub used_once : ℕ → Receiver → List ℕ → Use → Ran
used_once most r m (arrives a) = of_arrival (arrival most a.0 r m a.1)
used_once most r m (calls c) = called most r m c

-- each in the state and memory that the one before it left
unfoldable pub used : ℕ → Receiver → List ℕ → List Use → Ran
used most r m [] = record { answers = []; messages = []; receiver = r; memory = m }
used most r m (u ∷ uses) =
    let first = used_once most r m u in joined first (used most first.receiver first.memory uses)

abbrev pub given_at : ℕ × List ℕ → Call
given_at p = give p.0 p.1

-- the packets of the good arrivals, in which packets given directly and slots freed stand where they stood
abbrev pub bare_of : ℕ → Use → List Call
bare_of most (arrives a) = map given_at (packet_in a.0 (brings most a.1))
bare_of most (calls c) = c ∷ []

unfoldable pub bare_calls : ℕ → List Use → List Call
bare_calls most [] = []
bare_calls most (u ∷ uses) = bare_of most u ++ bare_calls most uses
