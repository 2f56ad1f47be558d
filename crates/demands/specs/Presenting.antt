-- A list of arrivals presented to a receiver, on the three paths mixed at will, each at its count, and the bare packets
-- of the good ones (demand 3).
-- Assumes nothing.
use Rattle.std.specs.Prelude.{ℕ, List, [], ◌∷◌, ◌++◌}
use Rattle.slots.specs.declared.state.Receiver.{Receiver}
use Rattle.messages.specs.Run.{Reply, rules, messages_of, Ran, joined}
use Rattle.rack.specs.Arrivals.{Arrival, Brought, packet, none, brings}
use Rattle.rack.specs.Answers.{Told, given, nothing, AfterArrival, arrived_of}

-- one arrival at this count, as the calls of the three paths promise it
abbrev pub arrival : (most time : ℕ) → Receiver → List ℕ → Arrival → AfterArrival
arrival most time r m a = arrived_of most time r m (brings most a)

-- "What the message rules answer to the good arrivals": to any other they answer nothing
abbrev pub answers_in : Told → List Reply
answers_in (given beside said) = rules said ∷ []
answers_in (nothing why) = []

-- the messages
abbrev pub messages_in : Told → List ℕ → List (List ℕ)
messages_in (given beside said) m = messages_of said m
messages_in (nothing why) m = []

abbrev pub of_arrival : AfterArrival → Ran
of_arrival l =
    record {
      answers = answers_in l.told;
      messages = messages_in l.told l.memory;
      receiver = l.receiver;
      memory = l.memory;
    }

-- "any finite list of arrivals, good, bad or empty, on the three paths mixed at will", each in the state and memory
-- that the one before it left, and each with the count at its call
unfoldable pub present : ℕ → Receiver → List ℕ → List (ℕ × Arrival) → Ran
present most r m [] = record { answers = []; messages = []; receiver = r; memory = m }
present most r m (a ∷ arrivals) =
    let first = arrival most a.0 r m a.1 in
    joined (of_arrival first) (present most first.receiver first.memory arrivals)

abbrev pub packet_in : (time : ℕ) → Brought → List (ℕ × List ℕ)
packet_in time (packet p beside) = (time, p) ∷ []
packet_in time (none why) = []

-- "the bare packets of the good arrivals, in that order": "Demand 3 gives both sides the same counts" (document 02,
-- #106)
unfoldable pub packets_of : ℕ → List (ℕ × Arrival) → List (ℕ × List ℕ)
packets_of most [] = []
packets_of most (a ∷ arrivals) = packet_in a.0 (brings most a.1) ++ packets_of most arrivals
