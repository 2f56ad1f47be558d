-- A run: a list of calls of one receiver, one after the other, from any state and memory (demand 3 is about its packets
-- alone).
-- Assumes nothing.
use Rattle.std.specs.Prelude.{ℕ, ◌*◌, List, [], ◌∷◌, ◌++◌, map, take, drop}
use Rattle.slots.specs.declared.state.Receiver.{Receiver}
use Rattle.slots.specs.Changes.{free_refusal, freed_of}
use Rattle.receiver.specs.Step.{Said, refused, held, done, Left, step_of}

-- a call: a packet given to the message rules at a millisecond count, or a slot freed
pub data Call : Type 0 where
  give : (time : ℕ) → List ℕ → Call
  free : ℕ → Call

-- what a call answers: the message rules' answer, or the number of the freeing call (0 where good)
pub data Reply : Type 0 where
  rules : Said → Reply
  freed : ℕ → Reply

-- "1,024 for each slot": the first n bytes of a slot
abbrev pub message : List ℕ → ℕ → ℕ → List ℕ
message m slot n = take n (drop (1024 * slot) m)

-- the bytes of a done answer; any other answer has none
abbrev pub messages_of : Said → List ℕ → List (List ℕ)
messages_of (refused n) m = []
messages_of (held slot bytes again) m = []
messages_of (done slot length again) m = message m slot length ∷ []

-- all that calls leave: their answers and messages in order, the end state and the memory
pub record Ran : Type 0 where
  pub answers : List Reply
  pub messages : List (List ℕ)
  pub receiver : Receiver
  pub memory : List ℕ

-- one packet's call, and one freeing call, which leaves the memory
abbrev pub of_step : Left → Ran
of_step l =
    record {
      answers = rules l.said ∷ [];
      messages = messages_of l.said l.memory;
      receiver = l.receiver;
      memory = l.memory;
    }

abbrev pub of_freed : (number : ℕ) → Receiver → List ℕ → Ran
of_freed number r m = record { answers = freed number ∷ []; messages = []; receiver = r; memory = m }

abbrev pub called : ℕ → Receiver → List ℕ → Call → Ran
called most r m (give time p) = of_step (step_of most time r m p)
called most r m (free slot) = of_freed (free_refusal most r slot) (freed_of most r slot) m

-- what came first, then what came after it
abbrev pub joined : Ran → Ran → Ran
joined a b =
    record {
      answers = a.answers ++ b.answers;
      messages = a.messages ++ b.messages;
      receiver = b.receiver;
      memory = b.memory;
    }

-- each call in the state and memory that the one before it left
unfoldable pub run : ℕ → Receiver → List ℕ → List Call → Ran
run most r m [] = record { answers = []; messages = []; receiver = r; memory = m }
run most r m (c ∷ calls) =
    joined (called most r m c) (run most (called most r m c).receiver (called most r m c).memory calls)

-- things that all come at one count
abbrev pub at_once : {A : Type 0} → (time : ℕ) → List A → List (ℕ × A)
at_once time [] = []
at_once time (x ∷ more) = (time, x) ∷ at_once time more

-- a list of packets, each with its count, given one after the other
abbrev pub run_packets : ℕ → Receiver → List ℕ → List (ℕ × List ℕ) → Ran
run_packets most r m packets = run most r m (map (λ (p : ℕ × List ℕ). give p.0 p.1) packets)
