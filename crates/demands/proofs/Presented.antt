-- Arrivals presented to a receiver leave what a run of their bare packets leaves: by induction on the list.
-- Assumes nothing.
use mathlib.Core.Path.{◌≡◌, refl, ap}
use mathlib.Core.List.{List, [], ◌∷◌, ◌++◌}
use Prim.Native.Nat.{ℕ}
use Rattle.slots.specs.declared.state.Receiver.{Receiver}
use Rattle.receiver.specs.Step.{step_of}
use Rattle.messages.specs.Run.{give, joined, called, run, run_packets}
use Rattle.rack.specs.Arrivals.{Arrival, Brought, packet, none, brings}
use Rattle.rack.specs.Answers.{arrived_of}
use Rattle.demands.specs.Presenting.{of_arrival, present, packet_in, packets_of}

module _ (most : ℕ) where
  -- the rest leaves what a run of its packets leaves, from any state and memory
  abbrev Alike : List (ℕ × Arrival) → Type 0
  Alike arrivals =
      (r : Receiver) (m : List ℕ) → present most r m arrivals ≡ run_packets most r m (packets_of most arrivals)

  -- one arrival, whatever its carrier made of it, and then the rest
  then : (time : ℕ) (r : Receiver) (m : List ℕ) (c : Brought) (arrivals : List (ℕ × Arrival)) → Alike arrivals
      → joined (of_arrival (arrived_of most time r m c))
      (present most (arrived_of most time r m c).receiver (arrived_of most time r m c).memory arrivals)
      ≡ run_packets most r m (packet_in time c ++ packets_of most arrivals)
  unfolding run
  then time r m (packet p beside) arrivals rest =
      ap (joined (called most r m (give time p)))
      (rest (step_of most time r m p).receiver (step_of most time r m p).memory)
  then time r m (none why) arrivals rest = rest r m

  pub presented : (arrivals : List (ℕ × Arrival)) → Alike arrivals
  unfolding present packets_of run
  presented [] r m = refl
  presented (a ∷ arrivals) r m = then a.0 r m (brings most a.1) arrivals (presented arrivals)
