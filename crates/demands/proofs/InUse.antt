-- A receiver in use: it leaves what a run of the bare calls leaves, by induction on the list; so demand 3 and the panel
-- hold over arrivals, packets given directly and slots freed, in any order.
-- Assumes nothing.
use mathlib.Core.Path.{◌≡◌, refl, ap, ◌∙◌}
use mathlib.Core.Bool.{true}
use mathlib.Core.List.{List, [], ◌∷◌, ◌++◌, map}
use Prim.Native.Nat.{ℕ}
use native.Mathlib.Omega.{arith}
use Rattle.slots.specs.declared.state.Setup.{Setup}
use Rattle.slots.specs.declared.state.Receiver.{Receiver}
use Rattle.slots.specs.State.{right_state}
use Rattle.slots.specs.Changes.{set_up_of}
use Rattle.receiver.specs.Step.{step_of}
use Rattle.messages.specs.Run.{give, joined, called, run}
use Rattle.messages.specs.Tallies.{SlotsTold, Shows}
use Rattle.messages.proofs.Runs.{called_right}
use Rattle.messages.proofs.Tallies.{slots_told, panel, run_offered, run_done}
use Rattle.rack.specs.Arrivals.{Arrival, Brought, packet, none, brings}
use Rattle.rack.specs.Answers.{arrived_of}
use Rattle.demands.specs.Presenting.{arrival, of_arrival, present, packet_in}
use Rattle.demands.specs.Using.{Use, arrives, calls, used_once, used, given_at, bare_calls}
use Rattle.demands.proofs.Arrivals.{arrived_right}

module _ (most : ℕ) where
  -- the rest leaves what a run of its bare calls leaves, from any state and memory
  abbrev Alike : List Use → Type 0
  Alike uses = (r : Receiver) (m : List ℕ) → used most r m uses ≡ run most r m (bare_calls most uses)

  -- one that brings nothing leaves all as it was, and one that brings a packet is that packet given
  then : (time : ℕ) (r : Receiver) (m : List ℕ) (c : Brought) (uses : List Use) → Alike uses
      → joined (of_arrival (arrived_of most time r m c))
      (used most (arrived_of most time r m c).receiver (arrived_of most time r m c).memory uses)
      ≡ run most r m (map given_at (packet_in time c) ++ bare_calls most uses)
  unfolding run
  then time r m (packet p beside) uses rest =
      ap (joined (called most r m (give time p)))
      (rest (step_of most time r m p).receiver (step_of most time r m p).memory)
  then time r m (none why) uses rest = rest r m

  pub used_alike : (uses : List Use) → Alike uses
  unfolding used bare_calls run
  used_alike [] r m = refl
  used_alike (arrives a ∷ uses) r m = then a.0 r m (brings most a.1) uses (used_alike uses)
  used_alike (calls c ∷ uses) r m =
      ap (joined (called most r m c)) (used_alike uses (called most r m c).receiver (called most r m c).memory)

  -- arrivals presented are a use of the receiver for arrivals alone
  pub present_is_used : (arrivals : List (ℕ × Arrival)) (r : Receiver) (m : List ℕ)
      → present most r m arrivals ≡ used most r m (map arrives arrivals)
  unfolding present used
  present_is_used [] r m = refl
  present_is_used (a ∷ arrivals) r m =
      let first = arrival most a.0 r m a.1 in
      ap (joined (of_arrival first)) (present_is_used arrivals first.receiver first.memory)

-- "the path doesn't matter" (demand 3), where packets are also given directly and slots are freed between the arrivals,
-- at the same places on both sides: any list of these, from any state and memory
pub the_path_does_not_matter_among_calls : (r : Receiver) (m : List ℕ) (uses : List Use)
    → used 64 r m uses ≡ run 64 r m (bare_calls 64 uses)
the_path_does_not_matter_among_calls r m uses = used_alike 64 uses r m

-- "Store both and keep them true through every call.": in every state that an arrival, a packet given directly or a
-- slot
-- freed leaves of a right one
pub true_after_every_use : (r : Receiver) (m : List ℕ) (u : Use) → right_state 64 r ≡ true
    → SlotsTold (used_once 64 r m u).receiver
true_after_every_use r m (arrives a) e =
    slots_told 64 (arrival 64 a.0 r m a.1).receiver (arrived_right 64 a.0 r m (brings 64 a.1) e)
true_after_every_use r m (calls c) e = slots_told 64 (called 64 r m c).receiver (called_right 64 r m c e)

-- the panel shows all four after every list of uses, from every set-up, with any memory; arrivals without a packet
-- count
-- nothing
pub the_panel_shows_all_four_in_use : (s : Setup) (m : List ℕ) (uses : List Use)
    → Shows (used 64 (set_up_of s) m uses).receiver (used 64 (set_up_of s) m uses).answers
the_panel_shows_all_four_in_use s m uses =
    rw (the_path_does_not_matter_among_calls (set_up_of s) m uses) (panel 64 s m (bare_calls 64 uses) refl)

pub they_stay_where_they_stop_in_use : (r : Receiver) (m : List ℕ) (uses : List Use)
    → (r.tallies.offered ≡ 4294967295 → (used 64 r m uses).receiver.tallies.offered ≡ 4294967295)
    × (r.tallies.done ≡ 4294967295 → (used 64 r m uses).receiver.tallies.done ≡ 4294967295)
they_stay_where_they_stop_in_use r m uses =
    rw (the_path_does_not_matter_among_calls r m uses) (
      (λ e. run_offered 64 r m (bare_calls 64 uses) (omega arith) ∙ omega arith),
      (λ e. run_done 64 r m (bare_calls 64 uses) (omega arith) ∙ omega arith),
    )
