-- The tallies on the front panel, sentence by sentence (document 02, #102), each a theorem over the definitions that
-- the public contracts cite. What a refusal counts stands in Demands, with demand 1. 64 is the base's largest body.
-- Assumes nothing.
use mathlib.Core.Path.{◌≡◌, refl, ap, subst, ◌∙◌}
use mathlib.Core.Bool.{true, false}
use mathlib.Core.List.{List}
use Prim.Native.Nat.{ℕ, ◌+◌, ◌≤◌, ◌<◌}
use native.Mathlib.Omega.{arith}
use lib.ListN.{length}
use Rattle.octets.proofs.Choice.{either_way}
use Rattle.mctp.specs.Packet.{body_of, end_of, sequence_of}
use Rattle.mctp.specs.declared.packet.Key.{Key}
use Rattle.mctp.specs.Key.{key_of}
use Rattle.slots.specs.declared.state.Setup.{Setup}
use Rattle.slots.specs.declared.state.Slot.{Slot}
use Rattle.slots.specs.declared.state.SlotState.TheVariants.{Gathering}
use Rattle.slots.specs.declared.state.Receiver.{Receiver}
use Rattle.slots.specs.Slots.{free_slot, slot_at}
use Rattle.slots.specs.State.{right_state}
use Rattle.slots.specs.Tallies.{one_gathering, bytes_held, next_tally}
use Rattle.slots.specs.Changes.{fresh, with_slot, with_offered, with_done, with_tallies, set_up_of, free_refusal}
use Rattle.slots.specs.Changes.{freed_of}
use Rattle.slots.proofs.States.{right_of, tallies_move, told_stays}
use Rattle.slots.specs.Ages.{expired}
use Rattle.slots.proofs.Ages.{expired_right}
use Rattle.slots.proofs.Found.{holds_key}
use Rattle.slots.proofs.Changes.{set_up_right_lem, offered_right, free_right, freed_good, freed_wrong}
use Rattle.receiver.specs.Effects.{Unchanged}
use Rattle.receiver.specs.Step.{refused, Left, slot_in, step_of}
use Rattle.receiver.proofs.Laws.{wrong_refused, step_right, refused_uncounted}
use Rattle.messages.specs.Run.{Call, called, run, run_packets}
use Rattle.messages.specs.Message.{Starts, slot_for}
use Rattle.messages.specs.Tallies.{SlotsTold, Shows}
use Rattle.messages.proofs.Runs.{called_right}
use Rattle.messages.proofs.Gathering.{start_held, start_done}
use Rattle.messages.proofs.Acceptance.{room_of_key}
use Rattle.messages.proofs.Tallies.{slots_told, panel, run_offered, run_done}
use Rattle.rack.specs.Arrivals.{Arrival, brings}
use Rattle.demands.specs.Presenting.{arrival, present, packets_of}
use Rattle.demands.proofs.Arrivals.{arrived_right}
use Rattle.demands.proofs.Demands.{the_path_does_not_matter, from_any_state}

-- "The panel asks how many slots are gathering and how many bytes they hold .. Store both and keep them true through
-- every call.": at set-up, refused or not; and in every state that a call, or an arrival, leaves of a right one
pub true_at_set_up : (s : Setup) → SlotsTold (set_up_of s)
true_at_set_up s = slots_told 64 (set_up_of s) (set_up_right_lem 64 s refl)

pub true_after_every_call : (r : Receiver) (m : List ℕ) (c : Call) → right_state 64 r ≡ true
    → SlotsTold (called 64 r m c).receiver
true_after_every_call r m c e = slots_told 64 (called 64 r m c).receiver (called_right 64 r m c e)

pub true_after_every_arrival : (time : ℕ) (r : Receiver) (m : List ℕ) (a : Arrival) → right_state 64 r ≡ true
    → SlotsTold (arrival 64 time r m a).receiver
true_after_every_arrival time r m a e =
    slots_told 64 (arrival 64 time r m a).receiver (arrived_right 64 time r m (brings 64 a) e)

-- a slot set by itself, to anything that a slot can store, keeps them true; so does each of the two that count
pub true_after_a_slot_is_set : (r : Receiver) (i : ℕ) (x : Slot) → right_state 64 r ≡ true
    → bytes_held x.state ≤ 65535 → SlotsTold (with_slot r i x)
true_after_a_slot_is_set r i x e = told_stays 64 r i x (right_of 64 r e)

pub true_after_counting : (r : Receiver) → right_state 64 r ≡ true → SlotsTold (with_offered r)
    × SlotsTold (with_done r)
true_after_counting r e = (slots_told 64 r e, slots_told 64 r e)

-- "Add two more: packets offered to the message rules, and messages done. The last two are defined from the list of
-- calls since set-up, and stop at 4,294,967,295.": after every list of calls, from every set-up, with any memory, the
-- panel shows all four
pub the_panel_shows_all_four : (s : Setup) (m : List ℕ) (calls : List Call)
    → Shows (run 64 (set_up_of s) m calls).receiver (run 64 (set_up_of s) m calls).answers
the_panel_shows_all_four s m calls = panel 64 s m calls refl

-- so it does after every list of arrivals, of which those without a packet count nothing
pub the_panel_shows_arrivals : (s : Setup) (m : List ℕ) (arrivals : List (ℕ × Arrival))
    → Shows (present 64 (set_up_of s) m arrivals).receiver (present 64 (set_up_of s) m arrivals).answers
the_panel_shows_arrivals s m arrivals =
    rw (from_any_state (set_up_of s) m arrivals) (the_panel_shows_all_four s m _)

-- a tally that has stopped stays
pub they_stay_where_they_stop : (r : Receiver) (m : List ℕ) (calls : List Call)
    → (r.tallies.offered ≡ 4294967295 → (run 64 r m calls).receiver.tallies.offered ≡ 4294967295)
    × (r.tallies.done ≡ 4294967295 → (run 64 r m calls).receiver.tallies.done ≡ 4294967295)
they_stay_where_they_stop r m calls = (
  (λ e. run_offered 64 r m calls (omega arith) ∙ omega arith),
  (λ e. run_done 64 r m calls (omega arith) ∙ omega arith),
)

-- "Demand 3's end state now includes all four."
pub the_end_state_has_all_four : (s : Setup) (m : List ℕ) (arrivals : List (ℕ × Arrival))
    → (present 64 (fresh s) m arrivals).receiver.tallies
    ≡ (run_packets 64 (fresh s) m (packets_of 64 arrivals)).receiver.tallies
the_end_state_has_all_four s m arrivals =
    ap (λ ran. ran.receiver.tallies) (the_path_does_not_matter s m arrivals)

-- "A stored state whose first two tallies are wrong is refused with 1.": by both calls, and all is unchanged
pub wrong_tallies_are_refused : (time : ℕ) (r : Receiver) (m p : List ℕ) (i : ℕ) → (SlotsTold r → ⊥)
    → ((step_of 64 time r m p).said ≡ refused 1)
    × Unchanged r m (step_of 64 time r m p).receiver (step_of 64 time r m p).memory
    × (free_refusal 64 r i ≡ 1) × (freed_of 64 r i ≡ r)
wrong_tallies_are_refused time r m p i wrong =
    either_way (right_state 64 r)
    (λ e. absurd (wrong (slots_told 64 r e)))
    (λ e.
    let step = wrong_refused 64 time r m p e in
    let said = ap (λ (l : Left). l.said) step in
    (said, refused_uncounted 64 time r m p 1 said (omega arith), (freed_wrong 64 r i e).0, (freed_wrong 64 r i e).1))

-- any value of the last two passes
pub any_value_of_the_last_two_passes : (r : Receiver) (packets messages : ℕ) → right_state 64 r ≡ true
    → right_state 64
    (with_tallies r
    (record {
      gathering = r.tallies.gathering;
      held = r.tallies.held;
      offered = packets;
      done = messages;
    })) ≡ true
unfolding right_state
any_value_of_the_last_two_passes r packets messages e = e

-- a slot freed takes its bytes along, and counts nothing
pub a_slot_freed_leaves_the_tallies : (r : Receiver) (i : ℕ) (k : Key) (q u h : ℕ) → right_state 64 r ≡ true → i < 4
    → slot_at r.slots i ≡ Gathering k q u h
    → let after = freed_of 64 r i in
    (after.tallies.gathering + 1 ≡ r.tallies.gathering) × (after.tallies.held + h ≡ r.tallies.held)
    × (after.tallies.offered ≡ r.tallies.offered) × (after.tallies.done ≡ r.tallies.done)
a_slot_freed_leaves_the_tallies r i k q u h right low gathers =
    let moves = tallies_move 64 r i free_slot (right_of 64 r right)
    (right_of 64 (with_slot r i free_slot) (free_right 64 r i low right)) low in
    rw (freed_good 64 r i right low).1 (
      omega (arith, moves.0, ap one_gathering gathers),
      omega (arith, moves.1, ap bytes_held gathers),
      refl,
      refl,
    )

-- a start that drops a half-message, and isn't its end too, moves the bytes held by the difference, and is one packet
-- more: said of the receiver whose old slots are freed
pub a_restart_moves_by_the_difference : (time : ℕ) (r : Receiver) (m p : List ℕ) (i q u h : ℕ)
    → right_state 64 r ≡ true → length m ≡ 4096 → Starts 64 r.setup p → end_of p ≡ false
    → let before = expired time r in
    i < 4 → slot_at before.slots i ≡ Gathering (key_of p) q u h
    → let after = (step_of 64 time r m p).receiver in
    (after.tallies.gathering ≡ before.tallies.gathering)
    × (after.tallies.held + h ≡ before.tallies.held + length (body_of p))
    × (after.tallies.offered ≡ next_tally before.tallies.offered) × (after.tallies.done ≡ before.tallies.done)
a_restart_moves_by_the_difference time r m p i q u h right sized starts goes_on_lem low gathers =
    let before = expired time r in
    let right_then = expired_right time r 64 right in
    let n = length (body_of p) in
    let then = slot_in (Gathering (key_of p) (sequence_of p) n n) time in
    let at : slot_for before.slots (key_of p) ≡ i =
    room_of_key 64 before (key_of p) i right_then low (holds_key (key_of p) q u h (slot_at before.slots i) gathers) in
    let step : (step_of 64 time r m p).receiver ≡ with_slot (with_offered before) i then =
    ap (λ (l : Left). l.receiver) (start_held 64 time r m p right sized starts (omega (arith, at, low)) goes_on_lem)
    ∙ ap (λ (j : ℕ). with_slot (with_offered before) j then) at in
    let moves = tallies_move 64 (with_offered before) i then
    (right_of 64 (with_offered before) (offered_right 64 before right_then))
    (right_of 64 (with_slot (with_offered before) i then)
    (subst (λ (x : Receiver). right_state 64 x ≡ true) step (step_right 64 time r m p right))) low in
    rw step (
      omega (arith, moves.0, ap one_gathering gathers),
      omega (arith, moves.1, ap bytes_held gathers),
      refl,
      refl,
    )

-- one that is the end too leaves no byte of it, and is one message more
pub a_restart_that_ends : (time : ℕ) (r : Receiver) (m p : List ℕ) (i q u h : ℕ) → right_state 64 r ≡ true
    → length m ≡ 4096 → Starts 64 r.setup p → end_of p ≡ true
    → let before = expired time r in
    i < 4 → slot_at before.slots i ≡ Gathering (key_of p) q u h
    → let after = (step_of 64 time r m p).receiver in
    (after.tallies.gathering + 1 ≡ before.tallies.gathering)
    × (after.tallies.held + h ≡ before.tallies.held)
    × (after.tallies.offered ≡ next_tally before.tallies.offered)
    × (after.tallies.done ≡ next_tally before.tallies.done)
a_restart_that_ends time r m p i q u h right sized starts ends low gathers =
    let before = expired time r in
    let right_then = expired_right time r 64 right in
    let counted = offered_right 64 before right_then in
    let at : slot_for before.slots (key_of p) ≡ i =
    room_of_key 64 before (key_of p) i right_then low (holds_key (key_of p) q u h (slot_at before.slots i) gathers) in
    let step : (step_of 64 time r m p).receiver ≡ with_done (with_slot (with_offered before) i free_slot) =
    ap (λ (l : Left). l.receiver) (start_done 64 time r m p right sized starts (omega (arith, at, low)) ends)
    ∙ ap (λ (j : ℕ). with_done (with_slot (with_offered before) j free_slot)) at in
    let moves = tallies_move 64 (with_offered before) i free_slot (right_of 64 (with_offered before) counted)
    (right_of 64 (with_slot (with_offered before) i free_slot) (free_right 64 (with_offered before) i low counted)) low
    in
    rw step (
      omega (arith, moves.0, ap one_gathering gathers),
      omega (arith, moves.1, ap bytes_held gathers),
      refl,
      refl,
    )
