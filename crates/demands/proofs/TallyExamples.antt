-- No premise is empty: each theorem of Tallies that has one, used on an input that meets all of its premises at once,
-- with the panel's numbers written out.
-- Assumes nothing.
use mathlib.Core.Path.{◌≡◌, refl}
use mathlib.Core.Bool.{true}
use mathlib.Core.List.{List, [], ◌∷◌}
use Prim.Native.Nat.{ℕ, ◌+◌}
use native.Mathlib.Omega.{arith}
use lib.Dec.{lit<, lit≤}
use Rattle.smbus.proofs.Literal.{literal_frame, literal_packet}
use Rattle.mctp.specs.Key.{key_of}
use Rattle.slots.specs.declared.state.Slot.{Slot}
use Rattle.slots.specs.declared.state.SlotState.TheVariants.{Gathering}
use Rattle.slots.specs.declared.state.Receiver.{Receiver}
use Rattle.slots.specs.State.{right_state}
use Rattle.slots.specs.Tallies.{sum_of, gathering_in, held_in, stopped}
use Rattle.slots.specs.declared.state.Setup.{Setup}
use Rattle.slots.specs.Ages.{expired_to}
use Rattle.slots.specs.Changes.{with_slot, set_up_of, free_refusal, freed_of}
use Rattle.slots.proofs.Literal.{tallied}
use Rattle.receiver.specs.Effects.{Unchanged}
use Rattle.receiver.specs.Step.{refused, step_of}
use Rattle.messages.specs.Run.{Call, give, free, called, run}
use Rattle.messages.specs.Tallies.{is_offered, is_done, how_many, SlotsTold}
use Rattle.rack.specs.Arrivals.{by_smbus}
use Rattle.demands.specs.Presenting.{arrival}
use Rattle.demands.proofs.Numbers.{card, empty, packet_with}
use Rattle.demands.proofs.Steps.{gathering, steps}
use Rattle.demands.proofs.Tallies as tallies

-- the card at EID 9
abbrev nine : Setup
nine = record { own = record { 0 = 9 }; limit = 1000 }

-- a start of one byte; document 01's frame
pub true_after_every_call : SlotsTold (called 64 card empty (give 0 (packet_with 0x80 1 7))).receiver
true_after_every_call = tallies.true_after_every_call card empty (give 0 (packet_with 0x80 1 7)) steps.right

pub true_after_every_arrival : SlotsTold (arrival 64 0 card empty (by_smbus literal_frame 32)).receiver
true_after_every_arrival = tallies.true_after_every_arrival 0 card empty (by_smbus literal_frame 32) steps.right

-- slot 3, and slot 4, which isn't there, set to what no right state holds
abbrev too_large : Slot
too_large = record { state = Gathering (key_of literal_packet) 9 0 65535; since = 5 }

pub true_after_a_slot_is_set : SlotsTold (with_slot gathering 3 too_large) × SlotsTold (with_slot gathering 4 too_large)
true_after_a_slot_is_set = (
  tallies.true_after_a_slot_is_set gathering 3 too_large steps.right_gathering (lit≤ tt),
  tallies.true_after_a_slot_is_set gathering 4 too_large steps.right_gathering (lit≤ tt),
)

pub true_after_counting : SlotsTold (tallied 1 1 2 0 gathering) × SlotsTold (tallied 1 1 1 1 gathering)
true_after_counting = tallies.true_after_counting gathering steps.right_gathering

-- a panel that has counted all that it can
abbrev full : Receiver
full = tallied 0 0 4294967295 4294967295 card

abbrev more : List Call
more = give 0 literal_packet ∷ free 0 ∷ give 0 literal_packet ∷ []

pub they_stay_where_they_stop : ((run 64 full empty more).receiver.tallies.offered ≡ 4294967295)
    × ((run 64 full empty more).receiver.tallies.done ≡ 4294967295)
they_stay_where_they_stop =
    let stay = tallies.they_stay_where_they_stop full empty more in
    (stay.0 refl, stay.1 refl)

-- one slot too many told, and no byte where one is held
abbrev wrong_slots : Receiver
wrong_slots = tallied 1 0 0 0 card

abbrev wrong_bytes : Receiver
wrong_bytes = tallied 1 0 1 0 gathering

wrong : (SlotsTold wrong_slots → ⊥) × (SlotsTold wrong_bytes → ⊥)
unfolding sum_of
wrong = (
  (λ e. let one : ◌≡◌ {A = ℕ} 1 0 = e.0 in omega arith),
  (λ e. let none : ◌≡◌ {A = ℕ} 0 1 = e.1 in omega arith),
)

abbrev Refused : Receiver → Type 0
Refused r =
    ((step_of 64 0 r empty literal_packet).said ≡ refused 1)
    × Unchanged r empty (step_of 64 0 r empty literal_packet).receiver (step_of 64 0 r empty literal_packet).memory
    × (free_refusal 64 r 0 ≡ 1) × (freed_of 64 r 0 ≡ r)

pub wrong_tallies_are_refused : Refused wrong_slots × Refused wrong_bytes
wrong_tallies_are_refused = (
  tallies.wrong_tallies_are_refused 0 wrong_slots empty literal_packet 0 wrong.0,
  tallies.wrong_tallies_are_refused 0 wrong_bytes empty literal_packet 0 wrong.1,
)

pub any_value_of_the_last_two_passes : right_state 64 (tallied 0 0 1 4294967295 card) ≡ true
any_value_of_the_last_two_passes = tallies.any_value_of_the_last_two_passes card 1 4294967295 steps.right

-- a receiver that has taken a start of one byte: its slot freed, and begun again with two bytes
pub a_slot_freed_leaves_the_tallies :
    ((freed_of 64 gathering 0).tallies.gathering + 1 ≡ 1) × ((freed_of 64 gathering 0).tallies.held + 1 ≡ 1)
    × ((freed_of 64 gathering 0).tallies.offered ≡ 1) × ((freed_of 64 gathering 0).tallies.done ≡ 0)
a_slot_freed_leaves_the_tallies =
    tallies.a_slot_freed_leaves_the_tallies gathering 0 _ 0 1 1 steps.right_gathering (lit< tt) refl

pub a_restart_moves_by_the_difference :
    let after = (step_of 64 0 gathering empty (packet_with 0x80 2 7)).receiver in
    (after.tallies.gathering ≡ 1) × (after.tallies.held + 1 ≡ 3) × (after.tallies.offered ≡ 2)
    × (after.tallies.done ≡ 0)
unfolding expired_to
a_restart_moves_by_the_difference =
    tallies.a_restart_moves_by_the_difference 0 gathering empty (packet_with 0x80 2 7) 0 0 1 1 steps.right_gathering
    refl steps.begun_again refl (lit< tt) steps.its_slot

-- and ended at once, with three bytes
pub a_restart_that_ends :
    let after = (step_of 64 0 gathering empty (packet_with 0xC0 3 7)).receiver in
    (after.tallies.gathering + 1 ≡ 1) × (after.tallies.held + 1 ≡ 1) × (after.tallies.offered ≡ 2)
    × (after.tallies.done ≡ 1)
unfolding expired_to
a_restart_that_ends =
    tallies.a_restart_that_ends 0 gathering empty (packet_with 0xC0 3 7) 0 0 1 1 steps.right_gathering
    refl steps.ended_at_once refl (lit< tt) steps.its_slot_then

-- what the panel shows, number by number: after a start, its restart that ends, and one packet that is refused
abbrev few : List Call
few = give 0 (packet_with 0x80 1 7) ∷ give 0 (packet_with 0xC0 3 7) ∷ give 0 (packet_with 0x40 1 7) ∷ []

pub the_panel_shows_all_four :
    let after = run 64 (set_up_of nine) empty few in
    ((after.receiver.tallies.gathering ≡ gathering_in after.receiver.slots)
    × (after.receiver.tallies.held ≡ held_in after.receiver.slots))
    × (after.receiver.tallies.offered ≡ stopped (how_many is_offered after.answers))
    × (after.receiver.tallies.done ≡ stopped (how_many is_done after.answers))
the_panel_shows_all_four =
    let shows = tallies.the_panel_shows_all_four nine empty few in
    (shows.slots, shows.offered, shows.done)
