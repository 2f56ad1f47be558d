-- No premise is empty: each theorem of Resets that has one, used on an input that meets all of its premises at once.
-- Assumes nothing.
use mathlib.Core.Path.{◌≡◌, refl, ◌∙◌}
use mathlib.Core.Bool.{true, false}
use mathlib.Core.List.{List, [], ◌∷◌, ◌++◌, map}
use mathlib.Core.Logic.{inl}
use Prim.Native.Nat.{ℕ, ◌≤◌}
use lib.Dec.{lit≤}
use lib.ListN.{length, take, replicate}
use Rattle.octets.specs.Bytes.{fronted}
use Rattle.octets.specs.Words.{word_at, word_bytes}
use Rattle.mmbi.specs.declared.change.Act.TheVariants.{SetReset, ClearBoth}
use Rattle.mmbi.specs.declared.change.Change.TheVariants.{Host}
use Rattle.mmbi.specs.Interface.{flags_of, asked_by_host, acknowledged, transitioning, all_clear, state_of, may_read}
use Rattle.pec.proofs.Tests.{all_bytes_lem}
use Rattle.descriptor.specs.Configuration.{inside, clear, allowed}
use Rattle.descriptor.proofs.Literal.{window_image, image_configuration}
use Rattle.window.specs.Words.{interface_in, stored_flags, reflagged}
use Rattle.window.proofs.Literal.{image_words}
use Rattle.smbus.proofs.Literal.{literal_packet}
use Rattle.ring.specs.Layout.{packet_of, header_for, ring_bytes}
use Rattle.ring.specs.Numbers.{room_of, filled_of, next_of}
use Rattle.ring.specs.Round.{round_from, stored}
use Rattle.ring.specs.Reading.{judged, found_of}
use Rattle.ring.specs.Runs.{wrote, drained}
use Rattle.ring.specs.Writing.{entered_of}
use Rattle.handshake.specs.declared.controller.ControllerPhase.TheVariants as controller
use Rattle.handshake.specs.declared.host.HostPhase.TheVariants as host
use Rattle.handshake.specs.Order.{among, KeepsHost}
use Rattle.handshake.specs.Back.{in_turn, host_asks, asking, steps_back, trace, BackWithin, misled, beyond_help}
use Rattle.handshake.specs.Runs.{the_host, the_controller, Move, steps, asks, after, running}
use Rattle.handshake.specs.Steps.{host_step, host_waits, controller_step, controller_waits}
use Rattle.handshake.specs.Starts.{power_up, Incident, moves, restarts, after_incidents}
use Rattle.handshake.proofs.Fair.{fair_order, uneven, fair_orders}
use Rattle.demands.specs.Turns as turns
use Rattle.demands.specs.Turns.{Event, put, drain, reinitializes, Link, after_all, start_with}
use Rattle.demands.proofs.Resets as resets

-- the controller in phase asked leaves the host's flags, and in phase down at 0111 clears them
pub the_controller_writes_its_own_flags : KeepsHost (controller_step controller.Asked acknowledged).change
    × ((controller_step controller.Down transitioning).change ≡ Host ClearBoth)
the_controller_writes_its_own_flags = (
  (resets.the_controller_writes_its_own_flags controller.Asked acknowledged).0 refl,
  (resets.the_controller_writes_its_own_flags controller.Down transitioning).1 refl,
)

-- a host that waits sees its own ask, 1011; a controller that is to ask sees all ones, and one that asked all zeros
pub the_host_waits_out_of_order : host_step host.Waiting asked_by_host ≡ host_waits host.Waiting
the_host_waits_out_of_order = resets.the_host_waits_out_of_order host.Waiting asked_by_host refl

pub the_controller_waits_out_of_order :
    (controller_step controller.Asking acknowledged ≡ controller_waits controller.Asking)
    × (controller_step controller.Asked all_clear ≡ controller_waits controller.Asked)
the_controller_waits_out_of_order = (
  resets.the_controller_waits_out_of_order controller.Asking acknowledged refl,
  resets.the_controller_waits_out_of_order controller.Asked all_clear refl,
)

-- twelve steps, where the host asks and the controller steps first, with 1111 and 0000 on the way
pub normal_runtime_comes_back :
    (steps_back (in_turn the_controller 12) (asking host_asks) ≡ 12)
    × (among (trace (in_turn the_controller 12) (asking host_asks)) (flags_of true true true true) ≡ true)
    × (among (trace (in_turn the_controller 12) (asking host_asks)) (flags_of false false false false) ≡ true)
normal_runtime_comes_back =
    let back = resets.normal_runtime_comes_back host_asks the_controller in (back.counted, back.acked, back.cleared)

-- the host twice, then the controller: at most 21 steps
pub it_comes_back_in_any_fair_order :
    (n : ℕ) × (n ≤ 21) × (after (map steps (take n uneven)) (asking host_asks) ≡ running)
it_comes_back_in_any_fair_order =
    let back =
    resets.it_comes_back_in_any_fair_order host_asks 3 uneven (fair_order 3 uneven fair_orders.1) (lit≤ tt) in
    (back.count, back.soon, back.back)

-- the host sets H_UP and asks again before the controller has looked
abbrev again : List Move
again =
    asks the_controller ∷ steps the_controller ∷ steps the_host ∷ steps the_controller ∷ steps the_controller
    ∷ steps the_controller ∷ steps the_controller ∷ steps the_host ∷ asks the_host ∷ steps the_host ∷ []

pub nothing_is_stuck : BackWithin 16 (in_turn the_host 16) (after again running)
nothing_is_stuck =
    resets.nothing_is_stuck again 2 (in_turn the_host 16) (fair_order 2 (in_turn the_host 16) fair_orders.0) (lit≤ tt)

-- the host restarts in normal runtime, so it asks; the controller restarts before it has looked, so it asks too
abbrev both_restart : List Incident
both_restart = restarts the_host ∷ moves (steps the_host) ∷ restarts the_controller ∷ []

pub restarts_are_survived : BackWithin 16 (in_turn the_host 16) (after_incidents both_restart running)
restarts_are_survived =
    resets.restarts_are_survived both_restart 2 (in_turn the_host 16) (fair_order 2 (in_turn the_host 16) fair_orders.0)
    (lit≤ tt)

pub they_come_up_from_power_up : BackWithin 4 (in_turn the_host 16) power_up
they_come_up_from_power_up =
    resets.they_come_up_from_power_up 2 (in_turn the_host 16) (fair_order 2 (in_turn the_host 16) fair_orders.0)
    (lit≤ tt)

-- a controller that is to ask in normal runtime is shown all ones
pub one_wrong_sight_is_survived : BackWithin 16 (in_turn the_host 16)
    (misled the_controller acknowledged (after (asks the_controller ∷ []) running))
unfolding after
one_wrong_sight_is_survived =
    resets.one_wrong_sight_is_survived (asks the_controller ∷ []) the_controller acknowledged to_ask 2
    (in_turn the_host 16)
    (fair_order 2 (in_turn the_host 16) fair_orders.0) (lit≤ tt)
  where
    to_ask : beyond_help the_controller acknowledged (after (asks the_controller ∷ []) running) ≡ false
    to_ask = refl

-- the window of document 003's tables, written out: H_RST set
image_allowed : allowed (length window_image) image_configuration ≡ true
unfolding allowed inside clear
image_allowed = refl

pub a_step_is_stored_beside_any_pointer :
    interface_in (stored_flags window_image image_configuration (Host SetReset)) image_configuration
    ≡ reflagged (interface_in window_image image_configuration) asked_by_host
a_step_is_stored_beside_any_pointer =
    resets.a_step_is_stored_beside_any_pointer window_image image_configuration
    (all_bytes_lem window_image tt) image_allowed
    (inl (lit≤ tt)) (Host SetReset)
    ∙ rw image_words

-- a packet in each ring; the controller asks, and both ends have turns until the data structures are reinitialized
abbrev turned : List Event
turned =
    turns.puts the_host literal_packet
    ∷ turns.puts the_controller (literal_packet ++ literal_packet)
    ∷ turns.asks the_controller
    ∷ turns.turn the_controller
    ∷ turns.puts the_host literal_packet
    ∷ turns.turn the_host
    ∷ turns.turn the_controller
    ∷ turns.turn the_controller
    ∷ turns.turn the_controller
    ∷ []

abbrev room : List ℕ
room = replicate 68 0

abbrev begin : Link
begin = start_with (replicate 128 0) 124 (replicate 128 0) 0

turned_zeros : reinitializes (after_all 64 room turned begin).ends ≡ true
unfolding after_all host_step controller_step
turned_zeros = refl

-- of the two packets that the host offered, the one that came before the flags left 1010 was stored
turned_sent : ((after_all 64 room turned begin).h2b.sent ≡ literal_packet ∷ [])
    × ((after_all 64 room turned begin).b2h.sent ≡ (literal_packet ++ literal_packet) ∷ [])
unfolding after_all host_step controller_step put drain wrote entered_of filled_of room_of next_of state_of stored
    round_from
    fronted ring_bytes word_bytes
turned_sent = (refl, refl)

pub a_graceful_reset_loses_no_packet : ((after_all 64 room turned begin).h2b.got ≡ literal_packet ∷ [])
    × ((after_all 64 room turned begin).b2h.got ≡ (literal_packet ++ literal_packet) ∷ [])
a_graceful_reset_loses_no_packet =
    let all =
    resets.a_graceful_reset_loses_no_packet room (replicate 128 0) 124 (replicate 128 0) 0 (lit≤ tt) refl refl turned
    turned_zeros in
    (all.h2b ∙ turned_sent.0, all.b2h ∙ turned_sent.1)

-- on from there, past the clear: the rings start anew at 0, and what was got before isn't forgotten
abbrev onwards : List Event
onwards =
    turned
    ++ (turns.turn the_controller
    ∷ turns.turn the_host
    ∷ turns.puts the_controller literal_packet
    ∷ turns.turn the_host
    ∷ [])

pub got_onwards : ((after_all 64 room onwards begin).b2h.got ≡ (literal_packet ++ literal_packet) ∷ literal_packet ∷ [])
    × ((after_all 64 room onwards begin).b2h.read ≡ 12)
unfolding after_all host_step controller_step put drain wrote entered_of filled_of room_of next_of state_of stored
    round_from
    fronted ring_bytes word_bytes drained found_of judged packet_of header_for word_at
got_onwards = (refl, refl)

-- and with both packets still in the rings
abbrev offered : List Event
offered = turns.puts the_host literal_packet ∷ turns.puts the_controller (literal_packet ++ literal_packet) ∷ []

offered_readable : may_read (state_of (after_all 64 room offered begin).ends.flags) ≡ true
unfolding after_all state_of
offered_readable = refl

offered_sent : (after_all 64 room offered begin).h2b.sent ≡ literal_packet ∷ []
unfolding after_all put entered_of filled_of room_of next_of state_of
offered_sent = refl

pub what_was_sent_can_be_got : (turns.both_drained 64 room (after_all 64 room offered begin)).h2b.got
    ≡ literal_packet ∷ []
unfolding drain
what_was_sent_can_be_got =
    (resets.what_was_sent_can_be_got room (replicate 128 0) 124 (replicate 128 0) 0 (lit≤ tt) refl refl offered
    offered_readable).h2b
    ∙ offered_sent
