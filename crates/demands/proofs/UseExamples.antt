-- A receiver in use, written out: packets given directly, arrivals on two paths, one of them bad, and slots freed.
-- Assumes nothing.
use mathlib.Core.Path.{◌≡◌, refl, ap, ◌∙◌}
use mathlib.Core.Bool.{true, false}
use mathlib.Core.List.{List, [], ◌∷◌, ◌++◌, map}
use Prim.Native.Nat.{ℕ}
use lib.Dec.{lit≤}
use Rattle.octets.specs.Bytes.{laid}
use Rattle.mctp.specs.Key.{key_of, header_of, same_key}
use Rattle.pec.proofs.Tests.{all_bytes_lem}
use Rattle.smbus.proofs.Literal.{literal_frame, literal_packet}
use Rattle.pcc.specs.Layout.{region_for}
use Rattle.slots.specs.Slots.{first_of, slot_of, lowest_free}
use Rattle.slots.specs.State.{multiple, right_numbers, right_slot, clash, right_state}
use Rattle.slots.specs.Tallies.{sum_of}
use Rattle.slots.specs.declared.state.Setup.{Setup}
use Rattle.slots.specs.declared.state.Receiver.{Receiver}
use Rattle.slots.specs.Changes.{set_up_of, free_refusal, freed_of}
use Rattle.slots.specs.Ages.{expired_to}
use Rattle.slots.proofs.Literal.{tallied}
use Rattle.decision.specs.Rules.{after, on_start, gathered, on_follow, ruled}
use Rattle.decision.specs.Decision.{decided}
use Rattle.receiver.specs.Step.{refused, held, done, offered_to, step_of}
use Rattle.messages.specs.Tallies.{Shows}
use Rattle.messages.specs.Run.{Call, give, free, rules, freed, Ran, run}
use Rattle.rack.specs.Arrivals.{Arrival, by_smbus, by_pcc}
use Rattle.demands.specs.Presenting.{packet_in}
use Rattle.demands.specs.Using.{Use, arrives, calls, used, given_at, bare_calls}
use Rattle.demands.proofs.Numbers.{card, empty, packet_with}
use Rattle.demands.proofs.Checked.{literal_brought}
use Rattle.demands.proofs.Demands.{every_packet_by_pcc}
use Rattle.demands.proofs.InUse.{the_path_does_not_matter_among_calls}
use Rattle.demands.proofs.InUse as uses
use Rattle.demands.proofs.Examples.{no_frame}

-- a start, given directly
abbrev begins : List ℕ
begins = packet_with 0x80 1 7

-- its end, in a region
abbrev ends : List ℕ
ends = packet_with 0x50 1 8

abbrev end_region : Arrival
end_region = by_pcc (region_for 3 true ends) 3

-- the start, and its end by the region: done; an empty frame: nothing; the start again, its slot freed, and its end,
-- which then has no start; document 01's frame; and a slot that isn't there
abbrev pub mixed : List Use
mixed =
    calls (give 7 begins)
    ∷ arrives (7, end_region)
    ∷ arrives (8, by_smbus [] 32)
    ∷ calls (give 8 begins)
    ∷ calls (free 0)
    ∷ arrives (9, end_region)
    ∷ arrives (9, by_smbus literal_frame 32)
    ∷ calls (free 4)
    ∷ []

-- its bare calls: each packet where its arrival stood, and the slots freed where they were
abbrev bare : List Call
bare =
    give 7 begins ∷ give 7 ends ∷ give 8 begins ∷ free 0 ∷ give 9 ends ∷ give 9 literal_packet ∷ free 4 ∷ []

pub mixed_bare : bare_calls 64 mixed ≡ bare
unfolding bare_calls
mixed_bare =
    let region = (every_packet_by_pcc ends 3 true (all_bytes_lem ends tt) refl (lit≤ tt)).1 in
    λ j. (give 7 begins ∷ [])
    ++ (map given_at (packet_in 7 (region j))
    ++ (map given_at (packet_in 8 (no_frame j))
    ++ ((give 8 begins ∷ [])
    ++ ((free 0 ∷ [])
    ++ (map given_at (packet_in 9 (region j))
    ++ (map given_at (packet_in 9 (literal_brought j)) ++ ((free 4 ∷ []) ++ [])))))))

-- the answers, the two messages, and the panel: five packets offered, two messages done
abbrev Mixed : Ran → Type 0
Mixed ran =
    (ran.answers
    ≡ rules (held 0 1 false) ∷ rules (done 0 2 false) ∷ rules (held 0 1 false) ∷ freed 0 ∷ rules (refused 19)
    ∷ rules (done 0 1 false) ∷ freed 1 ∷ [])
    × (ran.messages ≡ (7 ∷ 8 ∷ []) ∷ (0 ∷ []) ∷ [])
    × (ran.receiver ≡ tallied 0 0 5 2 card)

mixed_runs : Mixed (run 64 card empty bare)
unfolding run step_of offered_to expired_to free_refusal freed_of decided ruled on_start
    on_follow gathered after slot_of lowest_free first_of header_of key_of same_key right_state right_slot
    right_numbers multiple
    clash laid sum_of
mixed_runs = (refl, refl, refl)

pub mixed_used : Mixed (used 64 card empty mixed)
mixed_used =
    rw (the_path_does_not_matter_among_calls card empty mixed ∙ ap (run 64 card empty) mixed_bare) mixed_runs

-- what the panel shows then, number by number: five packets offered, two messages done, one slot freed and one packet
-- that had no start; and where both counts have stopped, they stay
abbrev nine : Setup
nine = record { own = record { 0 = 9 }; limit = 1000 }

pub the_panel_shows_all_four_in_use : Shows (used 64 (set_up_of nine) empty mixed).receiver
    (used 64 (set_up_of nine) empty mixed).answers
the_panel_shows_all_four_in_use = uses.the_panel_shows_all_four_in_use nine empty mixed

abbrev stopped_card : Receiver
stopped_card = tallied 0 0 4294967295 4294967295 card

pub they_stay_where_they_stop_in_use : ((used 64 stopped_card empty mixed).receiver.tallies.offered ≡ 4294967295)
    × ((used 64 stopped_card empty mixed).receiver.tallies.done ≡ 4294967295)
they_stay_where_they_stop_in_use =
    let stay = uses.they_stay_where_they_stop_in_use stopped_card empty mixed in (stay.0 refl, stay.1 refl)
