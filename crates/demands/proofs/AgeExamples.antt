-- Ages, number by number (document 02, #106): what is freed and when, both cases that are accepted, and an example for
-- the premise of each theorem in Ages.
-- Assumes nothing.
use mathlib.Core.Path.{◌≡◌, refl, ap, ◌∙◌}
use mathlib.Core.Bool.{true, false}
use mathlib.Core.List.{List, [], ◌∷◌, ◌++◌, map}
use Prim.Native.Nat.{ℕ, ◌+◌, ◌%◌, ◌≤◌, ◌<◌}
use native.Mathlib.Omega.{arith}
use lib.Dec.{lit<, lit≤}
use lib.ListN.{length, get_or, replicate}
use Rattle.octets.specs.Bytes.{Below, laid}
use Rattle.octets.specs.Checks.{Hold}
use Rattle.mctp.specs.Packet.{size_right, start_of}
use Rattle.mctp.specs.Key.{key_of, header_of, same_key}
use Rattle.pec.proofs.Tests.{all_bytes_lem}
use Rattle.pcc.specs.Layout.{region_for}
use Rattle.pcc.specs.Reading as pcc
use Rattle.slots.specs.declared.state.Slot.{Slot}
use Rattle.slots.specs.declared.state.SlotState.TheVariants.{Gathering}
use Rattle.slots.specs.declared.state.Receiver.{Receiver}
use Rattle.slots.specs.Slots.{free_slot, slot_at, has_key, first_of, slot_of, lowest_free}
use Rattle.slots.specs.State.{multiple, right_numbers, right_slot, clash, right_state}
use Rattle.slots.specs.Tallies.{sum_of}
use Rattle.slots.specs.Changes.{fresh, with_slot, set_up_refusal, free_refusal, freed_of}
use Rattle.slots.specs.Ages.{age, old_at, expired_to, expired}
use Rattle.slots.proofs.Literal.{setup, with_slots_lem, tallied, key, slot, since}
use Rattle.decision.specs.Checks.{packet_order, source_order}
use Rattle.decision.specs.Rules.{after, on_start, gathered, on_follow, ruled}
use Rattle.decision.specs.Decision.{decided}
use Rattle.receiver.specs.Step.{Said, refused, held, done, offered_to, step_of}
use Rattle.messages.specs.Run.{give, rules, freed, run}
use Rattle.messages.specs.Message.{calls_of, Starts}
use Rattle.messages.specs.Tallies.{SlotsTold}
use Rattle.rack.specs.declared.answer.Beside.TheVariants.{Notify}
use Rattle.rack.specs.Arrivals as carrier
use Rattle.rack.specs.Arrivals.{Arrival, by_pcc, brings}
use Rattle.rack.specs.Answers.{given, AfterArrival, arrived_of}
use Rattle.demands.specs.Presenting.{arrival}
use Rattle.demands.proofs.Numbers.{empty, packet_with}
use Rattle.demands.proofs.Steps.{crowded, middles}
use Rattle.demands.proofs.Demands as demands
use Rattle.demands.proofs.Ages as ages

-- a slot that has taken a start of two bytes, tag t, at this count
abbrev begun : ℕ → ℕ → Slot
begun t count = since count (slot (key 9 10 false t) 0 2 2)

-- the card at EID 9, with a limit of a second: its slot 0 has such a start
abbrev waiting : ℕ → Receiver
waiting count = with_slots_lem (begun 0 count) free_slot free_slot free_slot

-- what it answers to the next packet of that message, at another count
abbrev next : (count time : ℕ) → Said
next count time = (step_of 64 time (waiting count) empty (packet_with 0x10 2 7)).said

-- a card with four starts, the second and third of which came first
abbrev four : Receiver
four = with_slots_lem (begun 0 900) (begun 1 0) (begun 2 10) (begun 3 1000)

-- an empty region: the carrier's 2
no_region : brings 64 (by_pcc [] 3) ≡ carrier.none (carrier.refused 2)
unfolding carrier.pcc_brings pcc.refusal_of
no_region = refl

pub record Told : Type 0 where
  -- "exceeds": at an age of the limit the packet is held, and a millisecond later there is no start
  pub at_the_limit : map (next 0) (0 ∷ 1000 ∷ 1001 ∷ 60000 ∷ [])
      ≡ held 0 4 false ∷ held 0 4 false ∷ refused 19 ∷ refused 19 ∷ []
  -- "modulo 2^32": the count wraps to 0 between them
  pub wrapped : map (next 4294967290) (4294967295 ∷ 0 ∷ 994 ∷ 995 ∷ [])
      ≡ held 0 4 false ∷ held 0 4 false ∷ held 0 4 false ∷ refused 19 ∷ []
  -- "A clock stepped back a little below a slot's count frees it": accepted, no fault. So take the count at the call:
  -- of slots of 1,000, 1,001 and 1,002 a packet that was stamped 1,000 when it was queued frees two
  pub stepped_back : (next 1000 999 ≡ refused 19)
      × (expired 1000 (with_slots_lem (begun 0 1000) (begun 1 1001) (begun 2 1002) free_slot)
      ≡ with_slots_lem (begun 0 1000) free_slot free_slot free_slot)
  -- "a whole turn idle looks young": accepted, no fault. 4,294,967,296 ms later the count is the same
  pub whole_turn : next 5 ((5 + 4294967296) % 4294967296) ≡ held 0 4 false
  -- a middle renews the count: the third packet is 1,600 ms behind the start, and 800 behind the second
  pub renewed : (run 64 (waiting 0) empty
      (give 800 (packet_with 0x10 2 7) ∷ give 1600 (packet_with 0x20 2 7) ∷ give 2601 (packet_with 0x70 2 7)
      ∷ [])).answers
      ≡ rules (held 0 4 false) ∷ rules (held 0 6 false) ∷ rules (refused 19) ∷ []
  -- a start of an old key is not "again", and takes the lowest free slot: tag 2's was slot 2, and slot 1 is free too
  pub not_again : step_of 64 1011 four empty (packet_with 0x82 1 7)
      ≡ record {
        said = held 1 1 false;
        receiver = tallied 3 5 1 0
            (with_slots_lem (begun 0 900) (since 1011 (slot (key 9 10 false 2) 0 1 1)) free_slot (begun 3 1000));
        memory = replicate 1024 0 ++ (7 ∷ replicate 3071 0);
      }
  -- in time it is "again", in its own slot
  pub again : step_of 64 1010 four empty (packet_with 0x82 1 7)
      ≡ record {
        said = held 2 1 true;
        receiver = tallied 3 5 1 0
            (with_slots_lem (begun 0 900) free_slot (since 1010 (slot (key 9 10 false 2) 0 1 1)) (begun 3 1000));
        memory = replicate 2048 0 ++ (7 ∷ replicate 2047 0);
      }
  -- "whatever the packet's answer": refused with 3, 15, 16, 17, 19; the old slots are free, and the packet is counted
  pub refused_too : map (λ (p : List ℕ). step_of 64 1011 four empty p)
      ([] ∷ (0 ∷ 9 ∷ 10 ∷ 0xC0 ∷ 7 ∷ []) ∷ (1 ∷ 8 ∷ 10 ∷ 0xC0 ∷ 7 ∷ []) ∷ (1 ∷ 9 ∷ 7 ∷ 0xC0 ∷ 7 ∷ [])
      ∷ packet_with 0x17 1 7 ∷ [])
      ≡ map
      (λ (n : ℕ). record {
        said = refused n;
        receiver = tallied 2 4 1 0 (with_slots_lem (begun 0 900) free_slot free_slot (begun 3 1000));
        memory = empty;
      })
      (3 ∷ 15 ∷ 16 ∷ 17 ∷ 19 ∷ [])
  -- and with 20, where the packet's own slot becomes free too
  pub freed_too : step_of 64 1011 four empty (packet_with 0x20 2 7)
      ≡ record {
        said = refused 20;
        receiver = tallied 1 2 1 0 (with_slots_lem free_slot free_slot free_slot (begun 3 1000));
        memory = empty;
      }
  -- a fifth key gets 18 as long as no slot is old
  pub fifth_key : map (λ (time : ℕ). (step_of 64 time four empty (packet_with 0x84 1 7)).said) (1000 ∷ 1001 ∷ [])
      ≡ refused 18 ∷ held 1 1 false ∷ []
  -- 1 and 2 free nothing: wrong tallies, and a memory of no bytes
  pub not_freed_by_age : ((step_of 64 1011 (tallied 5 8 0 0 four) empty []).receiver ≡ tallied 5 8 0 0 four)
      × ((step_of 64 1011 four [] []).receiver ≡ four)
  -- document 01's message of 130, its counts wrapping on the way, the last packet at the limit
  pub over_the_wrap : (run 64 crowded empty
      (give 4294967000 (packet_with 0xBD 64 1) ∷ (calls_of middles ++ (give 1500 (packet_with 0x5D 2 3) ∷ [])))).answers
      ≡ rules (held 0 64 false) ∷ rules (held 1 1 false) ∷ rules (held 0 128 false) ∷ rules (refused 3) ∷ freed 0
      ∷ rules (done 0 130 false) ∷ []
  -- a receiver with these slots, and what the theorems below ask of a packet
  pub refusals : ((step_of 64 1011 four empty []).said ≡ refused 3)
      × ((step_of 64 1011 four empty (packet_with 0x20 2 7)).said ≡ refused 20)
      × ((step_of 64 1011 four empty (packet_with 0x17 1 7)).said ≡ refused 19)
  pub right : (right_state 64 four ≡ true) × (right_state 64 (waiting 4294967290) ≡ true)
  pub restarts : Starts 64 four.setup (packet_with 0x82 1 7)
  pub ends_too : Starts 64 four.setup (packet_with 0xC2 1 7)
  pub follows : Hold (packet_order 64 four.setup (packet_with 0x12 2 7) ++ source_order (packet_with 0x12 2 7))
  pub keys : (key_of (packet_with 0x82 1 7) ≡ key 9 10 false 2) × (key_of (packet_with 0xC2 1 7) ≡ key 9 10 false 2)
      × (key_of (packet_with 0x12 2 7) ≡ key 9 10 false 2)
  pub takes_it : has_key (key 9 10 false 2) (slot_at (step_of 64 1011 four empty (packet_with 0x82 1 7)).receiver.slots
      1)
      ≡ true

pub told : Told
unfolding free_refusal freed_of run step_of offered_to expired_to decided ruled on_start on_follow gathered
    after slot_of lowest_free first_of header_of key_of same_key right_state right_slot right_numbers multiple clash
    laid sum_of
told =
    record {
      at_the_limit = refl;
      wrapped = refl;
      stepped_back = (refl, refl);
      whole_turn = refl;
      renewed = refl;
      not_again = refl;
      again = refl;
      refused_too = refl;
      freed_too = refl;
      fifth_key = refl;
      not_freed_by_age = (refl, refl);
      over_the_wrap = refl;
      refusals = (refl, refl, refl);
      right = (refl, refl);
      restarts = record { checked = (refl, (refl, (refl, (refl, tt)))); start = refl };
      ends_too = record { checked = (refl, (refl, (refl, (refl, tt)))); start = refl };
      follows = (refl, (refl, (refl, (refl, tt))));
      keys = (refl, refl, refl);
      takes_it = refl;
    }

-- the theorems of Ages, each on the card with four starts
pub old_slots_are_freed_first : step_of 64 1011 four empty [] ≡ offered_to 64 1011 (expired 1011 four) empty []
old_slots_are_freed_first = ages.old_slots_are_freed_first 1011 four empty [] told.right.0 refl

pub each_slot_is_freed_or_stays : (get_or (expired 1011 four).slots 2 free_slot ≡ free_slot)
    × (get_or (expired 1011 four).slots 3 free_slot ≡ begun 3 1000)
each_slot_is_freed_or_stays = (
  ages.each_slot_is_freed_or_stays 1011 four 2 told.right.0 (lit< tt),
  ages.each_slot_is_freed_or_stays 1011 four 3 told.right.0 (lit< tt),
)

pub nothing_else_changes : ((expired 1011 four).setup ≡ four.setup) × SlotsTold (expired 1011 four)
    × ((expired 1011 four).tallies.offered ≡ 0) × ((expired 1011 four).tallies.done ≡ 0)
nothing_else_changes = ages.nothing_else_changes 1011 four told.right.0

-- a packet that is refused, and a start that is put into slot 1
pub no_slot_is_left_too_old : (old_at 1011 (step_of 64 1011 four empty []).receiver 2 ≡ false)
    × (old_at 1011 (step_of 64 1011 four empty (packet_with 0x82 1 7)).receiver 1 ≡ false)
no_slot_is_left_too_old = (
  ages.no_slot_is_left_too_old 1011 four empty [] (lit< tt) told.right.0 refl 2 (lit< tt),
  ages.no_slot_is_left_too_old 1011 four empty (packet_with 0x82 1 7) (lit< tt) told.right.0 refl 1 (lit< tt),
)

-- a start at 4,294,967,290, and the count 995 behind it: 1,001 ms. Likewise tag 2's start, at 10, and the count 1,011
pub it_is_too_old : (old_at 995 (waiting 4294967290) 0 ≡ true) × (old_at 1011 four 2 ≡ true)
it_is_too_old = (
  ages.it_is_too_old 995 (waiting 4294967290) 0 (key 9 10 false 0) 0 2 2 1001 refl (lit< tt) (lit< tt) (lit< tt) refl,
  ages.it_is_too_old 1011 four 2 (key 9 10 false 2) 0 2 2 1001 refl (lit< tt) (lit< tt) (lit< tt) refl,
)

-- its own start took slot 1 anew
pub the_half_message_is_gone :
    (slot_at (step_of 64 1011 four empty (packet_with 0x82 1 7)).receiver.slots 1
    ≡ Gathering (key 9 10 false 2) 0 1 1)
    × (key_of (packet_with 0x82 1 7) ≡ key 9 10 false 2)
    × (start_of (packet_with 0x82 1 7) ≡ true)
the_half_message_is_gone =
    let anew = ages.the_half_message_is_gone 1011 four empty (packet_with 0x82 1 7) 2 (key 9 10 false 2) 0 2 2
    told.right.0 refl (lit< tt) refl it_is_too_old.1 1 (lit< tt) told.takes_it in
    (anew.state, anew.key, anew.start)

pub then_a_slot_is_free : lowest_free (expired 1011 four).slots 0 4 < 4
then_a_slot_is_free =
    ages.then_a_slot_is_free 1011 four empty [] 2 (key 9 10 false 2) 0 2 2 told.right.0 refl (lit< tt) refl
    it_is_too_old.1

pub a_start_is_not_again : (step_of 64 1011 four empty (packet_with 0x82 1 7)).said ≡ held 1 1 false
unfolding expired_to lowest_free first_of
a_start_is_not_again =
    ages.a_start_is_not_again 1011 four empty (packet_with 0x82 1 7) 2 (key 9 10 false 2) 0 2 2 told.right.0 refl
    (lit< tt) refl it_is_too_old.1 told.keys.0 told.restarts refl

pub nor_is_one_that_ends : (step_of 64 1011 four empty (packet_with 0xC2 1 7)).said ≡ done 1 1 false
unfolding expired_to lowest_free first_of
nor_is_one_that_ends =
    ages.nor_is_one_that_ends 1011 four empty (packet_with 0xC2 1 7) 2 (key 9 10 false 2) 0 2 2 told.right.0 refl
    (lit< tt) refl it_is_too_old.1 told.keys.1 told.ends_too refl

pub any_other_packet_gets_19 : (step_of 64 1011 four empty (packet_with 0x12 2 7)).said ≡ refused 19
any_other_packet_gets_19 =
    ages.any_other_packet_gets_19 1011 four empty (packet_with 0x12 2 7) 2 (key 9 10 false 2) 0 2 2 told.right.0 refl
    (lit< tt) refl it_is_too_old.1 told.keys.2 told.follows refl

-- demand 1 where slots are old: two are left free, and the packet is counted; with 20 its own slot is free too
abbrev left : Receiver
left = tallied 2 4 1 0 (with_slots_lem (begun 0 900) free_slot free_slot (begun 3 1000))

pub given_and_refused : ((step_of 64 1011 four empty []).receiver ≡ left)
    × ((step_of 64 1011 four empty []).memory ≡ empty)
unfolding expired_to sum_of
given_and_refused =
    let same = demands.given_and_refused 1011 four empty [] 3 told.refusals.0 (lit≤ tt) (λ e. omega arith)
    (λ e. omega arith) (λ e. omega arith) in
    (same.receiver, same.memory)

pub given_and_freed : (i : ℕ) × (i < 4) × (has_key (key 9 10 false 0) (slot_at left.slots i) ≡ true)
    × ((step_of 64 1011 four empty (packet_with 0x20 2 7)).receiver ≡ with_slot left i free_slot)
    × ((step_of 64 1011 four empty (packet_with 0x20 2 7)).memory ≡ empty)
unfolding expired_to sum_of key_of
given_and_freed =
    let f = demands.given_and_freed 1011 four empty (packet_with 0x20 2 7) 20 told.refusals.1 (lit≤ tt) in
    (f.slot, f.one_of_four, f.has_the_key, f.receiver, f.memory)

-- the same by a region
abbrev region : List ℕ → Arrival
region p = by_pcc (region_for 3 true p) 3

brought : (p : List ℕ) → Below 256 p → size_right 64 (length p) ≡ true
    → brings 64 (region p) ≡ carrier.packet p (Notify true)
brought p small sized = (demands.every_packet_by_pcc p 3 true small sized (lit≤ tt)).1

pub refused_by_the_rules : ((arrival 64 1011 four empty (region (packet_with 0x17 1 7))).receiver ≡ left)
    × ((arrival 64 1011 four empty (region (packet_with 0x17 1 7))).memory ≡ empty)
unfolding expired_to sum_of
refused_by_the_rules =
    let p = packet_with 0x17 1 7 in
    let same = demands.refused_by_the_rules 1011 four empty (region p) (Notify true) 19
    (ap (λ (c : carrier.Brought). (arrived_of 64 1011 four empty c).told) (brought p (all_bytes_lem p tt) refl)
    ∙ ap (given (Notify true)) told.refusals.2) (lit≤ tt) (λ e. omega arith) (λ e. omega arith)
    (λ e. omega arith) in
    (same.receiver, same.memory)

pub refused_and_freed : (i : ℕ) × (i < 4) × (has_key (key 9 10 false 0) (slot_at left.slots i) ≡ true)
    × ((arrival 64 1011 four empty (region (packet_with 0x20 2 7))).receiver ≡ with_slot left i free_slot)
    × ((arrival 64 1011 four empty (region (packet_with 0x20 2 7))).memory ≡ empty)
unfolding expired_to sum_of key_of
refused_and_freed =
    let p = packet_with 0x20 2 7 in
    let is = brought p (all_bytes_lem p tt) refl in
    let f = demands.refused_and_freed 1011 four empty p (region p) (Notify true) 20 is
    (ap (λ (c : carrier.Brought). (arrived_of 64 1011 four empty c).told) is
    ∙ ap (given (Notify true)) told.refusals.1) (lit≤ tt) in
    (f.slot, f.one_of_four, f.has_the_key, f.receiver, f.memory)

-- and a carrier's refusal frees nothing: an empty region
pub without_a_packet : (arrival 64 1011 four empty (by_pcc [] 3)).receiver ≡ four
without_a_packet =
    ap (λ (l : AfterArrival). l.receiver)
    (demands.without_a_packet 1011 four empty (by_pcc [] 3) (carrier.refused 2) no_region)

-- 1,000 ms behind 4,294,967,290 the count is 994
pub later_within_the_limit_is_in_time : age 994 4294967290 ≤ 1000
later_within_the_limit_is_in_time =
    ages.later_within_the_limit_is_in_time (setup 9 1000) 4294967290 1000 refl (lit< tt) (lit≤ tt)

-- 0 and 60,001
pub a_wrong_limit_is_refused : (set_up_refusal (setup 9 0) ≡ 1) × (set_up_refusal (setup 9 60001) ≡ 1)
a_wrong_limit_is_refused =
    (ages.a_wrong_limit_is_refused (setup 9 0) refl, ages.a_wrong_limit_is_refused (setup 9 60001) refl)

abbrev Refused : Receiver → Type 0
Refused r =
    (step_of 64 7 r empty [] ≡ record { said = refused 1; receiver = r; memory = empty })
    × (free_refusal 64 r 0 ≡ 1) × (freed_of 64 r 0 ≡ r)

pub a_wrong_limit_stored_is_refused : Refused (fresh (setup 9 0)) × Refused (fresh (setup 9 60001))
a_wrong_limit_stored_is_refused = (
  ages.a_wrong_limit_stored_is_refused 7 (fresh (setup 9 0)) empty [] 0 refl,
  ages.a_wrong_limit_stored_is_refused 7 (fresh (setup 9 60001)) empty [] 0 refl,
)
