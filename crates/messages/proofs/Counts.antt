-- Document 01's numbers about messages that aren't in the demands' list, and document 02's tallies (#102), by
-- computation.
-- Assumes nothing.
use mathlib.Core.Path.{◌≡◌, refl, ap}
use mathlib.Core.Bool.{true, false}
use mathlib.Core.List.{List, [], ◌∷◌, ◌++◌, map}
use Prim.Native.Nat.{ℕ, ◌+◌, ◌*◌}
use lib.ListN.{take, replicate}
use Rattle.octets.specs.Bytes.{laid}
use Rattle.mctp.specs.Key.{key_of, header_of, same_key}
use Rattle.slots.specs.Slots.{free_slot, first_of, slot_of, lowest_free}
use Rattle.slots.specs.State.{multiple, right_numbers, right_slot, clash, right_state}
use Rattle.slots.specs.Tallies.{sum_of}
use Rattle.slots.specs.Changes.{free_refusal, freed_of}
use Rattle.slots.specs.Ages.{expired_to}
use Rattle.slots.specs.declared.state.Receiver.{Receiver}
use Rattle.slots.specs.declared.state.Tallies.{Tallies}
use Rattle.slots.proofs.Literal.{with_slots_lem, tallied, card, gathering}
use Rattle.decision.specs.Rules.{after, on_start, gathered, on_follow, ruled}
use Rattle.decision.specs.Decision.{decided}
use Rattle.decision.proofs.Literal.{packet}
use Rattle.receiver.specs.Step.{refused, held, done, offered_to, step_of}
use Rattle.messages.specs.Run.{Call, give, free, rules, freed, message, at_once, run, run_packets}
use Rattle.messages.specs.Tallies.{is_offered, is_done, how_many}

abbrev empty : List ℕ
empty = replicate 4096 0

-- the panel's four numbers
abbrev shown : ℕ → ℕ → ℕ → ℕ → Tallies
shown slots bytes packets messages = (tallied slots bytes packets messages card).tallies

-- "1,024 bytes held, then one more": 22, and the slot is free; up to 1,024 is held
pub one_more_lem : step_of 64 0 (with_slots_lem (gathering 5 1024) (gathering 6 64) (gathering 7 64) (gathering 4 64))
    empty
    (packet 0x5D 1 7)
    ≡ record {
      said = refused 22;
      receiver = tallied 3 192 1 0 (with_slots_lem free_slot (gathering 6 64) (gathering 7 64) (gathering 4 64));
      memory = empty;
    }
unfolding step_of offered_to expired_to decided ruled on_start on_follow gathered
    after slot_of lowest_free first_of header_of key_of same_key right_state right_slot right_numbers multiple clash
    laid sum_of
one_more_lem = refl

pub up_to_the_end : (step_of 64 0 (with_slots_lem (gathering 5 960) (gathering 6 64) (gathering 7 64) (gathering 4 64))
    empty
    (packet 0x5D 64 7)).said ≡ done 0 1024 false
unfolding step_of offered_to expired_to decided ruled on_start on_follow gathered
    after slot_of lowest_free first_of header_of key_of same_key right_state right_slot right_numbers multiple clash
    laid sum_of
up_to_the_end = refl

-- "Fifth key: 18; after a slot is freed it is taken."
pub fifth_key : (run 64 (with_slots_lem (gathering 4 64) (gathering 5 64) (gathering 6 64) (gathering 7 64)) empty
    (give 0 (packet 0x88 1 7) ∷ free 2 ∷ give 0 (packet 0x88 1 7) ∷ [])).answers
    ≡ rules (refused 18) ∷ freed 0 ∷ rules (held 2 1 false) ∷ []
unfolding run step_of offered_to expired_to free_refusal freed_of decided ruled on_start
    on_follow gathered after slot_of lowest_free first_of header_of key_of same_key right_state right_slot
    right_numbers multiple
    clash laid sum_of
fifth_key = refl

-- "A sequence that must begin at 0. Any first number is right."
pub any_first_sequence : map (λ (q : ℕ). (step_of 64 0 card empty (packet (0x80 + 16 * q) 1 7)).said)
    (0 ∷ 1 ∷ 2 ∷ 3 ∷ [])
    ≡ held 0 1 false ∷ held 0 1 false ∷ held 0 1 false ∷ held 0 1 false ∷ []
unfolding step_of offered_to expired_to decided ruled on_start on_follow gathered
    after slot_of lowest_free first_of header_of key_of same_key right_state right_slot right_numbers multiple clash
    laid sum_of
any_first_sequence = refl

-- "fed at one time": each with that count
pub at_one_count : at_once {A = ℕ} 7 (1 ∷ 2 ∷ []) ≡ (7, 1) ∷ (7, 2) ∷ []
at_one_count = refl

-- a restart says "again", and a message of one packet is done at once
pub restart_says_again : (run_packets 64 card empty
    (at_once 0 (packet 0x80 1 7 ∷ packet 0x80 2 7 ∷ packet 0xC0 3 7 ∷ packet 0xC0 4 7 ∷ []))).answers
    ≡ rules (held 0 1 false) ∷ rules (held 0 2 true) ∷ rules (done 0 3 true) ∷ rules (done 0 4 false) ∷ []
unfolding run step_of offered_to expired_to decided ruled on_start on_follow
    gathered after slot_of lowest_free first_of header_of key_of same_key right_state right_slot right_numbers multiple
    clash
    laid sum_of
restart_says_again = refl

-- "1,024 for each slot": a message of two packets in the fourth slot lies behind 3,072 bytes, one body behind the other
pub fourth_slot : run_packets 64 (with_slots_lem (gathering 4 64) (gathering 5 64) (gathering 6 64) free_slot) empty
    (at_once 0 (packet 0x88 2 7 ∷ packet 0x58 1 8 ∷ []))
    ≡ record {
      answers = rules (held 3 2 false) ∷ rules (done 3 3 false) ∷ [];
      messages = (7 ∷ 7 ∷ 8 ∷ []) ∷ [];
      receiver = tallied 3 192 2 1 (with_slots_lem (gathering 4 64) (gathering 5 64) (gathering 6 64) free_slot);
      memory = replicate 3072 0 ++ (7 ∷ 7 ∷ 8 ∷ replicate 1021 0);
    }
unfolding run step_of offered_to expired_to decided ruled on_start on_follow
    gathered
    after slot_of lowest_free first_of header_of key_of same_key right_state right_slot right_numbers multiple clash
    laid sum_of
fourth_slot = refl

-- "packets offered": of the numbers that a refusal has, 3 and 15 to 22
pub which_count : map (λ (n : ℕ). is_offered (refused n))
    (1 ∷ 2 ∷ 3 ∷ 4 ∷ 5 ∷ 6 ∷ 7 ∷ 8 ∷ 9 ∷ 10 ∷ 11 ∷ 12 ∷ 13 ∷ 14 ∷ 15 ∷ 16 ∷ 17 ∷ 18 ∷ 19 ∷ 20 ∷ 21 ∷ 22 ∷ 23 ∷ [])
    ≡ (false ∷ false ∷ true ∷ replicate 11 false) ++ (replicate 8 true ++ (false ∷ []))
which_count = refl

-- and what is held or done, again or not
pub answers_count : (map is_offered (held 0 1 false ∷ held 3 1024 true ∷ done 0 1 false ∷ done 3 1024 true ∷ [])
    ≡ replicate 4 true)
    × (map is_done (refused 22 ∷ held 0 1 false ∷ held 3 1024 true ∷ done 0 1 false ∷ done 3 1024 true ∷ [])
    ≡ false ∷ false ∷ false ∷ true ∷ true ∷ [])
answers_count = (refl, refl)

-- the panel after some calls: a start held, another of the same key, one of another key, a packet of no body (3), one
-- of version 0 (15), one for another card (16), one of a reserved source (17), one without a start (19), one out of
-- sequence (20), which frees the first slot, a message of one packet done there, the second slot freed, and one that
-- isn't there
abbrev calls : List Call
calls =
    give 0 (packet 0x80 5 7)
    ∷ give 0 (packet 0x80 2 7)
    ∷ give 0 (packet 0x81 3 7)
    ∷ give 0 (packet 0xC0 0 7)
    ∷ give 0 (0 ∷ 9 ∷ 10 ∷ 0xC0 ∷ 7 ∷ [])
    ∷ give 0 (1 ∷ 8 ∷ 10 ∷ 0xC0 ∷ 7 ∷ [])
    ∷ give 0 (1 ∷ 9 ∷ 7 ∷ 0xC0 ∷ 7 ∷ [])
    ∷ give 0 (packet 0x52 1 7)
    ∷ give 0 (packet 0x60 2 7)
    ∷ give 0 (packet 0xC2 1 7)
    ∷ free 1
    ∷ free 4
    ∷ []

pub panel_after : map (λ (n : ℕ). (run 64 card empty (take n calls)).receiver.tallies)
    (1 ∷ 2 ∷ 3 ∷ 4 ∷ 8 ∷ 9 ∷ 10 ∷ 12 ∷ [])
    ≡ shown 1 5 1 0
    ∷ shown 1 2 2 0
    ∷ shown 2 5 3 0
    ∷ shown 2 5 4 0
    ∷ shown 2 5 8 0
    ∷ shown 1 3 9 0
    ∷ shown 1 3 10 1
    ∷ shown 0 0 10 1
    ∷ []
unfolding run step_of offered_to expired_to free_refusal freed_of decided ruled on_start
    on_follow gathered after slot_of lowest_free first_of header_of key_of same_key right_state right_slot
    right_numbers multiple
    clash laid sum_of
panel_after = refl

pub answered : (run 64 card empty calls).answers
    ≡ map rules (held 0 5 false ∷ held 0 2 true ∷ held 1 3 false ∷ refused 3 ∷ refused 15 ∷ refused 16 ∷ refused 17
    ∷ refused 19 ∷ refused 20 ∷ done 0 1 false ∷ [])
    ++ (freed 0 ∷ freed 1 ∷ [])
unfolding run step_of offered_to expired_to free_refusal freed_of decided ruled on_start
    on_follow gathered after slot_of lowest_free first_of header_of key_of same_key right_state right_slot
    right_numbers multiple
    clash laid sum_of
answered = refl

-- counted from these answers: ten packets offered, one message done
pub ten_and_one : (how_many is_offered (run 64 card empty calls).answers ≡ 10)
    × (how_many is_done (run 64 card empty calls).answers ≡ 1)
unfolding how_many
ten_and_one = (ap (how_many is_offered) answered, ap (how_many is_done) answered)

-- "and stop at 4,294,967,295", each by itself
pub both_stop : map
    (λ (r : Receiver). (step_of 64 0 r empty (packet 0xC0 1 7)).receiver.tallies)
    (tallied 0 0 4294967294 4294967293 card ∷ tallied 0 0 4294967295 4294967294 card
    ∷ tallied 0 0 4294967295 4294967295 card ∷ [])
    ≡ shown 0 0 4294967295 4294967294 ∷ shown 0 0 4294967295 4294967295 ∷ shown 0 0 4294967295 4294967295 ∷ []
unfolding step_of offered_to expired_to decided ruled on_start on_follow gathered
    after slot_of lowest_free first_of header_of key_of same_key right_state right_slot right_numbers multiple clash
    laid sum_of
both_stop = refl

-- "1 and 2 count nothing": a state whose tallies are wrong, and no memory
pub uncounted : (step_of 64 0 (tallied 1 0 3 2 card) empty (packet 0xC0 1 7)
    ≡ record { said = refused 1; receiver = tallied 1 0 3 2 card; memory = empty })
    × (step_of 64 0 (tallied 0 0 3 2 card) [] (packet 0xC0 1 7)
    ≡ record { said = refused 2; receiver = tallied 0 0 3 2 card; memory = [] })
unfolding step_of offered_to expired_to decided right_state right_slot clash sum_of
uncounted = (refl, refl)

-- a start that is the end too, and drops a half-message: one more of both, and no slot gathers
pub done_again : (run_packets 64 card empty (at_once 0 (packet 0x80 1 7 ∷ packet 0xC0 3 7 ∷ []))).receiver.tallies
    ≡ shown 0 0 2 1
unfolding run step_of offered_to expired_to decided ruled on_start on_follow
    gathered after slot_of lowest_free first_of header_of key_of same_key right_state right_slot right_numbers multiple
    clash
    laid sum_of
done_again = refl

-- a fifth key (18), and a middle of another size (21), which frees its slot
pub full_and_size : map
    (λ (p : List ℕ). (step_of 64 0 (with_slots_lem (gathering 4 64) (gathering 5 64) (gathering 6 64) (gathering 7 64))
    empty
    p).receiver.tallies)
    (packet 0x88 1 7 ∷ packet 0x1D 63 7 ∷ [])
    ≡ shown 4 256 1 0 ∷ shown 3 192 1 0 ∷ []
unfolding step_of offered_to expired_to decided ruled on_start on_follow gathered
    after slot_of lowest_free first_of header_of key_of same_key right_state right_slot right_numbers multiple clash
    laid sum_of
full_and_size = refl

-- a message by its slot and length: from the front of each slot, on into the next one where it is longer, as far as the
-- memory goes; nothing in a slot that isn't there
abbrev slot_by_slot : List ℕ
slot_by_slot = replicate 1024 5 ++ (replicate 1024 6 ++ (replicate 1024 7 ++ replicate 1024 8))

pub slot_bytes : map (λ (i : ℕ). message slot_by_slot i 2) (0 ∷ 1 ∷ 2 ∷ 3 ∷ 4 ∷ 255 ∷ [])
    ≡ (5 ∷ 5 ∷ []) ∷ (6 ∷ 6 ∷ []) ∷ (7 ∷ 7 ∷ []) ∷ (8 ∷ 8 ∷ []) ∷ [] ∷ [] ∷ []
slot_bytes = refl

pub slot_lengths : map (message slot_by_slot 2) (0 ∷ 1 ∷ 1024 ∷ 1025 ∷ [])
    ++ (message slot_by_slot 3 1025 ∷ message (7 ∷ []) 0 2 ∷ [])
    ≡ [] ∷ (7 ∷ []) ∷ replicate 1024 7 ∷ (replicate 1024 7 ++ (8 ∷ [])) ∷ replicate 1024 8 ∷ (7 ∷ []) ∷ []
slot_lengths = refl

-- a freeing call's number stands in the answers: 0, and 1 for a slot that isn't there
pub freed_answers : (run 64 card empty (free 3 ∷ free 4 ∷ [])).answers ≡ freed 0 ∷ freed 1 ∷ []
unfolding run free_refusal freed_of right_state right_slot clash sum_of
freed_answers = refl
