-- Packets given to literal receivers: every number, every value beside it, and the whole receiver and memory that are
-- left, since definition and code could be wrong alike.
-- Assumes nothing.
use mathlib.Core.Path.{◌≡◌, refl}
use mathlib.Core.Bool.{true, false}
use mathlib.Core.List.{List, [], ◌∷◌, ◌++◌, map}
use Prim.Native.Nat.{ℕ}
use lib.ListN.{replicate}
use Rattle.octets.specs.Bytes.{laid}
use Rattle.mctp.specs.Key.{key_of, header_of, same_key}
use Rattle.slots.specs.declared.state.Slot.{Slot}
use Rattle.slots.specs.declared.state.SlotState.TheVariants.{Free}
use Rattle.slots.specs.declared.state.Receiver.{Receiver}
use Rattle.slots.specs.Slots.{first_of, slot_of, lowest_free}
use Rattle.slots.specs.State.{multiple, right_numbers, right_slot, clash, right_state}
use Rattle.slots.specs.Tallies.{sum_of}
use Rattle.slots.specs.Ages.{expired_to}
use Rattle.slots.proofs.Literal.{with_slots_lem, tallied, key, slot, since, gathering, wrong_states}
use Rattle.decision.specs.Rules.{after, on_start, gathered, on_follow, ruled}
use Rattle.decision.specs.Decision.{decided}
use Rattle.decision.proofs.Literal.{packet}
use Rattle.receiver.specs.Step.{refused, held, done, Left, offered_to, step_of}

-- four messages under way, of tags 4, 5, 6 and 7, with last sequence 0, unit 64 and count 0; ten packets were offered
abbrev busy : Receiver
busy = tallied 4 1216 10 3 (with_slots_lem (gathering 4 64) (gathering 5 64) (gathering 6 1024) (gathering 7 64))

-- a slot that a call leaves free
abbrev gone : Slot
gone = record { state = Free; since = 0 }

abbrev memory : List ℕ
memory = replicate 4096 0

-- what a packet leaves there at count 5
abbrev gives : List ℕ → Left
gives p = step_of 64 5 busy memory p

-- packets that 3, 15, 16, 17, 18 and 19 refuse, and packets that 20, 21 and 22 refuse
abbrev kept_out : List (List ℕ)
kept_out =
    packet 0xC8 0 7
    ∷ (2 ∷ 9 ∷ 10 ∷ 0xC8 ∷ 7 ∷ [])
    ∷ (1 ∷ 11 ∷ 10 ∷ 0xC8 ∷ 7 ∷ [])
    ∷ (1 ∷ 9 ∷ 7 ∷ 0xC8 ∷ 7 ∷ [])
    ∷ packet 0xB8 2 7
    ∷ packet 0x38 2 7
    ∷ []

abbrev breaking : List (List ℕ)
breaking = packet 0x3E 2 7 ∷ packet 0x1E 2 7 ∷ packet 0x5E 1 7 ∷ []

-- a middle and an end of tag 5, a start and a whole message of tag 7, whose slot drops what it had
abbrev taken_in : List (List ℕ)
taken_in = packet 0x1D 64 7 ∷ packet 0x5D 2 7 ∷ packet 0xBF 2 7 ∷ packet 0xFF 3 7 ∷ []

pub record Literals : Type 0 where
  -- "number; all unchanged": the packet is counted as offered
  pub numbers_kept_out : map (λ (p : List ℕ). (gives p).said) kept_out
      ≡ map refused (3 ∷ 15 ∷ 16 ∷ 17 ∷ 18 ∷ 19 ∷ [])
  pub left_by_kept_out : map (λ (p : List ℕ). (gives p).receiver) kept_out ≡ replicate 6 (tallied 4 1216 11 3 busy)
  -- "number; that slot becomes free, memory unchanged"
  pub numbers_breaking : map (λ (p : List ℕ). (gives p).said) breaking ≡ map refused (20 ∷ 21 ∷ 22 ∷ [])
  pub left_by_breaking : map (λ (p : List ℕ). (gives p).receiver) breaking
      ≡ replicate 3 (tallied 3 192 11 3 (with_slots_lem (gathering 4 64) (gathering 5 64) gone (gathering 7 64)))
  pub memory_kept : map (λ (p : List ℕ). (gives p).memory) (kept_out ++ breaking) ≡ replicate 9 memory
  -- "Without end: held, with slot and bytes held"; "With end set the answer is done, with slot and length"; the answer
  -- to a start in its key's slot "says again"
  pub answers : map (λ (p : List ℕ). (gives p).said) taken_in
      ≡ held 1 128 false ∷ done 1 66 false ∷ held 3 2 true ∷ done 3 3 true ∷ []
  pub left_by_taken_in : map (λ (p : List ℕ). (gives p).receiver) taken_in
      ≡ tallied 4 1280 11 3
      (with_slots_lem (gathering 4 64) (since 5 (slot (key 9 10 true 5) 1 64 128)) (gathering 6 1024) (gathering 7 64))
      ∷ tallied 3 1152 11 4 (with_slots_lem (gathering 4 64) gone (gathering 6 1024) (gathering 7 64))
      ∷ tallied 4 1154 11 3
      (with_slots_lem (gathering 4 64) (gathering 5 64) (gathering 6 1024) (since 5 (slot (key 9 10 true 7) 3 2 2)))
      ∷ tallied 3 1152 11 4 (with_slots_lem (gathering 4 64) (gathering 5 64) (gathering 6 1024) gone)
      ∷ []
  -- "1,024 for each slot": behind what the slot holds, or at its front
  pub memory_taken_in : map (λ (p : List ℕ). (gives p).memory) taken_in
      ≡ (replicate 1088 0 ++ (replicate 64 7 ++ replicate 2944 0))
      ∷ (replicate 1088 0 ++ (7 ∷ 7 ∷ replicate 3006 0))
      ∷ (replicate 3072 0 ++ (7 ∷ 7 ∷ replicate 1022 0))
      ∷ (replicate 3072 0 ++ (7 ∷ 7 ∷ 7 ∷ replicate 1021 0))
      ∷ []
  -- "1 and 2 count nothing", and free nothing that is old: a wrong state, and a memory of another size
  pub one : map (λ (r : Receiver). step_of 64 2000 r memory (packet 0x1D 64 7)) wrong_states
      ≡ map (λ (r : Receiver). record { said = refused 1; receiver = r; memory = memory }) wrong_states
  pub two : map (λ (n : ℕ). step_of 64 2000 busy (replicate n 0) (packet 0x1D 64 7)) (0 ∷ 4095 ∷ 4097 ∷ [])
      ≡ map (λ (n : ℕ). record { said = refused 2; receiver = busy; memory = replicate n 0 }) (0 ∷ 4095 ∷ 4097 ∷ [])

pub literals : Literals
unfolding step_of offered_to decided ruled on_start on_follow gathered after slot_of lowest_free first_of header_of
    key_of
    same_key right_state right_slot right_numbers multiple clash sum_of expired_to laid
literals =
    record {
      numbers_kept_out = refl;
      left_by_kept_out = refl;
      numbers_breaking = refl;
      left_by_breaking = refl;
      memory_kept = refl;
      answers = refl;
      left_by_taken_in = refl;
      memory_taken_in = refl;
      one = refl;
      two = refl;
    }
