-- The checks and rules on literal packets: one that fails two beside each other gets the first one's number.
-- Assumes nothing.
use mathlib.Core.Path.{◌≡◌, refl}
use mathlib.Core.Bool.{true, false}
use mathlib.Core.List.{List, [], ◌∷◌, map}
use Prim.Native.Nat.{ℕ}
use lib.ListN.{replicate}
use Rattle.mctp.specs.Key.{key_of, header_of, same_key}
use Rattle.slots.specs.declared.state.Receiver.{Receiver}
use Rattle.slots.specs.declared.state.SlotState.TheVariants.{Free, Gathering}
use Rattle.slots.specs.Slots.{free_slot, first_of, slot_of, lowest_free}
use Rattle.slots.specs.State.{multiple, right_numbers, right_slot, clash, right_state}
use Rattle.slots.specs.Tallies.{sum_of}
use Rattle.slots.specs.Changes.{fresh}
use Rattle.slots.specs.Ages.{expired_to}
use Rattle.slots.proofs.Literal.{setup, with_slots_lem, tallied, card, key, slot, gathering}
use Rattle.decision.specs.Rules.{Decision, refuse, release, put, after, on_start, gathered, on_follow, ruled}
use Rattle.decision.specs.Decision.{aged_of, decided}

-- a packet from EID 10 to EID 9 with these flags and n bytes of one value
abbrev pub packet : ℕ → ℕ → ℕ → List ℕ
packet flags n b = 1 ∷ 9 ∷ 10 ∷ flags ∷ replicate n b

-- a message of one packet, of one byte, from an EID to another
abbrev from_to : ℕ → ℕ → List ℕ
from_to source destination = 1 ∷ destination ∷ source ∷ 0xC8 ∷ 0 ∷ []

-- its decision where it is let through
abbrev whole : Decision
whole = put 0 0 false Free

-- four messages under way, of tags 4, 5, 6 and 7, with last sequence 0 and unit 64
abbrev full : Receiver
full = with_slots_lem (gathering 4 64) (gathering 5 64) (gathering 6 1024) (gathering 7 64)

pub record Literals : Type 0 where
  -- "Order there: 1, 2 (memory size), 3, 15, 16, 17, then": 1 before 2, .., 17 before 18 and before 19
  pub order : decided 64 (fresh (setup 7 1000)) 4095 (packet 0xC8 1 0)
      ∷ decided 64 card 4095 (1 ∷ 9 ∷ 10 ∷ 0xC8 ∷ [])
      ∷ decided 64 card 4096 (2 ∷ 9 ∷ 10 ∷ 0xC8 ∷ [])
      ∷ decided 64 card 4096 (2 ∷ 11 ∷ 10 ∷ 0xC8 ∷ 0 ∷ [])
      ∷ decided 64 card 4096 (from_to 7 11)
      ∷ decided 64 full 4096 (from_to 7 9)
      ∷ decided 64 full 4096 (1 ∷ 9 ∷ 7 ∷ 0x48 ∷ 0 ∷ [])
      ∷ []
      ≡ map refuse (1 ∷ 2 ∷ 3 ∷ 15 ∷ 16 ∷ 17 ∷ 17 ∷ [])
  -- "message memory of exactly 4,096 lent bytes"
  pub memories : map (λ (n : ℕ). decided 64 card n (packet 0xC8 1 0)) (4095 ∷ 4096 ∷ 4097 ∷ [])
      ≡ refuse 2 ∷ whole ∷ refuse 2 ∷ []
  -- "low four bits version, 1"
  pub versions : map (λ (b : ℕ). decided 64 card 4096 (b ∷ 9 ∷ 10 ∷ 0xC8 ∷ 0 ∷ [])) (0 ∷ 1 ∷ 2 ∷ 0x10 ∷ 0xF1 ∷ [])
      ≡ refuse 15 ∷ whole ∷ refuse 15 ∷ refuse 15 ∷ whole ∷ []
  -- "20 if sequence is not last + 1 modulo 4": 0, 1, 2 and 3 behind 0
  pub sequences : map (decided 64 full 4096)
      (packet 0x0D 64 0 ∷ packet 0x1D 64 0 ∷ packet 0x2D 64 0 ∷ packet 0x3D 64 0 ∷ [])
      ≡ release 1 20 ∷ put 1 64 false (Gathering (key 9 10 true 5) 1 64 128) ∷ release 1 20 ∷ release 1 20 ∷ []
  -- "a body of 1 to 64 bytes"
  pub sizes : map (λ (n : ℕ). decided 64 card 4096 (packet 0xC8 n 0)) (0 ∷ 1 ∷ 64 ∷ 65 ∷ [])
      ≡ refuse 3 ∷ whole ∷ whole ∷ refuse 3 ∷ []
  -- "16: destination is not the own EID, 0 or 255."
  pub destinations : map (λ (d : ℕ). decided 64 card 4096 (from_to 10 d)) (0 ∷ 9 ∷ 255 ∷ 8 ∷ 10 ∷ 254 ∷ [])
      ≡ whole ∷ whole ∷ whole ∷ refuse 16 ∷ refuse 16 ∷ refuse 16 ∷ []
  -- "17: source is 1 to 7 or 255."
  pub sources : map (λ (s : ℕ). decided 64 card 4096 (from_to s 9)) (0 ∷ 8 ∷ 254 ∷ 1 ∷ 7 ∷ 255 ∷ [])
      ≡ whole ∷ whole ∷ whole ∷ refuse 17 ∷ refuse 17 ∷ refuse 17 ∷ []
  -- "Start: takes its key's slot .. else the lowest free slot, else 18": its key's slot though a lower one is free
  pub starts : decided 64 (with_slots_lem free_slot free_slot (gathering 4 64) free_slot) 4096 (packet 0xBC 2 0)
      ∷ decided 64 (with_slots_lem (gathering 5 64) free_slot (gathering 4 64) free_slot) 4096 (packet 0xBE 2 0)
      ∷ decided 64 full 4096 (packet 0xBF 2 0)
      ∷ decided 64 full 4096 (packet 0xB8 2 0)
      ∷ []
      ≡ put 2 0 true (Gathering (key 9 10 true 4) 3 2 2)
      ∷ put 1 0 false (Gathering (key 9 10 true 6) 3 2 2)
      ∷ put 3 0 true (Gathering (key 9 10 true 7) 3 2 2)
      ∷ refuse 18
      ∷ []
  -- "Not start: 19 if no slot has the key; 20 if sequence is not last + 1 modulo 4; 21 if a middle body differs from
  -- the unit, or an end body exceeds it; 22 if held + body exceeds 1,024. Else the body is appended.": 19 before 20, ..
  pub follows : map (decided 64 full 4096)
      (packet 0x38 2 0 ∷ packet 0x3E 2 0 ∷ packet 0x1E 2 0 ∷ packet 0x5E 1 0 ∷ packet 0x1D 64 0 ∷ packet 0x5D 2 0 ∷ [])
      ≡ refuse 19
      ∷ release 2 20
      ∷ release 2 21
      ∷ release 2 22
      ∷ put 1 64 false (Gathering (key 9 10 true 5) 1 64 128)
      ∷ put 1 64 false Free
      ∷ []
  -- "21 if a middle body differs from the unit, or an end body exceeds it": 1, 2 and 3 bytes where the unit is 2
  pub units : map (decided 64 (with_slots_lem (slot (key 9 10 true 5) 3 2 2) free_slot free_slot free_slot) 4096)
      (packet 0x0D 1 0 ∷ packet 0x0D 2 0 ∷ packet 0x0D 3 0 ∷ packet 0x4D 1 0 ∷ packet 0x4D 2 0 ∷ packet 0x4D 3 0 ∷ [])
      ≡ release 0 21
      ∷ put 0 2 false (Gathering (key 9 10 true 5) 0 2 4)
      ∷ release 0 21
      ∷ put 0 2 false Free
      ∷ put 0 2 false Free
      ∷ release 0 21
      ∷ []
  -- "Before anything but checks 1 and 2": at 1,001 a slot of count 0 is freed, unless the memory's size or the state
  -- (its tallies tell a slot too many) is refused
  pub aged : aged_of 64 1001 full 4096
      ∷ aged_of 64 1001 full 4095
      ∷ aged_of 64 1001 (tallied 5 1216 0 0 full) 4096
      ∷ []
      ≡ card ∷ full ∷ tallied 5 1216 0 0 full ∷ []

pub literals : Literals
unfolding decided ruled on_start on_follow gathered after
    slot_of lowest_free first_of header_of key_of same_key right_state right_slot right_numbers multiple clash
    sum_of expired_to
literals =
    record {
      order = refl;
      memories = refl;
      versions = refl;
      sequences = refl;
      sizes = refl;
      destinations = refl;
      sources = refl;
      starts = refl;
      follows = refl;
      units = refl;
      aged = refl;
    }
