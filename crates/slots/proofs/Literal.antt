-- The state check, set-up, slots freed by a call and by age, and the tallies, on literal states at the limits that the
-- documents name.
-- Assumes nothing.
use Rattle.std.proofs.Common.{◌≡◌, ℕ, Bool, true, false, List, [], ◌∷◌, ◌++◌, map, refl}
use Rattle.mctp.specs.declared.packet.Key.{Key}
use Rattle.mctp.specs.Key.{same_key}
use Rattle.slots.specs.declared.state.Setup.{Setup}
use Rattle.slots.specs.declared.state.Slot.{Slot}
use Rattle.slots.specs.declared.state.SlotState.TheVariants.{Gathering}
use Rattle.slots.specs.declared.state.Receiver.{Receiver}
use Rattle.slots.specs.Slots.{free_slot, first_of, slot_of, lowest_free}
use Rattle.slots.specs.State.{multiple, right_numbers, right_slot, clash, right_state}
use Rattle.slots.specs.Tallies.{sum_of, gathering_in, held_in, next_tally}
use Rattle.slots.specs.Changes.{fresh, with_slot, with_tallies, with_offered, with_done}
use Rattle.slots.specs.Changes.{set_up_refusal, set_up_of, free_refusal, freed_of}
use Rattle.slots.specs.Ages.{age, too_old, expired_to, expired}

-- what to set up with: this own EID, and a limit in milliseconds
abbrev pub setup : ℕ → ℕ → Setup
setup own limit = record { own = record { 0 = own }; limit = limit }

-- the receiver of EID 9 with a limit of a second, and it with these slots and the tallies that they tell
abbrev pub card : Receiver
card = fresh (setup 9 1000)

abbrev with_all : List Slot → Receiver
with_all slots =
    record {
      setup = card.setup;
      slots = slots;
      tallies = record { gathering = gathering_in slots; held = held_in slots; offered = 0; done = 0 };
    }

abbrev pub with_slots_lem : Slot → Slot → Slot → Slot → Receiver
with_slots_lem a b c d = with_all (a ∷ b ∷ c ∷ d ∷ [])

-- a receiver with these tallies instead
abbrev pub tallied : ℕ → ℕ → ℕ → ℕ → Receiver → Receiver
tallied gathering held offered done r =
    with_tallies r (record { gathering = gathering; held = held; offered = offered; done = done })

abbrev pub key : ℕ → ℕ → Bool → ℕ → Key
key d s o t = record { destination = record { 0 = d }; source = record { 0 = s }; owner = o; tag = t }

abbrev pub slot : Key → ℕ → ℕ → ℕ → Slot
slot k sequence unit held = record { state = Gathering k sequence unit held; since = 0 }

-- a slot whose last packet came at this count
abbrev pub since : ℕ → Slot → Slot
since count x = record { state = x.state; since = count }

-- a slot that gathers for tag t from EID 10, with n bytes in units of 64
abbrev pub gathering : ℕ → ℕ → Slot
gathering t n = slot (key 9 10 true t) 0 64 n

-- whether EID 9 may have these four slots, or this one
abbrev may_have : List Slot → Bool
may_have slots = right_state 64 (with_all slots)

abbrev may_hold : Slot → Bool
may_hold s = may_have (free_slot ∷ s ∷ free_slot ∷ free_slot ∷ [])

-- three slots of different tags
abbrev a : Slot
a = gathering 1 64

abbrev b : Slot
b = gathering 2 64

abbrev c : Slot
c = gathering 3 64

-- slots that hold 64, 128 and 1,024 bytes, one free, seven packets offered and five messages done
abbrev three : Receiver
three = tallied 3 1216 7 5 (with_slots_lem a (gathering 2 128) free_slot (gathering 3 1024))

-- whether its slots may have these tallies
abbrev three_with : ℕ → ℕ → ℕ → ℕ → Bool
three_with gathering held offered done = right_state 64 (tallied gathering held offered done three)

-- keys that differ in destination, source or tag owner, and a slot for each
abbrev keys : List Key
keys = key 9 10 true 1 ∷ key 0 10 true 1 ∷ key 9 11 true 1 ∷ key 9 10 false 1 ∷ []

abbrev near : List Slot
near = map (λ (k : Key). slot k 0 64 64) keys

-- states that are refused: an own EID that is reserved, no limit, a tally of slots and one of bytes that are wrong, two
-- slots with one key, a unit of 0, a tag of 8, a destination that isn't ours
abbrev pub wrong_states : List Receiver
wrong_states =
    fresh (setup 4 1000)
    ∷ fresh (setup 9 0)
    ∷ tallied 2 1216 7 5 three
    ∷ tallied 3 1215 7 5 three
    ∷ with_slots_lem a b a c
    ∷ with_slots_lem a (slot (key 9 10 true 2) 0 0 64) c free_slot
    ∷ with_slots_lem a (gathering 8 64) c free_slot
    ∷ with_slots_lem a (slot (key 8 10 true 2) 0 64 64) c free_slot
    ∷ []

pub record Literals : Type 0 where
  -- "The receiver has an own EID (0 or 8 to 254)"
  pub own_eids : map (λ (e : ℕ). set_up_refusal (setup e 1000)) (0 ∷ 8 ∷ 254 ∷ 1 ∷ 7 ∷ 255 ∷ [])
      ≡ 0 ∷ 0 ∷ 0 ∷ 1 ∷ 1 ∷ 1 ∷ []
  -- "a set limit of 1 to 60,000"
  pub limits : map (λ (l : ℕ). set_up_refusal (setup 9 l)) (1 ∷ 60000 ∷ 0 ∷ 60001 ∷ []) ≡ 0 ∷ 0 ∷ 1 ∷ 1 ∷ []
  -- and the receiver is set up with both; refused, with the null EID and the longest limit
  pub setup_kept : (set_up_of (setup 254 1)).setup ∷ (set_up_of (setup 7 1)).setup ∷ (set_up_of (setup 9 0)).setup ∷ []
      ≡ setup 254 1 ∷ setup 0 60000 ∷ setup 0 60000 ∷ []
  -- "1 for a limit out of range", in a stored state too
  pub stored_limits : map (λ (l : ℕ). right_state 64 (fresh (setup 9 l))) (1 ∷ 60000 ∷ 0 ∷ 60001 ∷ [])
      ≡ true ∷ true ∷ false ∷ false ∷ []
  -- a slot may have any count, gathering or free
  pub counts : may_have (since 4294967295 a ∷ since 0 b ∷ since 4294967295 free_slot ∷ free_slot ∷ []) ≡ true
  -- "unit is 1 to 64"
  pub units : map (λ (u : ℕ). may_hold (slot (key 9 10 true 0) 0 u u)) (1 ∷ 64 ∷ 0 ∷ 65 ∷ [])
      ≡ true ∷ true ∷ false ∷ false ∷ []
  -- "Held is a positive multiple of the unit, at most 1,024"
  pub helds : map (λ (h : ℕ). may_hold (gathering 0 h)) (64 ∷ 1024 ∷ 0 ∷ 63 ∷ 65 ∷ 1088 ∷ [])
      ≡ true ∷ true ∷ false ∷ false ∷ false ∷ false ∷ []
  pub helds_by_one : map (λ (h : ℕ). may_hold (slot (key 9 10 true 0) 0 1 h)) (1024 ∷ 1025 ∷ []) ≡ true ∷ false ∷ []
  -- "sequence is 0 to 3, tag 0 to 7"
  pub sequences : map (λ (q : ℕ). may_hold (slot (key 9 10 true 0) q 64 64)) (0 ∷ 3 ∷ 4 ∷ []) ≡ true ∷ true ∷ false ∷ []
  pub tags : map (λ (t : ℕ). may_hold (gathering t 64)) (0 ∷ 7 ∷ 8 ∷ []) ≡ true ∷ true ∷ false ∷ []
  -- "a key's destination is one that 16 lets through"; any source is right
  pub destinations : map (λ (d : ℕ). may_hold (slot (key d 7 true 0) 0 64 64)) (0 ∷ 9 ∷ 255 ∷ 8 ∷ 10 ∷ 254 ∷ [])
      ≡ true ∷ true ∷ true ∷ false ∷ false ∷ false ∷ []
  -- "no two slots have one key", a key being "destination, source, tag owner, tag"
  pub pairs : map may_have
      ((a ∷ a ∷ b ∷ c ∷ []) ∷ (a ∷ b ∷ a ∷ c ∷ []) ∷ (a ∷ b ∷ c ∷ a ∷ [])
      ∷ (b ∷ a ∷ a ∷ c ∷ []) ∷ (b ∷ a ∷ c ∷ a ∷ []) ∷ (b ∷ c ∷ a ∷ a ∷ []) ∷ near ∷ [])
      ≡ false ∷ false ∷ false ∷ false ∷ false ∷ false ∷ true ∷ []
  -- the slot of each key, and of one that differs in its tag
  pub slots_of : map (slot_of near) (keys ++ (key 9 10 true 2 ∷ [])) ≡ 0 ∷ 1 ∷ 2 ∷ 3 ∷ 4 ∷ []
  -- "the lowest free slot"
  pub lowest : map (λ (s : List Slot). lowest_free s 0 4)
      ((a ∷ free_slot ∷ b ∷ free_slot ∷ []) ∷ (a ∷ b ∷ c ∷ free_slot ∷ []) ∷ (a ∷ b ∷ c ∷ a ∷ []) ∷ [])
      ≡ 1 ∷ 3 ∷ 4 ∷ []
  -- "A separate call frees slot 0 to 3 (any other number: 1)"
  pub freed : map (freed_of 64 (with_slots_lem a b c (gathering 4 64))) (2 ∷ 3 ∷ 4 ∷ [])
      ≡ with_slots_lem a b free_slot (gathering 4 64)
      ∷ with_slots_lem a b c free_slot
      ∷ with_slots_lem a b c (gathering 4 64)
      ∷ []
  pub freed_numbers : map (free_refusal 64 (with_slots_lem a b c (gathering 4 64))) (2 ∷ 3 ∷ 4 ∷ []) ≡ 0 ∷ 0 ∷ 1 ∷ []
  -- "A stored state whose first two tallies are wrong is refused with 1.": three slots hold 64, 128 and 1,024 bytes
  pub tallies : map (λ (gathering : ℕ). three_with gathering 1216 0 0) (0 ∷ 2 ∷ 3 ∷ 4 ∷ [])
      ∷ map (λ (held : ℕ). three_with 3 held 0 0) (0 ∷ 1215 ∷ 1216 ∷ 1217 ∷ [])
      ∷ []
      ≡ (false ∷ false ∷ true ∷ false ∷ []) ∷ (false ∷ false ∷ true ∷ false ∷ []) ∷ []
  -- any value of the last two passes, more messages done than packets offered too
  pub any_counts : three_with 3 1216 0 1 ∷ three_with 3 1216 4294967295 4294967295 ∷ [] ≡ true ∷ true ∷ []
  -- "keep them true through every call": slot 3 freed; slot 2, which is free; slot 1 begun again with 2 bytes; slot 2
  -- begun with 2 bytes; and slot 4, which isn't there
  pub moves : freed_of 64 three 3
      ∷ freed_of 64 three 2
      ∷ with_slot three 1 (slot (key 9 10 true 2) 3 2 2)
      ∷ with_slot three 2 (slot (key 9 10 true 5) 3 2 2)
      ∷ with_slot three 4 (slot (key 9 10 true 5) 3 2 2)
      ∷ []
      ≡ tallied 2 192 7 5 (with_slots_lem a (gathering 2 128) free_slot free_slot)
      ∷ three
      ∷ tallied 3 1090 7 5 (with_slots_lem a (slot (key 9 10 true 2) 3 2 2) free_slot (gathering 3 1024))
      ∷ tallied 4 1218 7 5 (with_slots_lem a (gathering 2 128) (slot (key 9 10 true 5) 3 2 2) (gathering 3 1024))
      ∷ three
      ∷ []
  -- "packets offered to the message rules, and messages done", each counted alone; they "stop at 4,294,967,295"
  pub counted : with_offered three ∷ with_done three ∷ [] ≡ tallied 3 1216 8 5 three ∷ tallied 3 1216 7 6 three ∷ []
  pub stops : map next_tally (0 ∷ 4294967294 ∷ 4294967295 ∷ []) ≡ 1 ∷ 4294967295 ∷ 4294967295 ∷ []
  -- nothing is tallied at set-up, refused or not
  pub none_tallied : map (λ (e : ℕ). (set_up_of (setup e 1000)).tallies) (8 ∷ 7 ∷ [])
      ≡ record { gathering = 0; held = 0; offered = 0; done = 0 }
      ∷ record { gathering = 0; held = 0; offered = 0; done = 0 }
      ∷ []
  -- "Age is now minus then, modulo 2^32.": at once, later, where the count has wrapped, and where it was stepped back
  pub ages : age 7 7 ∷ age 1007 7 ∷ age 5 4294967290 ∷ age 0 4294967295 ∷ age 6 7 ∷ age 4294967295 0 ∷ []
      ≡ 0 ∷ 1000 ∷ 11 ∷ 1 ∷ 4294967295 ∷ 4294967295 ∷ []
  -- "exceeds": an age equal to the limit stays; and a free slot has no age
  pub too_old_lem : map (λ (time : ℕ). too_old 1000 time a.state 7) (1006 ∷ 1007 ∷ 1008 ∷ 6 ∷ [])
      ∷ map (λ (time : ℕ). too_old 1000 time free_slot.state 7) (1006 ∷ 1007 ∷ 1008 ∷ 6 ∷ [])
      ∷ []
      ≡ (false ∷ false ∷ true ∷ true ∷ []) ∷ (false ∷ false ∷ false ∷ false ∷ []) ∷ []
  -- at 1,000 the slots of counts 4,294,967,295 and 4,294,967,290 are freed, and leave the tallies; of 0 and 1,000 stay
  pub expiry : expired 1000 (tallied 4 1216 7 5
      (with_slots_lem (since 4294967295 a) b (since 1000 c) (since 4294967290 (gathering 4 1024))))
      ≡ tallied 2 128 7 5 (with_slots_lem free_slot b (since 1000 c) free_slot)

pub literals : Literals
unfolding set_up_refusal set_up_of free_refusal freed_of slot_of lowest_free first_of same_key right_state right_slot
    right_numbers
    multiple clash sum_of expired_to
literals =
    record {
      own_eids = refl;
      limits = refl;
      setup_kept = refl;
      stored_limits = refl;
      counts = refl;
      units = refl;
      helds = refl;
      helds_by_one = refl;
      sequences = refl;
      tags = refl;
      destinations = refl;
      pairs = refl;
      slots_of = refl;
      lowest = refl;
      freed = refl;
      freed_numbers = refl;
      tallies = refl;
      any_counts = refl;
      moves = refl;
      counted = refl;
      stops = refl;
      none_tallied = refl;
      ages = refl;
      too_old_lem = refl;
      expiry = refl;
    }
