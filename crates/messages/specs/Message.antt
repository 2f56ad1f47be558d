-- The packets of one message, and what may stand between them (document 01, "Putting messages together"; document 02,
-- #106).
-- Assumes nothing.
use Rattle.std.specs.Prelude.{ℕ, ◌+◌, ◌%◌, ◌≤◌, ◌<◌, ◌≡◌, true, false, List, [], ◌∷◌, ◌++◌, map, ◌⊎◌, ltb, length}
use Rattle.octets.specs.Choice.{pick}
use Rattle.octets.specs.Checks.{Hold}
use Rattle.mctp.specs.declared.packet.Key.{Key}
use Rattle.mctp.specs.Packet.{body_of, start_of, end_of, sequence_of}
use Rattle.mctp.specs.Key.{key_of, same_key}
use Rattle.slots.specs.declared.state.Setup.{Setup}
use Rattle.slots.specs.declared.state.Slot.{Slot}
use Rattle.slots.specs.declared.state.Receiver.{Receiver}
use Rattle.slots.specs.declared.state.SlotState.TheVariants.{Free}
use Rattle.slots.specs.Slots.{slot_at, slot_of, lowest_free}
use Rattle.slots.specs.State.{right_state}
use Rattle.slots.specs.Ages.{age, expired}
use Rattle.decision.specs.Checks.{packet_order, source_order}
use Rattle.decision.specs.Rules.{unit_right}
use Rattle.receiver.specs.Step.{refused, held, done, step_of}
use Rattle.messages.specs.Run.{Call, give, free, Reply, rules, Ran, called}

-- one thing after the other in a list of calls: a packet of the message at its count, or a call that stands between
pub data Item : Type 0 where
  packet : (time : ℕ) → List ℕ → Item
  between : Call → Item

abbrev pub call_of : Item → Call
call_of (packet time p) = give time p
call_of (between c) = c

abbrev pub calls_of : List Item → List Call
calls_of items = map call_of items

-- the bodies of the message's packets, joined in order
abbrev pub bodies_of : List Item → List ℕ
bodies_of [] = []
bodies_of (packet time p ∷ items) = body_of p ++ bodies_of items
bodies_of (between c ∷ items) = bodies_of items

-- the last packet's sequence; where there is none, the one before
abbrev pub last_of : ℕ → List Item → ℕ
last_of last [] = last
last_of last (packet time p ∷ items) = last_of (sequence_of p) items
last_of last (between c ∷ items) = last_of last items

-- and its count: "the count of its last accepted packet"
abbrev pub since_of : ℕ → List Item → ℕ
since_of since [] = since
since_of since (packet time p ∷ items) = since_of time items
since_of since (between c ∷ items) = since_of since items

-- the answers at the packets' places
abbrev pub packet_replies : List Item → List Reply → List Reply
packet_replies [] answers = []
packet_replies (packet time p ∷ items) [] = []
packet_replies (packet time p ∷ items) (a ∷ answers) = a ∷ packet_replies items answers
packet_replies (between c ∷ items) [] = []
packet_replies (between c ∷ items) (a ∷ answers) = packet_replies items answers

-- "Without end: held, with slot and bytes held": the sum of the bodies so far, n of them before these items
abbrev pub held_replies : ℕ → ℕ → List Item → List Reply
held_replies slot n [] = []
held_replies slot n (packet time p ∷ items) =
    rules (held slot (n + length (body_of p)) false) ∷ held_replies slot (n + length (body_of p)) items
held_replies slot n (between c ∷ items) = held_replies slot n items

-- "Start: takes its key's slot .. else the lowest free slot": 4 where there is neither
unfoldable pub slot_for : List Slot → Key → ℕ
slot_for slots k = pick (ltb (slot_of slots k) 4) (slot_of slots k) (lowest_free slots 0 4)

-- a packet with start that no check refuses
pub record Starts (most : ℕ) (s : Setup) (p : List ℕ) : Type 0 where
  pub checked : Hold (packet_order most s p ++ source_order p)
  pub start : start_of p ≡ true

-- a packet without start that no check refuses, of this key, with the next sequence ("rising modulo 4"), a middle of
-- the unit's size or an end no longer, with which no more than 1,024 bytes are held
pub record Follows (most : ℕ) (s : Setup) (k : Key) (last unit n : ℕ) (p : List ℕ) : Type 0 where
  pub checked : Hold (packet_order most s p ++ source_order p)
  pub not_start : start_of p ≡ false
  pub key : key_of p ≡ k
  pub sequence : sequence_of p ≡ (last + 1) % 4
  pub size : unit_right (end_of p) unit (length (body_of p)) ≡ true
  pub room : n + length (body_of p) ≤ 1024

-- at this count a slot whose last packet came then is not too old: "exceeds" is over the limit
abbrev pub Young : Setup → (time since : ℕ) → Type 0
Young s time since = age time since ≤ s.limit

-- what may stand between the packets of a message of this key in this slot: a packet of another key, whatever comes of
-- it (a start of another key may take a free slot), or one that is refused with anything but 20 to 22, each before the
-- slot is too old; or another slot freed
abbrev pub Harmless : ℕ → Receiver → List ℕ → Key → (slot since : ℕ) → Call → Type 0
Harmless most r m k slot since (give time p) =
    Young r.setup time since
    × ((same_key k (key_of p) ≡ false) ⊎ ((n : ℕ) × (n ≤ 19) × ((step_of most time r m p).said ≡ refused n)))
Harmless most r m k slot since (free i) = i ≡ slot → ⊥

-- middles of a message, n bytes of which are held, with what stands between, each in the state that the call before it
-- left
unfoldable pub Middles : ℕ → Key → ℕ → Receiver → List ℕ → (since last unit n : ℕ) → List Item → Type 0
Middles most k slot r m since last unit n [] = Unit
Middles most k slot r m since last unit n (packet time p ∷ items) =
    Young r.setup time since
    × Follows most r.setup k last unit n p
    × (end_of p ≡ false)
    × Middles most k slot (called most r m (give time p)).receiver (called most r m (give time p)).memory time
    (sequence_of p) unit (n + length (body_of p)) items
Middles most k slot r m since last unit n (between c ∷ items) =
    Harmless most r m k slot since c
    × Middles most k slot (called most r m c).receiver (called most r m c).memory since last unit n items

-- "every list of packets of one key with start first, sequences rising modulo 4, middles of the start's size, an end no
-- longer", with at most 1,024 bytes in all, each no later behind the one before it than the limit, from a right state
-- in which, once its old slots are freed, the key has a slot or a slot is free
pub record OneMessage (most : ℕ) (r : Receiver) (m : List ℕ) (first_at : ℕ) (first : List ℕ) (items : List Item)
    (final_at : ℕ) (final : List ℕ) : Type 0 where
  pub state : right_state most r ≡ true
  pub memory : length m ≡ 4096
  pub room : slot_for (expired first_at r).slots (key_of first) < 4
  pub starts : Starts most r.setup first
  pub more : end_of first ≡ false
  pub middles : Middles most (key_of first) (slot_for (expired first_at r).slots (key_of first))
      (called most r m (give first_at first)).receiver (called most r m (give first_at first)).memory first_at
      (sequence_of first) (length (body_of first)) (length (body_of first)) items
  pub in_time : Young r.setup final_at (since_of first_at items)
  pub follows : Follows most r.setup (key_of first) (last_of (sequence_of first) items) (length (body_of first))
      (length (body_of first ++ bodies_of items)) final
  pub last : end_of final ≡ true

-- what a message's packets leave of a receiver without old slots: the first is held (again, where its key had a slot),
-- each middle is held with the sum so far, the last is done with the total, its message is the bodies joined in order,
-- and the slot is free
pub record Accepted (r : Receiver) (first : List ℕ) (items : List Item) (final : List ℕ) (whole middle : Ran)
    (i : ℕ) : Type 0 where
  pub answers : whole.answers
      ≡ rules (held i (length (body_of first)) (ltb (slot_of r.slots (key_of first)) 4)) ∷
      (middle.answers ++ (rules (done i (length (body_of first ++ bodies_of items) + length (body_of final)) false)
      ∷ []))
  pub held_so_far : packet_replies items middle.answers ≡ held_replies i (length (body_of first)) items
  pub messages : whole.messages ≡ middle.messages ++ (((body_of first ++ bodies_of items) ++ body_of final) ∷ [])
  pub slot_free : slot_at whole.receiver.slots i ≡ Free

-- what a message of one packet leaves
pub record AcceptedAlone (r : Receiver) (p : List ℕ) (whole : Ran) (i : ℕ) : Type 0 where
  pub answers : whole.answers ≡ rules (done i (length (body_of p)) (ltb (slot_of r.slots (key_of p)) 4)) ∷ []
  pub messages : whole.messages ≡ body_of p ∷ []
  pub slot_free : slot_at whole.receiver.slots i ≡ Free
