-- Acceptance: every list of packets that make a message is accepted, whatever may stand between them, and gives that
-- message.
-- Assumes nothing.
use mathlib.Core.Path.{◌≡◌, refl, ap, sym, subst, ◌∙◌}
use mathlib.Core.Bool.{true, false}
use mathlib.Core.List.{List, [], ◌∷◌, ◌++◌, append_assoc, append-nil}
use Prim.Native.Nat.{ℕ, ◌+◌, ◌*◌, ◌<◌}
use native.Mathlib.Omega.{arith}
use borrow.Author.Tests.{ltb-true, lt-ltb}
use lib.Dec.{ltb}
use lib.ListN.{length, length-append}
use Rattle.mctp.specs.declared.packet.Key.{Key}
use Rattle.mctp.specs.Packet.{body_of, end_of, sequence_of}
use Rattle.mctp.specs.Key.{key_of}
use Rattle.slots.specs.declared.state.Setup.{Setup}
use Rattle.slots.specs.declared.state.SlotState.TheVariants.{Free}
use Rattle.slots.specs.declared.state.Receiver.{Receiver}
use Rattle.slots.specs.declared.state.Slot.{Slot}
use Rattle.slots.specs.Slots.{free_slot, slot_at, has_key, slot_of, lowest_free}
use Rattle.slots.specs.State.{right_state}
use Rattle.slots.specs.Changes.{with_slot, with_offered, with_done}
use Rattle.slots.specs.Ages.{expired}
use Rattle.slots.proofs.Slots.{slot_same}
use Rattle.slots.proofs.States.{right_of}
use Rattle.slots.proofs.Ages.{expired_right}
use Rattle.slots.proofs.Found.{slot_of_is, lowest_found}
use Rattle.octets.specs.Bytes.{laid}
use Rattle.octets.proofs.Choice.{pick_elim}
use Rattle.receiver.specs.Step.{Said, done, Left, step_of}
use Rattle.receiver.proofs.Laws.{step_setup}
use Rattle.messages.specs.Run.{Call, give, free, rules, message, messages_of, Ran, called, joined, run}
use Rattle.messages.specs.Message.{Item, packet, between, calls_of, bodies_of, last_of, since_of, packet_replies}
use Rattle.messages.specs.Message.{held_replies, Young}
use Rattle.messages.specs.Message.{slot_for, Starts, Follows, Middles, OneMessage, Accepted, AcceptedAlone}
use Rattle.messages.proofs.Runs.{run-append, called_setup}
use Rattle.messages.proofs.Gathering.{Gathers, middle_step, middle_gathers, end_step, end_message}
use Rattle.messages.proofs.Gathering.{between_gathers, start_held, start_done, start_message, start_gathers}

-- the set-up stays
pub run_setup : (most : ℕ) (r : Receiver) (m : List ℕ) (calls : List Call)
    → (run most r m calls).receiver.setup ≡ r.setup
unfolding run
run_setup most r m [] = refl
run_setup most r m (c ∷ calls) =
    run_setup most (called most r m c).receiver (called most r m c).memory calls ∙ called_setup most r m c

module _ (most : ℕ) (k : Key) (i unit : ℕ) where
  -- middles, with what stands between: the bytes grow by the bodies, in order
  pub middles_gather : (r : Receiver) (m : List ℕ) (since last : ℕ) (sofar : List ℕ) (items : List Item)
      → Gathers most r m k i since last unit sofar
      → Middles most k i r m since last unit (length sofar) items
      → Gathers most (run most r m (calls_of items)).receiver (run most r m (calls_of items)).memory k i
      (since_of since items) (last_of last items) unit (sofar ++ bodies_of items)
  unfolding run Middles
  middles_gather r m since last sofar [] G M = rw append-nil G
  middles_gather r m since last sofar (packet time p ∷ items) G M =
      let grown = middle_gathers most time r m k i since last unit sofar G M.0 p M.1 M.2 in
      let rest = rw (sym (length-append sofar (body_of p))) at M.3 in
      rw (sym (append_assoc sofar (body_of p) (bodies_of items)))
      (middles_gather (called most r m (give time p)).receiver (called most r m (give time p)).memory time
      (sequence_of p) (sofar ++ body_of p) items grown rest)
  middles_gather r m since last sofar (between c ∷ items) G M =
      middles_gather (called most r m c).receiver (called most r m c).memory since last sofar items
      (between_gathers most r m k i since last unit sofar G c M.0) M.1

  -- and each is answered: held, with the sum of the bodies so far
  pub middles_held : (r : Receiver) (m : List ℕ) (since last : ℕ) (sofar : List ℕ) (items : List Item)
      → Gathers most r m k i since last unit sofar
      → Middles most k i r m since last unit (length sofar) items
      → packet_replies items (run most r m (calls_of items)).answers ≡ held_replies i (length sofar) items
  unfolding run Middles
  middles_held r m since last sofar [] G M = refl
  middles_held r m since last sofar (packet time p ∷ items) G M =
      let grown = middle_gathers most time r m k i since last unit sofar G M.0 p M.1 M.2 in
      let rest = rw (sym (length-append sofar (body_of p))) at M.3 in
      let said = ap (λ (l : Left). rules l.said)
      (middle_step most time r m k i since last unit sofar G M.0 p M.1 M.2) in
      let then = middles_held (called most r m (give time p)).receiver (called most r m (give time p)).memory time
      (sequence_of p) (sofar ++ body_of p) items grown rest
      ∙ ap (λ (n : ℕ). held_replies i n items) (length-append sofar (body_of p)) in
      λ j. said j ∷ then j
  middles_held r m since last sofar (between (give time p) ∷ items) G M =
      middles_held (called most r m (give time p)).receiver (called most r m (give time p)).memory since last sofar
      items
      (between_gathers most r m k i since last unit sofar G (give time p) M.0) M.1
  middles_held r m since last sofar (between (free j) ∷ items) G M =
      middles_held (called most r m (free j)).receiver (called most r m (free j)).memory since last sofar items
      (between_gathers most r m k i since last unit sofar G (free j) M.0) M.1

module _ (most : ℕ) (r : Receiver) (m : List ℕ) (first_at : ℕ) (first : List ℕ) (items : List Item) (final_at : ℕ)
    (final : List ℕ) (T : OneMessage most r m first_at first items final_at final) where
  -- the slot, the state after the first packet, and what the middles leave
  abbrev i : ℕ
  i = slot_for (expired first_at r).slots (key_of first)

  abbrev begun : Left
  begun = step_of most first_at r m first

  abbrev middle : Ran
  middle = run most begun.receiver begun.memory (calls_of items)

  abbrev ended : Left
  ended = step_of most final_at middle.receiver middle.memory final

  first_gathers : Gathers most begun.receiver begun.memory (key_of first) i first_at (sequence_of first)
      (length (body_of first)) (body_of first)
  first_gathers = start_gathers most first_at r m first T.state T.memory T.starts T.room T.more

  gathered : Gathers most middle.receiver middle.memory (key_of first) i (since_of first_at items)
      (last_of (sequence_of first) items) (length (body_of first)) (body_of first ++ bodies_of items)
  gathered =
      middles_gather most (key_of first) i (length (body_of first)) begun.receiver begun.memory first_at
      (sequence_of first) (body_of first) items first_gathers T.middles

  same_setup : middle.receiver.setup ≡ r.setup
  same_setup = run_setup most begun.receiver begun.memory (calls_of items) ∙ step_setup most first_at r m first

  follows : Follows most middle.receiver.setup (key_of first) (last_of (sequence_of first) items)
      (length (body_of first)) (length (body_of first ++ bodies_of items)) final
  follows =
      subst (λ (s : Setup). Follows most s (key_of first) (last_of (sequence_of first) items) (length (body_of first))
      (length (body_of first ++ bodies_of items)) final) (sym same_setup) T.follows

  in_time : Young middle.receiver.setup final_at (since_of first_at items)
  in_time = subst (λ (s : Setup). Young s final_at (since_of first_at items)) (sym same_setup) T.in_time

  right_then : right_state most (expired final_at middle.receiver) ≡ true
  right_then = expired_right final_at middle.receiver most gathered.right

  last_step : ended
      ≡ record {
        said = done i (length (body_of first ++ bodies_of items) + length (body_of final)) false;
        receiver = with_done (with_slot (with_offered (expired final_at middle.receiver)) i free_slot);
        memory = laid middle.memory (1024 * i + length (body_of first ++ bodies_of items)) (body_of final);
      }
  last_step =
      end_step most final_at middle.receiver middle.memory (key_of first) i _ _ _ _ gathered in_time final follows
      T.last

  joined_message : message ended.memory i (length (body_of first ++ bodies_of items) + length (body_of final))
      ≡ (body_of first ++ bodies_of items) ++ body_of final
  joined_message =
      end_message most final_at middle.receiver middle.memory
      (key_of first) i _ _ _ _ gathered in_time final follows
      T.last

  -- first, middles, last
  whole : run most r m (give first_at first ∷ (calls_of items ++ (give final_at final ∷ [])))
      ≡ joined (called most r m (give first_at first))
      (joined middle (run most middle.receiver middle.memory (give final_at final ∷ [])))
  unfolding run
  whole =
      ap (joined (called most r m (give first_at first)))
      (run-append most begun.receiver begun.memory (calls_of items) (give final_at final ∷ []))

  pub acceptance : Accepted (expired first_at r) first items final
      (run most r m (give first_at first ∷ (calls_of items ++ (give final_at final ∷ [])))) middle i
  unfolding run
  acceptance =
      let start = start_held most first_at r m first T.state T.memory T.starts T.room T.more in
      let first_said = ap (λ (l : Left). rules l.said) start in
      let last-said = ap (λ (l : Left). rules l.said) last_step in
      let none : messages_of begun.said begun.memory ≡ [] =
      ap (λ (l : Left). messages_of l.said l.memory) start in
      let one : messages_of ended.said ended.memory ≡ ((body_of first ++ bodies_of items) ++ body_of final) ∷ []
      =
      ap (λ (s : Said). messages_of s ended.memory) (ap (λ (l : Left). l.said) last_step)
      ∙ ap (λ (b : List ℕ). b ∷ []) joined_message in
      record {
        answers = ap (λ (w : Ran). w.answers) whole ∙ (λ j. first_said j ∷ (middle.answers ++ (last-said j ∷ [])));
        held_so_far =
            middles_held most (key_of first) i (length (body_of first)) begun.receiver begun.memory
            first_at (sequence_of first) (body_of first) items first_gathers T.middles;
        messages = ap (λ (w : Ran). w.messages) whole ∙ (λ j. none j ++ (middle.messages ++ (one j ++ [])));
        slot_free =
            ap (λ (w : Ran). slot_at w.receiver.slots i) whole
            ∙ ap (λ (l : Left). slot_at l.receiver.slots i) last_step
            ∙ slot_same (expired final_at middle.receiver).slots i free_slot
            (omega (arith, gathered.slot, (right_of most (expired final_at middle.receiver) right_then).four));
      }

-- a message of one packet: done at once, with its body, and the slot is free
pub single_accepted : (most time : ℕ) (r : Receiver) (m p : List ℕ) → right_state most r ≡ true → length m ≡ 4096
    → slot_for (expired time r).slots (key_of p) < 4 → Starts most r.setup p → end_of p ≡ true
    → AcceptedAlone (expired time r) p (run most r m (give time p ∷ [])) (slot_for (expired time r).slots (key_of p))
unfolding run
single_accepted most time r m p e n room s last =
    let i = slot_for (expired time r).slots (key_of p) in
    let step = start_done most time r m p e n s room last in
    let bytes = start_message most time r m p e n s room last in
    record {
      answers = ap (λ (l : Left). rules l.said ∷ []) step;
      messages =
          ap (λ (x : Said). messages_of x (step_of most time r m p).memory ++ []) (ap (λ (l : Left). l.said) step)
          ∙ ap (λ (b : List ℕ). b ∷ []) bytes;
      slot_free =
          ap (λ (l : Left). slot_at l.receiver.slots i) step
          ∙ slot_same (expired time r).slots i free_slot
          (omega (arith, room, (right_of most (expired time r) (expired_right time r most e)).four));
    }

-- there is room for a key that has a slot, and where a slot is free
pub room_of_key : (most : ℕ) (r : Receiver) (k : Key) (i : ℕ) → right_state most r ≡ true → i < 4
    → has_key k (slot_at r.slots i) ≡ true → slot_for r.slots k ≡ i
unfolding slot_for
room_of_key most r k i e h has =
    let at = slot_of_is most r (right_of most r e) k i h has in
    let low : slot_of r.slots k < 4 = omega arith in
    rw (lt-ltb (slot_of r.slots k) 4 low) at

pub room_of_free : (slots : List Slot) (k : Key) (i : ℕ) → i < 4 → slot_at slots i ≡ Free → slot_for slots k < 4
unfolding slot_for
room_of_free slots k i h e =
    pick_elim (λ (j : ℕ). j < 4) (ltb (slot_of slots k) 4) (slot_of slots k) (lowest_free slots 0 4)
    (λ t. ltb-true (slot_of slots k) 4 t)
    (λ t. omega (arith, lowest_found slots i h e))
