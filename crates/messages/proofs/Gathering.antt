-- A message being gathered: a start begins it, each middle grows it, an end finishes it, and what stands between leaves
-- it.
-- Assumes nothing.
use mathlib.Core.Path.{◌≡◌, refl, ap, sym, ◌∙◌}
use mathlib.Core.Bool.{Bool, true, false, not, ◌||◌, and-false, true≢false}
use mathlib.Core.List.{List, ◌++◌}
use mathlib.Core.Logic.{⊎_elim}
use Prim.Native.Nat.{ℕ, ◌+◌, ◌*◌, ◌≤◌, ◌<◌}
use native.Mathlib.Nat.{zero-add}
use native.Mathlib.Omega.{arith}
use borrow.Author.Tests.{eq-eqb, lt-ltb, le-ltb, le-leb}
use lib.Dec.{ltb, lit≤}
use lib.ListN.{length, get_or, length-append, length-drop}
use lib.Seq.{get_or-set_other}
use Rattle.octets.specs.Choice.{pick}
use Rattle.octets.specs.Bytes.{laid}
use Rattle.octets.specs.Checks.{Hold}
use Rattle.octets.proofs.Choice.{within_bounds}
use Rattle.octets.proofs.Checks.{none_failing}
use Rattle.octets.proofs.Parts.{part_grown}
use Rattle.mctp.specs.declared.packet.Key.{Key}
use Rattle.mctp.specs.Packet.{body_of, end_of, sequence_of}
use Rattle.mctp.specs.Key.{key_of, header_of, same_key}
use Rattle.slots.specs.declared.state.Slot.{Slot}
use Rattle.slots.specs.declared.state.SlotState.{SlotState}
use Rattle.slots.specs.declared.state.SlotState.TheVariants.{Free, Gathering}
use Rattle.slots.specs.declared.state.Receiver.{Receiver}
use Rattle.slots.specs.Slots.{free_slot, slot_at, since_at, is_free, has_key, slot_of, lowest_free}
use Rattle.slots.specs.State.{right_slot, right_state}
use Rattle.slots.specs.Changes.{with_slot, with_offered, with_done}
use Rattle.slots.specs.Ages.{age, expired}
use Rattle.slots.proofs.Ages.{expired_setup, expired_right, expired_kept}
use Rattle.slots.proofs.Slots.{slot_same, since_same}
use Rattle.slots.proofs.States.{right_of, most_bounds}
use Rattle.slots.proofs.Found.{holds_key, slot_of_is}
use Rattle.slots.proofs.Numbers.{gathering_of}
use Rattle.decision.specs.Checks.{packet_order, source_order}
use Rattle.decision.specs.Rules.{Decision, put, refuse, after, on_start, gathered, follow, on_follow, ruled}
use Rattle.decision.specs.Decision.{check_order, decided}
use Rattle.decision.proofs.Ruled.{ruled_start, ruled_follow}
use Rattle.decision.proofs.Passed.{aged_expired}
use Rattle.decision.proofs.DecidedRules.{every_decision}
use Rattle.receiver.specs.Step.{refused, held, done, Left, slot_in, carried_out, after_offer, offered_to, step_of}
use Rattle.receiver.proofs.Offered.{offer_slots, put_fields}
use Rattle.receiver.proofs.Laws.{step_is_offered, step_right, step_size, refused_keeps}
use Rattle.messages.specs.Run.{Call, give, free, message, called}
use Rattle.messages.specs.Message.{Starts, Follows, Young, Harmless, slot_for}
use Rattle.messages.proofs.Runs.{freed_others, called_right, called_size, slot_apart}

-- slot i gathers a message of key k, its last packet came at this count, and these are its bytes so far
pub record Gathers (most : ℕ) (r : Receiver) (m : List ℕ) (k : Key) (i since last unit : ℕ) (sofar : List ℕ)
    : Type 0 where
  pub right : right_state most r ≡ true
  pub memory : length m ≡ 4096
  pub slot : i < 4
  pub state : slot_at r.slots i ≡ Gathering k last unit (length sofar)
  pub count : since_at r.slots i ≡ since
  pub bytes : message m i (length sofar) ≡ sofar

-- a packet that no check refuses is decided on by the rules
pub decided_rules : (most : ℕ) (r : Receiver) (size : ℕ) (p : List ℕ) → right_state most r ≡ true → size ≡ 4096
    → Hold (packet_order most r.setup p ++ source_order p)
    → decided most r size p ≡ ruled r.slots (header_of p) (length (body_of p))
unfolding decided
decided_rules most r size p right whole checked =
    none_failing (check_order most r size p) _ (right, (eq-eqb size 4096 whole, checked))

-- the slot after a packet without end, and with it
after_middle : (p : List ℕ) (unit n : ℕ) → end_of p ≡ false
    → after (header_of p) unit n ≡ Gathering (key_of p) (sequence_of p) unit n
unfolding after header_of
after_middle p unit n e = ap (λ (b : Bool). pick b Free (Gathering (key_of p) (sequence_of p) unit n)) e

after_end : (p : List ℕ) (unit n : ℕ) → end_of p ≡ true → after (header_of p) unit n ≡ Free
unfolding after header_of
after_end p unit n e = ap (λ (b : Bool). pick b Free (Gathering (key_of p) (sequence_of p) unit n)) e

-- it still is once old slots are freed
pub checked_then : (most time : ℕ) (r : Receiver) (p : List ℕ) → Hold (packet_order most r.setup p ++ source_order p)
    → Hold (packet_order most (expired time r).setup p ++ source_order p)
checked_then most time r p h = rw (expired_setup time r 4 (lit≤ tt)) h

-- old slots are freed: a slot that is not too old gathers on
module _ (most time : ℕ) (r : Receiver) (m : List ℕ) (k : Key) (i since last unit : ℕ) (sofar : List ℕ)
    (G : Gathers most r m k i since last unit sofar)
    (young : Young r.setup time since) where
  kept : get_or (expired time r).slots i free_slot ≡ get_or r.slots i free_slot
  kept =
      expired_kept time r most G.right i G.slot
      (rw (le-ltb r.setup.limit (age time (since_at r.slots i)) (rw G.count young))
      (and-false (not (is_free (slot_at r.slots i)))))

  gathers_on : Gathers most (expired time r) m k i since last unit sofar
  gathers_on =
      record {
        right = expired_right time r most G.right;
        memory = G.memory;
        slot = G.slot;
        state = ap (λ (x : Slot). x.state) kept ∙ G.state;
        count = ap (λ (x : Slot). x.since) kept ∙ G.count;
        bytes = G.bytes;
      }

-- a packet of the message, in time
module _ (most time : ℕ) (r : Receiver) (m : List ℕ) (k : Key) (i since last unit : ℕ) (sofar : List ℕ)
    (G : Gathers most r m k i since last unit sofar)
    (young : Young r.setup time since)
    (p : List ℕ) (F : Follows most r.setup k last unit (length sofar) p) where
  -- the receiver that it is offered to
  abbrev q : Receiver
  q = expired time r

  Q : Gathers most q m k i since last unit sofar
  Q = gathers_on most time r m k i since last unit sofar G young

  -- how many bytes are held with this packet's
  abbrev total : ℕ
  total = length sofar + length (body_of p)

  -- the packet's body is appended
  gathered_put : gathered i last unit (length sofar) (header_of p) (length (body_of p))
      ≡ put i (length sofar) false (after (header_of p) unit total)
  unfolding gathered header_of
  gathered_put = rw (eq-eqb _ _ F.sequence, F.size, le-leb _ _ F.room)

  its_slot : slot_of q.slots (header_of p).key ≡ i
  unfolding header_of
  its_slot =
      ap (slot_of q.slots) F.key
      ∙ slot_of_is most q (right_of most q Q.right) k i Q.slot
      (holds_key k last unit (length sofar) _ Q.state)

  starts_not : (header_of p).start ≡ false
  unfolding header_of
  starts_not = F.not_start

  appended : decided most q (length m) p
      ≡ put i (length sofar) false (after (header_of p) unit total)
  unfolding on_follow
  appended =
      decided_rules most q (length m) p Q.right Q.memory (checked_then most time r p F.checked)
      ∙ ruled_follow q.slots (header_of p) (length (body_of p)) starts_not
      ∙ ap (λ (j : ℕ). follow j (slot_at q.slots j) (header_of p) (length (body_of p))) its_slot
      ∙ ap (λ (s : SlotState). follow i s (header_of p) (length (body_of p))) Q.state
      ∙ gathered_put

  grown : message (laid m (1024 * i + length sofar) (body_of p)) i total ≡ sofar ++ body_of p
  grown =
      part_grown m (1024 * i) (length sofar) (body_of p) (omega (arith, Q.memory, Q.slot, F.room))
      ∙ ap (λ (s : List ℕ). s ++ body_of p) Q.bytes

  -- a middle: held, with the sum of the bodies so far
  pub middle_step : end_of p ≡ false → step_of most time r m p
      ≡ record {
        said = held i total false;
        receiver = with_slot (with_offered q) i (slot_in (Gathering k (sequence_of p) unit total) time);
        memory = laid m (1024 * i + length sofar) (body_of p);
      }
  unfolding offered_to
  middle_step e =
      let then = after_middle p unit total e
      ∙ ap (λ (j : Key). Gathering j (sequence_of p) unit total) F.key in
      step_is_offered most time r m p G.right G.memory
      ∙ ap (λ (d : Decision). carried_out time (after_offer q d) m p d) (appended
      ∙ ap (put i (length sofar) false) then)

  -- an end: done, with their total, and the slot is free
  pub end_step : end_of p ≡ true → step_of most time r m p
      ≡ record {
        said = done i total false;
        receiver = with_done (with_slot (with_offered q) i free_slot);
        memory = laid m (1024 * i + length sofar) (body_of p);
      }
  unfolding offered_to
  end_step e =
      step_is_offered most time r m p G.right G.memory
      ∙ ap (λ (d : Decision). carried_out time (after_offer q d) m p d)
      (appended ∙ ap (put i (length sofar) false) (after_end p unit total e))

  -- the bytes of the message that is done: the bodies joined, in order
  pub end_message : end_of p ≡ true
      → message (step_of most time r m p).memory i total ≡ sofar ++ body_of p
  end_message e = ap (λ (l : Left). message l.memory i total) (end_step e) ∙ grown

  pub middle_gathers : end_of p ≡ false
      → Gathers most (step_of most time r m p).receiver (step_of most time r m p).memory k i time (sequence_of p) unit
      (sofar ++ body_of p)
  middle_gathers e =
      let joined : length (sofar ++ body_of p) ≡ total = length-append sofar (body_of p) in
      record {
        right = step_right most time r m p G.right;
        memory = step_size most time r m p ∙ Q.memory;
        slot = Q.slot;
        state = ap (λ (l : Left). slot_at l.receiver.slots i) (middle_step e)
            ∙ slot_same q.slots i _ (omega (arith, Q.slot, (right_of most q Q.right).four))
            ∙ ap (Gathering k (sequence_of p) unit) (sym joined);
        count = ap (λ (l : Left). since_at l.receiver.slots i) (middle_step e)
            ∙ since_same q.slots i _ (omega (arith, Q.slot, (right_of most q Q.right).four));
        bytes = ap (message (step_of most time r m p).memory i) joined
            ∙ ap (λ (l : Left). message l.memory i total) (middle_step e)
            ∙ grown;
      }

-- from receiver r and memory m to r₂ and m₂: slot i stays, and so do its first n bytes
abbrev Stays : (i n : ℕ) → Receiver → List ℕ → Receiver → List ℕ → Type 0
Stays i n r m r₂ m₂ =
    (get_or r₂.slots i free_slot ≡ get_or r.slots i free_slot) × (message m₂ i n ≡ message m i n)

-- a packet of another key, offered to this receiver
module _ (most time : ℕ) (r : Receiver) (m : List ℕ) (k : Key) (i since last unit : ℕ) (sofar : List ℕ)
    (G : Gathers most r m k i since last unit sofar)
    (p : List ℕ) (other : same_key k (key_of p) ≡ false) where
  held_fits : length sofar ≤ 1024
  held_fits =
      (gathering_of most r.setup k last unit (length sofar)
      (ap (right_slot most r.setup) (sym G.state) ∙ (right_of most r G.right).each i G.slot)).0.held_high

  -- it has another slot, if it has one
  apart : (j : ℕ) → has_key (key_of p) (slot_at r.slots j) ≡ true → i ≡ j → ⊥
  apart j h s =
      true≢false
      (sym h
      ∙ ap (λ (n : ℕ). has_key (key_of p) (slot_at r.slots n)) (sym s)
      ∙ ap (has_key (key_of p)) G.state
      ∙ other)

  -- and takes another
  taken : (j : ℕ) → (is_free (slot_at r.slots j) || has_key (key_of p) (slot_at r.slots j)) ≡ true → i ≡ j → ⊥
  taken j h s =
      true≢false
      (sym h
      ∙ ap (λ (n : ℕ). is_free (slot_at r.slots n) || has_key (key_of p) (slot_at r.slots n)) (sym s)
      ∙ ap (λ (x : SlotState). is_free x || has_key (key_of p) x) G.state
      ∙ other)

  other_stays : Stays i (length sofar) r m (offered_to most time r m p).receiver (offered_to most time r m p).memory
  unfolding offered_to
  other_stays =
      every_decision most r (length m) p
      (λ d. Stays i (length sofar) r m (carried_out time (after_offer r d) m p d).receiver
      (carried_out time (after_offer r d) m p d).memory)
      (record {
        refuses = λ n b. (ap (λ (l : List Slot). get_or l i free_slot) (offer_slots r (refuse n)), refl);
        releases = λ e j n h b c. (get_or-set_other r.slots j i free_slot free_slot (apart j c), refl);
        puts = λ e s j at again then f. (
          ap (λ (l : List Slot). get_or l i free_slot)
              (put_fields then (with_slot (with_offered r) j (slot_in then time))).1
              ∙ get_or-set_other r.slots j i (slot_in then time) free_slot (taken j f.taken),
          slot_apart most m i j at (body_of p) (length sofar) (λ x. taken j f.taken (sym x)) f.place held_fits,
        );
      })

module _ (most : ℕ) (r : Receiver) (m : List ℕ) (k : Key) (i since last unit : ℕ) (sofar : List ℕ)
    (G : Gathers most r m k i since last unit sofar) where
  -- a packet of another key, or one that is refused with anything but 20 to 22, in time; or another slot freed
  stays : (c : Call) → Harmless most r m k i since c
      → Stays i (length sofar) r m (called most r m c).receiver (called most r m c).memory
  stays (give time p) (young, h) = ⊎_elim other_key early_refused h
    where
      on : Gathers most (expired time r) m k i since last unit sofar
      on = gathers_on most time r m k i since last unit sofar G young

      same : get_or (expired time r).slots i free_slot ≡ get_or r.slots i free_slot
      same = kept most time r m k i since last unit sofar G young

      other_key : same_key k (key_of p) ≡ false
          → Stays i (length sofar) r m (step_of most time r m p).receiver (step_of most time r m p).memory
      other_key o =
          let there = other_stays most time (expired time r) m k i since last unit sofar on p o in
          rw (step_is_offered most time r m p G.right G.memory) (there.0 ∙ same, there.1)

      early_refused : ((n : ℕ) × (n ≤ 19) × ((step_of most time r m p).said ≡ refused n))
          → Stays i (length sofar) r m (step_of most time r m p).receiver (step_of most time r m p).memory
      early_refused e =
          let left = refused_keeps most time r m p e.0 e.2 e.1 in (
            ap (λ (l : List Slot). get_or l i free_slot) left.0
                ∙ ap (λ (x : Receiver). get_or x.slots i free_slot)
                (aged_expired most time r (length m) p G.right (eq-eqb (length m) 4096 G.memory))
                ∙ same,
            ap (λ (n : List ℕ). message n i (length sofar)) left.1,
          )
  stays (free j) d = (freed_others most r i j d, refl)

  -- what stands between leaves the message as it was
  pub between_gathers : (c : Call) → Harmless most r m k i since c
      → Gathers most (called most r m c).receiver (called most r m c).memory k i since last unit sofar
  between_gathers c h =
      let same = stays c h in
      record {
        right = called_right most r m c G.right;
        memory = called_size most r m c ∙ G.memory;
        slot = G.slot;
        state = ap (λ (x : Slot). x.state) same.0 ∙ G.state;
        count = ap (λ (x : Slot). x.since) same.0 ∙ G.count;
        bytes = same.1 ∙ G.bytes;
      }

-- a start is put into its key's slot, else into the lowest free one
start_put : (b : Bool) (x y : ℕ) (then : SlotState) → pick b x y < 4
    → pick b (put x 0 true then) (pick (ltb y 4) (put y 0 false then) (refuse 18)) ≡ put (pick b x y) 0 b then
start_put true x y then h = refl
start_put false x y then h = rw (lt-ltb y 4 h)

module _ (most time : ℕ) (r : Receiver) (m p : List ℕ) (right : right_state most r ≡ true) (size : length m ≡ 4096)
    (S : Starts most r.setup p)
    (room : slot_for (expired time r).slots (key_of p) < 4) where
  -- the receiver that it is offered to
  abbrev clear : Receiver
  clear = expired time r

  right_then : right_state most clear ≡ true
  right_then = expired_right time r most right

  -- its slot, whether its key had it, and the body's size
  abbrev i : ℕ
  i = slot_for clear.slots (key_of p)

  abbrev again : Bool
  again = ltb (slot_of clear.slots (key_of p)) 4

  abbrev n : ℕ
  n = length (body_of p)

  begun : decided most clear (length m) p
      ≡ put i 0 again
      (after (header_of p) n n)
  unfolding on_start slot_for header_of
  begun =
      decided_rules most clear (length m) p right_then size (checked_then most time r p S.checked)
      ∙ ruled_start clear.slots (header_of p) n S.start
      ∙ start_put again (slot_of clear.slots (key_of p)) (lowest_free clear.slots 0 4)
      (after (header_of p) n n) room

  body_fits : n ≤ 1024
  body_fits =
      omega (
        arith,
        within_bounds 5 (4 + most) (length p) S.checked.0,
        length-drop 4 p,
        most_bounds most r right,
      )

  laid_first : message (laid m (1024 * i + 0) (body_of p)) i
      n ≡ body_of p
  laid_first =
      rw (sym (zero-add n))
      (part_grown m (1024 * i) 0 (body_of p) (omega (arith, size, room, body_fits)))

  -- "its body goes to the slot's front": held, or done where it is the end too; "again" exactly if its key had a slot
  pub start_held : end_of p ≡ false → step_of most time r m p
      ≡ record {
        said = held i n again;
        receiver =
            with_slot (with_offered clear) i (slot_in (Gathering (key_of p) (sequence_of p) n n) time);
        memory = laid m (1024 * i + 0) (body_of p);
      }
  unfolding offered_to
  start_held e =
      step_is_offered most time r m p right size
      ∙ ap (λ (d : Decision). carried_out time (after_offer clear d) m p d)
      (begun ∙ ap (put i 0 again) (after_middle p n n e))
      ∙ ap (λ (bytes : ℕ). record {
        said = held i bytes again;
        receiver = with_slot (with_offered clear) i (slot_in (Gathering (key_of p) (sequence_of p) n n) time);
        memory = laid m (1024 * i + 0) (body_of p);
      }) (zero-add n)

  pub start_done : end_of p ≡ true → step_of most time r m p
      ≡ record {
        said = done i n again;
        receiver = with_done (with_slot (with_offered clear) i free_slot);
        memory = laid m (1024 * i + 0) (body_of p);
      }
  unfolding offered_to
  start_done e =
      step_is_offered most time r m p right size
      ∙ ap (λ (d : Decision). carried_out time (after_offer clear d) m p d)
      (begun ∙ ap (put i 0 again) (after_end p n n e))
      ∙ ap (λ (bytes : ℕ). record {
        said = done i bytes again;
        receiver = with_done (with_slot (with_offered clear) i free_slot);
        memory = laid m (1024 * i + 0) (body_of p);
      }) (zero-add n)

  pub start_message : end_of p ≡ true
      → message (step_of most time r m p).memory i n ≡ body_of p
  start_message e =
      ap (λ (l : Left). message l.memory i n) (start_done e)
      ∙ laid_first

  pub start_gathers : end_of p ≡ false
      → Gathers most (step_of most time r m p).receiver (step_of most time r m p).memory (key_of p) i
      time (sequence_of p) n (body_of p)
  start_gathers e =
      record {
        right = step_right most time r m p right;
        memory = step_size most time r m p ∙ size;
        slot = room;
        state =
            ap (λ (l : Left). slot_at l.receiver.slots i) (start_held e)
            ∙ slot_same clear.slots i _
            (omega (arith, room, (right_of most clear right_then).four));
        count =
            ap (λ (l : Left). since_at l.receiver.slots i) (start_held e)
            ∙ since_same clear.slots i _ (omega (arith, room, (right_of most clear right_then).four));
        bytes =
            ap (λ (l : Left). message l.memory i n) (start_held e)
            ∙ laid_first;
      }
