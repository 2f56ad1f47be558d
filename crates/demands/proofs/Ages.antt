-- Old half-messages don't hold slots, sentence by sentence (document 02, #106), each a theorem over the definitions
-- that the public contracts cite. What a refusal may change stands in Demands, with demand 1; the packets of a
-- message that come in time, with demand 2; the same counts on both sides, with demand 3. 64 is the base's largest
-- body.
-- Assumes nothing.
use mathlib.Core.Path.{◌≡◌, refl, ap, sym, ◌∙◌}
use mathlib.Core.Bool.{true, false, and-false, true≢false}
use mathlib.Core.List.{List, [], ◌∷◌, ◌++◌}
use Prim.Native.Nat.{ℕ, ◌+◌, ◌%◌, ◌≤◌, ◌<◌}
use native.Mathlib.Omega.{arith}
use borrow.Author.Tests.{lt-ltb}
use lib.Dec.{lit<, lit≤}
use lib.ListN.{length, get_or}
use Rattle.octets.specs.Choice.{pick, within}
use Rattle.octets.specs.Checks.{Hold}
use Rattle.octets.proofs.Choice.{both, either_way, within_bounds}
use Rattle.mctp.specs.declared.packet.Key.{Key}
use Rattle.mctp.specs.Eid.{endpoint_eid}
use Rattle.mctp.specs.Packet.{body_of, start_of, end_of}
use Rattle.mctp.specs.Key.{key_of}
use Rattle.slots.specs.declared.state.Setup.{Setup}
use Rattle.slots.specs.declared.state.Slot.{Slot}
use Rattle.slots.specs.declared.state.SlotState.TheVariants.{Gathering}
use Rattle.slots.specs.declared.state.Receiver.{Receiver}
use Rattle.slots.specs.Setup.{right_setup}
use Rattle.slots.specs.Slots.{free_slot, slot_at, since_at, has_key, lowest_free}
use Rattle.slots.specs.State.{right_state}
use Rattle.slots.specs.Changes.{set_up_refusal, set_up_of, free_refusal, freed_of}
use Rattle.slots.specs.Ages.{age, old_at, expired_to, expired}
use Rattle.slots.proofs.States.{right_of}
use Rattle.slots.proofs.Changes.{fresh_right, set_up_right_lem, freed_wrong}
use Rattle.slots.proofs.Ages.{age_later, expired_setup, expired_counts, expired_right, expired_slot, expired_freed}
use Rattle.slots.proofs.Ages.{key_expired}
use Rattle.slots.proofs.Found.{holds_key, lowest_found}
use Rattle.decision.specs.Checks.{packet_order, source_order}
use Rattle.receiver.specs.Effects.{BegunAnew}
use Rattle.receiver.specs.Step.{refused, held, done, offered_to, step_of}
use Rattle.receiver.proofs.Laws.{step_is_offered, wrong_refused, step_right, step_size}
use Rattle.receiver.proofs.Young.{step_young, then_none_expired}
use Rattle.receiver.proofs.Gone.{gone}
use Rattle.messages.specs.Message.{Young, Starts}
use Rattle.messages.specs.Tallies.{SlotsTold}
use Rattle.messages.proofs.Tallies.{slots_told}
use Rattle.messages.proofs.NoSlot.{begins_there, done_there, no_start}
use Rattle.rack.specs.Arrivals as carrier
use Rattle.rack.specs.Arrivals.{smbus_brings}
use Rattle.rack.specs.Answers.{arrived_of}
use Rattle.transcript.specs.declared.state.State.{State}
use Rattle.transcript.specs.State.{own_address, start, every_time}
use Rattle.transcript.specs.Frame.{counted, after_frame}
use Rattle.transcript.specs.Taking as transcript

-- "Before anything but checks 1 and 2, every slot whose age exceeds a set limit of 1 to 60,000 is freed, whatever the
-- packet's answer.": past those two, the packet is offered to the receiver without its old slots
pub old_slots_are_freed_first : (time : ℕ) (r : Receiver) (m p : List ℕ) → right_state 64 r ≡ true → length m ≡ 4096
    → step_of 64 time r m p ≡ offered_to 64 time (expired time r) m p
old_slots_are_freed_first = step_is_offered 64

-- which are those, and no other: each slot is freed exactly if it is too old at the call's count, and else stays as
-- it is
pub each_slot_is_freed_or_stays : (time : ℕ) (r : Receiver) (i : ℕ) → right_state 64 r ≡ true → i < 4
    → get_or (expired time r).slots i free_slot ≡ pick (old_at time r i) free_slot (get_or r.slots i free_slot)
each_slot_is_freed_or_stays time r i right = expired_slot time r 64 right i

-- they leave the tallies; set-up, packets offered and messages done stay
pub nothing_else_changes : (time : ℕ) (r : Receiver) → right_state 64 r ≡ true
    → ((expired time r).setup ≡ r.setup) × SlotsTold (expired time r)
    × ((expired time r).tallies.offered ≡ r.tallies.offered) × ((expired time r).tallies.done ≡ r.tallies.done)
nothing_else_changes time r right =
    let counts = expired_counts time r in (
      expired_setup time r 4 (lit≤ tt),
      slots_told 64 (expired time r) (expired_right time r 64 right),
      counts.0,
      counts.1,
    )

-- so after any call that passes 1 and 2 no slot is too old at the call's own count
pub no_slot_is_left_too_old : (time : ℕ) (r : Receiver) (m p : List ℕ) → time < 4294967296 → right_state 64 r ≡ true
    → length m ≡ 4096
    → (i : ℕ) → i < 4 → old_at time (step_of 64 time r m p).receiver i ≡ false
no_slot_is_left_too_old = step_young 64

-- "each gathering slot keeps the count of its last accepted packet. Age is now minus then, modulo 2^32.": at a count
-- that is past that by more than the limit and less than a whole turn, a slot that gathers is too old
pub it_is_too_old : (time : ℕ) (r : Receiver) (i : ℕ) (k : Key) (q u h d : ℕ)
    → slot_at r.slots i ≡ Gathering k q u h → since_at r.slots i < 4294967296
    → r.setup.limit < d → d < 4294967296 → time ≡ (since_at r.slots i + d) % 4294967296
    → old_at time r i ≡ true
it_is_too_old time r i k q u h d gathers bits over turn when =
    let past = ap (λ (t : ℕ). age t (since_at r.slots i)) when ∙ age_later (since_at r.slots i) d bits turn in
    rw (gathers, lt-ltb r.setup.limit (age time (since_at r.slots i)) (omega (arith, past)))

-- such a call, in a right state and with a memory of the right size
module _ (time : ℕ) (r : Receiver) (m p : List ℕ) (i : ℕ) (k : Key) (q u h : ℕ) (right : right_state 64 r ≡ true)
    (size : length m ≡ 4096)
    (low : i < 4)
    (gathers : slot_at r.slots i ≡ Gathering k q u h)
    (old : old_at time r i ≡ true) where
  none : (j : ℕ) → j < 4 → has_key k (slot_at (expired time r).slots j) ≡ false
  none = key_expired time 64 r right k i low (holds_key k q u h (slot_at r.slots i) gathers) old

  -- after the call no slot holds that half-message: one that has its key was begun by the call's own packet
  pub the_half_message_is_gone : (j : ℕ) → j < 4
      → has_key k (slot_at (step_of 64 time r m p).receiver.slots j) ≡ true
      → BegunAnew k p (slot_at (step_of 64 time r m p).receiver.slots j)
  the_half_message_is_gone = gone 64 time r m p right size k none

  -- so there is a slot for any packet that asks for one
  pub then_a_slot_is_free : lowest_free (expired time r).slots 0 4 < 4
  then_a_slot_is_free =
      let free = ap (λ (x : Slot). x.state) (expired_freed time r 64 right i low old) in
      omega (arith, lowest_found (expired time r).slots i low free)

  module _ (mine : key_of p ≡ k) where
    none_mine : (j : ℕ) → j < 4 → has_key (key_of p) (slot_at (expired time r).slots j) ≡ false
    none_mine j hj = ap (λ (x : Key). has_key x (slot_at (expired time r).slots j)) mine ∙ none j hj

    -- a start of its key is not "again", and takes the lowest free slot
    pub a_start_is_not_again : Starts 64 r.setup p → end_of p ≡ false
        → (step_of 64 time r m p).said ≡ held (lowest_free (expired time r).slots 0 4) (length (body_of p)) false
    a_start_is_not_again starts = begins_there 64 time r m p right size none_mine starts then_a_slot_is_free

    pub nor_is_one_that_ends : Starts 64 r.setup p → end_of p ≡ true
        → (step_of 64 time r m p).said ≡ done (lowest_free (expired time r).slots 0 4) (length (body_of p)) false
    nor_is_one_that_ends starts = done_there 64 time r m p right size none_mine starts then_a_slot_is_free

    -- and any other packet of its key, which no check refuses, gets 19
    pub any_other_packet_gets_19 : Hold (packet_order 64 r.setup p ++ source_order p) → start_of p ≡ false
        → (step_of 64 time r m p).said ≡ refused 19
    any_other_packet_gets_19 = no_start 64 time r m p right size none_mine

-- a packet that comes no later behind the slot's last than the limit is in time, also where the count wraps between
-- them: what `messages_are_put_together` asks of each packet, and of each call between
pub later_within_the_limit_is_in_time : (s : Setup) (since d : ℕ) → right_setup s ≡ true → since < 4294967296
    → d ≤ s.limit → Young s ((since + d) % 4294967296) since
later_within_the_limit_is_in_time s since d right bits h =
    let limit = within_bounds 1 60000 s.limit
    (both (endpoint_eid s.own.0) (within 1 60000 s.limit) right).1 in
    omega (arith, age_later since d bits (omega (arith, limit.1)))

-- "Refusals: 1 for a limit out of range.": at set-up, beside which stands a receiver with a limit in range,
pub a_wrong_limit_is_refused : (s : Setup) → within 1 60000 s.limit ≡ false → set_up_refusal s ≡ 1
unfolding set_up_refusal
a_wrong_limit_is_refused s e = rw (e, and-false (endpoint_eid s.own.0))

pub beside_a_refusal_the_limit_is_right : (s : Setup) → within 1 60000 (set_up_of s).setup.limit ≡ true
beside_a_refusal_the_limit_is_right s =
    let right = (right_of 64 (set_up_of s) (set_up_right_lem 64 s refl)).setup in
    (both (endpoint_eid (set_up_of s).setup.own.0) (within 1 60000 (set_up_of s).setup.limit) right).1

-- and in any stored state, by both calls, and all is unchanged
pub a_wrong_limit_stored_is_refused : (time : ℕ) (r : Receiver) (m p : List ℕ) (i : ℕ)
    → within 1 60000 r.setup.limit ≡ false
    → (step_of 64 time r m p ≡ record { said = refused 1; receiver = r; memory = m })
    × (free_refusal 64 r i ≡ 1) × (freed_of 64 r i ≡ r)
a_wrong_limit_stored_is_refused time r m p i e =
    let wrong : right_state 64 r ≡ false =
    either_way (right_state 64 r)
    (λ t. absurd (true≢false (sym (both (endpoint_eid r.setup.own.0) (within 1 60000 r.setup.limit)
    (right_of 64 r t).setup).1 ∙ e)))
    (λ f. f) in
    (wrong_refused 64 time r m p wrong, (freed_wrong 64 r i wrong).0, (freed_wrong 64 r i wrong).1)

-- "The bench program gives 0 as every time.": so it frees no slot by age, whatever frames come
abbrev Still : State → (memory : List ℕ) → Type 0
Still s m =
    (right_state 64 s.receiver ≡ true) × (length m ≡ 4096) × (expired every_time s.receiver ≡ s.receiver)

one_frame_still : (s : State) (m : List ℕ) (c : carrier.Brought) → Still s m
    → let after = counted s (arrived_of 64 every_time s.receiver m c) in Still after.state after.memory
one_frame_still s m (carrier.packet p beside) h = (
  step_right 64 every_time s.receiver m p h.0,
  step_size 64 every_time s.receiver m p ∙ h.1,
  then_none_expired 64 every_time s.receiver m p (lit< tt) h.0 h.1,
)
one_frame_still s m (carrier.none why) h = h

frames_still : (s : State) (m : List ℕ) (frames : List (List ℕ)) → Still s m
    → Still (transcript.run s m frames).state (transcript.run s m frames).memory
unfolding transcript.run after_frame
frames_still s m [] h = h
frames_still s m (frame ∷ frames) h =
    let one = counted s (arrived_of 64 every_time s.receiver m (smbus_brings 64 frame own_address)) in
    frames_still one.state one.memory frames (one_frame_still s m (smbus_brings 64 frame own_address) h)

pub the_bench_program_frees_no_slot_by_age : (m : List ℕ) (frames : List (List ℕ)) → length m ≡ 4096
    → let after = (transcript.run start m frames).state.receiver in expired every_time after ≡ after
unfolding expired_to
the_bench_program_frees_no_slot_by_age m frames size =
    (frames_still start m frames (fresh_right 64 start.receiver.setup refl refl, size, refl)).2
