-- A call that passes 1 and 2 leaves no slot that is too old at its count.
-- Assumes nothing.
use mathlib.Core.Path.{◌≡◌, refl, ap, ◌∙◌}
use mathlib.Core.Bool.{true, false}
use mathlib.Core.List.{List}
use mathlib.Core.Logic.{dite}
use Prim.Native.Nat.{ℕ, ◌<◌}
use native.Mathlib.Decide.{ℕ_discrete}
use native.Mathlib.Omega.{arith}
use borrow.Author.Tests.{le-ltb}
use lib.ListN.{length, get_or}
use lib.Seq.{get_or-set_same, get_or-set_other}
use Rattle.slots.specs.declared.state.Slot.{Slot}
use Rattle.slots.specs.declared.state.SlotState.{SlotState}
use Rattle.slots.specs.declared.state.SlotState.TheVariants.{Free, Gathering}
use Rattle.slots.specs.declared.state.Receiver.{Receiver}
use Rattle.slots.specs.Slots.{free_slot}
use Rattle.slots.specs.State.{right_state}
use Rattle.slots.specs.Changes.{with_slot, with_offered}
use Rattle.slots.specs.Ages.{age, too_old, old_at, expired}
use Rattle.slots.proofs.States.{right_of}
use Rattle.slots.proofs.Ages.{age_none, none_too_old, none_expired}
use Rattle.decision.specs.Rules.{refuse}
use Rattle.decision.proofs.DecidedRules.{every_decision}
use Rattle.receiver.specs.Step.{since_in, after_put, carried_out, after_offer, offered_to, step_of}
use Rattle.receiver.proofs.Offered.{offer_setup, offer_slots, put_fields}
use Rattle.receiver.proofs.Laws.{step_is_offered}

-- no slot of this receiver is too old at this count
abbrev pub NoneOld : (time : ℕ) → Receiver → Type 0
NoneOld time r = (i : ℕ) → i < 4 → old_at time r i ≡ false

-- set-up and slots are all that counts
same_slots : (time : ℕ) (r q : Receiver) → q.setup ≡ r.setup → q.slots ≡ r.slots → NoneOld time r → NoneOld time q
same_slots time r q setup slots young i h =
    (λ j. too_old (setup j).limit time (get_or (slots j) i free_slot).state (get_or (slots j) i free_slot).since)
    ∙ young i h

-- a slot that a packet leaves is as old as the packet
slot_in_young : (limit time : ℕ) (s : SlotState) → time < 4294967296 → too_old limit time s (since_in s time) ≡ false
slot_in_young limit time Free low = refl
slot_in_young limit time (Gathering k q u h) low = le-ltb limit (age time time) (omega (arith, age_none time low))

-- a slot set to one that isn't too old
set_young : (time : ℕ) (r : Receiver) (i : ℕ) (x : Slot) → length r.slots ≡ 4 → i < 4
    → too_old r.setup.limit time x.state x.since ≡ false → NoneOld time r → NoneOld time (with_slot r i x)
set_young time r i x four low new young j h =
    dite (ℕ_discrete j i)
    (λ (e : j ≡ i).
    ap (λ (n : ℕ). old_at time (with_slot r i x) n) e
    ∙ ap (λ (y : Slot). too_old r.setup.limit time y.state y.since)
    (get_or-set_same r.slots i x free_slot (omega arith))
    ∙ new)
    (λ (d : j ≡ i → ⊥).
    ap (λ (y : Slot). too_old r.setup.limit time y.state y.since)
    (get_or-set_other r.slots i j x free_slot d)
    ∙ young j h)

module _ (most time : ℕ) (r : Receiver) (m p : List ℕ) (low : time < 4294967296) where
  -- a packet offered to a receiver without old slots
  offered_young : NoneOld time r → NoneOld time (offered_to most time r m p).receiver
  unfolding offered_to
  offered_young young =
      every_decision most r (length m) p (λ d. NoneOld time (carried_out time (after_offer r d) m p d).receiver)
      (record {
        refuses = λ n b.
            same_slots time r (after_offer r (refuse n)) (offer_setup r (refuse n)) (offer_slots r (refuse n)) young;
        releases = λ e i n h b k.
            set_young time (with_offered r) i free_slot (right_of most r e).four h refl young;
        puts = λ e s i at again then f.
            let q = with_slot (with_offered r) i _ in
            let same = put_fields then q in
            same_slots time q (after_put then q) same.0 same.1
            (set_young time (with_offered r) i _ (right_of most r e).four f.slot
            (slot_in_young r.setup.limit time then low) young);
      })

module _ (most time : ℕ) (r : Receiver) (m p : List ℕ) (low : time < 4294967296) (right : right_state most r ≡ true)
    (size : length m ≡ 4096) where
  pub step_young : NoneOld time (step_of most time r m p).receiver
  step_young =
      rw (step_is_offered most time r m p right size)
      (offered_young most time (expired time r) m p low (none_too_old time r most right))

  -- so the next call at the same count frees none
  pub then_none_expired : expired time (step_of most time r m p).receiver ≡ (step_of most time r m p).receiver
  then_none_expired = none_expired time (step_of most time r m p).receiver step_young
