-- A key that no slot has once old slots are freed: after the call no slot has it, unless the call's own packet is a
-- start of that key.
-- Assumes nothing.
use mathlib.Core.Path.{◌≡◌, ap, sym, subst, ◌∙◌}
use mathlib.Core.Bool.{Bool, true, false, true≢false}
use mathlib.Core.List.{List}
use mathlib.Core.Logic.{dite, by_cases}
use Prim.Native.Nat.{ℕ, ◌+◌, ◌<◌}
use native.Mathlib.Decide.{dec_lt, ℕ_discrete}
use native.Mathlib.Omega.{arith}
use borrow.Author.Tests.{eq-eqb}
use lib.ListN.{length, set}
use Rattle.octets.specs.Choice.{pick}
use Rattle.mctp.specs.declared.packet.Key.{Key}
use Rattle.mctp.specs.Packet.{body_of, start_of, sequence_of, end_of}
use Rattle.mctp.specs.Key.{key_of, header_of}
use Rattle.mctp.proofs.Keys.{same_key_true}
use Rattle.slots.specs.declared.state.Slot.{Slot}
use Rattle.slots.specs.declared.state.SlotState.{SlotState}
use Rattle.slots.specs.declared.state.SlotState.TheVariants.{Free, Gathering}
use Rattle.slots.specs.declared.state.Receiver.{Receiver}
use Rattle.slots.specs.Slots.{free_slot, slot_at, is_free, has_key, slot_of}
use Rattle.slots.specs.State.{right_state}
use Rattle.slots.specs.Changes.{with_slot, with_offered}
use Rattle.slots.specs.Ages.{expired}
use Rattle.slots.proofs.Slots.{slot_same, slot_other, slot_past}
use Rattle.slots.proofs.States.{right_of}
use Rattle.slots.proofs.Ages.{expired_right}
use Rattle.slots.proofs.Found.{slot_of_has}
use Rattle.decision.specs.Rules.{Decision, refuse, after}
use Rattle.decision.specs.Decision.{decided}
use Rattle.decision.proofs.Passed.{aged_expired, every_passed}
use Rattle.receiver.specs.Effects.{BegunAnew}
use Rattle.receiver.specs.Step.{slot_in, after_put, carried_out, after_offer, offered_to, step_of}
use Rattle.receiver.proofs.Offered.{offer_slots, put_fields}
use Rattle.receiver.proofs.Laws.{step_is_offered}

-- what a packet leaves in a slot has the packet's key, or none
after_key : (k : Key) (p : List ℕ) (unit n : ℕ) → has_key k (after (header_of p) unit n) ≡ true
    → (key_of p ≡ k) × (after (header_of p) unit n ≡ Gathering k (sequence_of p) unit n)
unfolding after header_of
after_key k p unit n e = by_end (end_of p) e
  where
    by_end : (b : Bool) → has_key k (pick b Free (Gathering (key_of p) (sequence_of p) unit n)) ≡ true
        → (key_of p ≡ k) × (pick b Free (Gathering (key_of p) (sequence_of p) unit n)
        ≡ Gathering k (sequence_of p) unit n)
    by_end true h = absurd (true≢false (sym h))
    by_end false h =
        let same = same_key_true (key_of p) k h in
        (same, ap (λ (j : Key). Gathering j (sequence_of p) unit n) same)

module _ (most time : ℕ) (r : Receiver) (m p : List ℕ) (right : right_state most r ≡ true) (size : length m ≡ 4096)
    (k : Key)
    (none : (j : ℕ) → j < 4 → has_key k (slot_at (expired time r).slots j) ≡ false) where
  abbrev clear : Receiver
  clear = expired time r

  abbrev body : ℕ
  body = length (body_of p)

  has_not : (j : ℕ) → j < 4 → has_key k (slot_at clear.slots j) ≡ true → ⊥
  has_not j h e = true≢false (sym e ∙ none j h)

  -- where one slot is set, only that one may have it
  in_set : (A : SlotState → Type 0) (i : ℕ) (x : Slot) → (has_key k x.state ≡ true → A x.state)
      → (j : ℕ) → j < 4 → has_key k (slot_at (set clear.slots i x) j) ≡ true → A (slot_at (set clear.slots i x) j)
  in_set A i x new j h e =
      dite (ℕ_discrete j i)
      (λ (s : j ≡ i).
      let same : slot_at (set clear.slots i x) j ≡ x.state =
      ap (λ (n : ℕ). slot_at (set clear.slots i x) n) s
      ∙ slot_same clear.slots i x
      (omega (arith, (right_of most clear (expired_right time r most right)).four)) in
      subst A (sym same) (new (sym (ap (has_key k) same) ∙ e)))
      (λ (d : j ≡ i → ⊥).
      absurd (has_not j h (sym (ap (has_key k) (slot_other clear.slots i j x d)) ∙ e)))

  -- a packet that follows would have found it
  follows_none : (unit n : ℕ) → has_key k (after (header_of p) unit n) ≡ true → (q u held : ℕ) (j : Key)
      → slot_at clear.slots (slot_of clear.slots (header_of p).key) ≡ Gathering j q u held → ⊥
  unfolding header_of
  follows_none unit n e q u held j is =
      let own = slot_of clear.slots (key_of p) in
      by_cases (dec_lt own 4)
      (λ (h : own < 4).
      has_not own h
      (ap (λ (x : Key). has_key x (slot_at clear.slots own)) (sym (after_key k p unit n e).0)
      ∙ slot_of_has clear.slots (key_of p) h))
      (λ (h : own < 4 → ⊥).
      let past : slot_at clear.slots own ≡ Free =
      slot_past clear.slots own (omega (arith, (right_of most clear (expired_right time r most right)).four)) in
      true≢false (ap is_free (sym past ∙ is)))

  pub gone : (j : ℕ) → j < 4 → has_key k (slot_at (step_of most time r m p).receiver.slots j) ≡ true
      → BegunAnew k p (slot_at (step_of most time r m p).receiver.slots j)
  unfolding offered_to header_of
  gone =
      rw (step_is_offered most time r m p right size)
      (subst (λ (q : Receiver). P (decided most q (length m) p))
      (aged_expired most time r (length m) p right (eq-eqb (length m) 4096 size))
      (every_passed most time r (length m) p right (eq-eqb (length m) 4096 size) P
      (record {
        refuses = λ n b j h e.
            absurd (has_not j h
            (ap (λ (l : List Slot). has_key k (slot_at l j)) (sym (offer_slots clear (refuse n))) ∙ e));
        releases = λ i n b. in_set (BegunAnew k p) i free_slot (λ e. absurd (true≢false (sym e)));
        starts = λ start i again.
            put_in (after (header_of p) body body) i
            (λ e.
            let made = after_key k p body body e in
            record { start = start_of_lem start; key = made.0; state = made.1 });
        follows = λ i q u held j is.
            put_in (after (header_of p) u (held + body)) i
            (λ e. absurd (follows_none u (held + body) e q u held j is));
      })))
    where
      P : Decision → Type 0
      P d = (j : ℕ) → j < 4 → has_key k (slot_at (carried_out time (after_offer clear d) m p d).receiver.slots j) ≡ true
          → BegunAnew k p (slot_at (carried_out time (after_offer clear d) m p d).receiver.slots j)

      start_of_lem : (header_of p).start ≡ true → start_of p ≡ true
      start_of_lem e = e

      put_in : (then : SlotState) (i : ℕ) → (has_key k then ≡ true → BegunAnew k p then)
          → (j : ℕ) → j < 4
          → has_key k (slot_at (after_put then (with_slot (with_offered clear) i (slot_in then time))).slots j) ≡ true
          → BegunAnew k p (slot_at (after_put then (with_slot (with_offered clear) i (slot_in then time))).slots j)
      put_in then i new =
          rw (put_fields then (with_slot (with_offered clear) i (slot_in then time))).1
          (in_set (BegunAnew k p) i (slot_in then time) new)
