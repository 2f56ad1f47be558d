-- Set-up gives a right state, a slot freed leaves one, and nothing else changes.
-- Assumes nothing.
use Rattle.std.proofs.Common.{◌≡◌, ℕ, ◌<◌, ◌≤◌, Bool, true, false, ◌&&◌, ltb, refl, ap, ◌∙◌, ltb-true, le-ltb, lt-ltb}
use mathlib.Core.Bool.{and-false}
use Rattle.octets.specs.Choice.{pick}
use Rattle.octets.proofs.Choice.{pick_elim, both}
use Rattle.mctp.specs.Packet.{body_right}
use Rattle.slots.specs.declared.state.Setup.{Setup}
use Rattle.slots.specs.declared.state.Receiver.{Receiver}
use Rattle.slots.specs.Setup.{right_setup}
use Rattle.slots.specs.Slots.{free_slot}
use Rattle.slots.specs.Tallies.{sum_of}
use Rattle.slots.specs.State.{right_slot, clash, right_state}
use Rattle.slots.specs.Changes.{fresh, with_slot, with_offered, with_done, set_up_of, free_refusal, freed_of}
use Rattle.slots.proofs.States.{right_of, right_holds, with_right}

-- a fresh receiver's state is right
pub fresh_right : (most : ℕ) (s : Setup) → body_right most ≡ true → right_setup s ≡ true
    → right_state most (fresh s) ≡ true
unfolding right_state right_slot clash sum_of
fresh_right most s m e = rw (m, e)

-- set-up gives a right state, also beside a refusal
pub set_up_right_lem : (most : ℕ) (s : Setup) → body_right most ≡ true → right_state most (set_up_of s) ≡ true
unfolding set_up_of
set_up_right_lem most s m =
    pick_elim (λ t. right_state most (fresh t) ≡ true) (right_setup s) s
    (record { own = record { 0 = 0 }; limit = 60000 })
    (fresh_right most s m)
    (λ e. fresh_right most (record { own = record { 0 = 0 }; limit = 60000 }) m refl)

-- a packet or a message counted leaves a right state right: any value of the last two tallies is
pub offered_right : (most : ℕ) (r : Receiver) → right_state most r ≡ true → right_state most (with_offered r) ≡ true
unfolding right_state
offered_right most r e = e

pub done_right : (most : ℕ) (r : Receiver) → right_state most r ≡ true → right_state most (with_done r) ≡ true
unfolding right_state
done_right most r e = e

-- a slot freed leaves a right state right
pub free_right : (most : ℕ) (r : Receiver) (i : ℕ) → i < 4 → right_state most r ≡ true
    → right_state most (with_slot r i free_slot) ≡ true
unfolding right_slot clash
free_right most r i h e =
    right_holds most (with_slot r i free_slot) (with_right most r (right_of most r e) i free_slot h refl
    (λ j hj n. refl))

pub freed_right : (most : ℕ) (r : Receiver) (i : ℕ) → right_state most r ≡ true
    → right_state most (freed_of most r i) ≡ true
unfolding freed_of
freed_right most r i e =
    pick_elim (λ t. right_state most t ≡ true) (right_state most r && ltb i 4) (with_slot r i free_slot) r
    (λ t. free_right most r i (ltb-true i 4 (both (right_state most r) (ltb i 4) t).1) e)
    (λ t. e)

-- a slot of a right state freed: 0, and that slot alone becomes free
pub freed_good : (most : ℕ) (r : Receiver) (i : ℕ) → right_state most r ≡ true → i < 4
    → (free_refusal most r i ≡ 0) × (freed_of most r i ≡ with_slot r i free_slot)
unfolding free_refusal freed_of
freed_good most r i e h = (rw (e, lt-ltb i 4 h), rw (e, lt-ltb i 4 h))

-- any other number: 1, and nothing changes
pub freed_past : (most : ℕ) (r : Receiver) (i : ℕ) → 4 ≤ i → (free_refusal most r i ≡ 1) × (freed_of most r i ≡ r)
unfolding free_refusal freed_of
freed_past most r i h =
    let wrong = ap (λ (b : Bool). right_state most r && b) (le-ltb i 4 h) ∙ and-false (right_state most r) in
    (rw wrong, rw wrong)

-- whatever the number is, refused: nothing changes
pub freed_refused : (most : ℕ) (r : Receiver) (i : ℕ) → (free_refusal most r i ≡ 0 → ⊥) → freed_of most r i ≡ r
unfolding free_refusal freed_of
freed_refused most r i = by_test (right_state most r && ltb i 4)
  where
    by_test : (b : Bool) → (◌≡◌ {A = ℕ} (pick b 0 1) 0 → ⊥) → pick b (with_slot r i free_slot) r ≡ r
    by_test true never = absurd (never refl)
    by_test false never = refl

-- a wrong state: 1, and nothing changes
pub freed_wrong : (most : ℕ) (r : Receiver) (i : ℕ) → right_state most r ≡ false
    → (free_refusal most r i ≡ 1) × (freed_of most r i ≡ r)
unfolding free_refusal freed_of
freed_wrong most r i e = (rw e, rw e)
