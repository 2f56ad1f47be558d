-- Ages: how they are counted, and what is left once every slot that is too old is freed.
-- Assumes nothing.
use Rattle.std.proofs.Common.{◌≡◌, ℕ, zero, suc, ◌+◌, ◌%◌, ◌<◌, ◌≤◌, Bool, true, false, length, get_or, sym, refl, ap}
use Rattle.std.proofs.Common.{◌∙◌, arith, lit≤, length-set, get_or-set_other, get_or-set_same}
use mathlib.Core.Logic.{dite}
use native.Mathlib.Decide.{ℕ_discrete}
use Rattle.octets.specs.Choice.{pick}
use Rattle.octets.proofs.Choice.{pick_elim, either_way}
use Rattle.mctp.specs.declared.packet.Key.{Key}
use Rattle.slots.specs.declared.state.Slot.{Slot}
use Rattle.slots.specs.declared.state.Receiver.{Receiver}
use Rattle.slots.specs.Slots.{free_slot, slot_at, has_key}
use Rattle.slots.specs.State.{right_state}
use Rattle.slots.specs.Changes.{with_slot}
use Rattle.slots.specs.Ages.{age, too_old, old_at, expired_to, expired}
use Rattle.slots.proofs.States.{right_of}
use Rattle.slots.proofs.Found.{key_alone}
use Rattle.slots.proofs.Changes.{free_right}

-- a count that is later than another by less than a whole turn, also where it wraps
pub age_later : (since d : ℕ) → since < 4294967296 → d < 4294967296 → age ((since + d) % 4294967296) since ≡ d
age_later since d low less = omega arith

pub age_none : (time : ℕ) → time < 4294967296 → age time time ≡ 0
age_none time low = omega arith

module _ (time : ℕ) (r : Receiver) where
  -- the first n slots looked through; slot i before, and then
  abbrev to : ℕ → Receiver
  to n = expired_to time r n

  abbrev before : ℕ → Slot
  before i = get_or r.slots i free_slot

  abbrev then : ℕ → ℕ → Slot
  then n i = get_or (to n).slots i free_slot

  -- what holds of a receiver, and stays where a slot is freed, holds at the end
  pub by_slots : (P : Receiver → Type 0) → P r → ((q : Receiver) (i : ℕ) → i < 4 → P q → P (with_slot q i free_slot))
      → (n : ℕ) → n ≤ 4 → P (to n)
  unfolding expired_to
  by_slots P start frees zero h = start
  by_slots P start frees (suc n) h =
      let so_far = by_slots P start frees n (omega arith) in
      pick_elim P (old_at time (to n) n) (with_slot (to n) n free_slot) (to n)
      (λ e. frees (to n) n h so_far)
      (λ e. so_far)

  -- the set-up stays, and what is counted; there are as many slots
  pub expired_setup : (n : ℕ) → n ≤ 4 → (to n).setup ≡ r.setup
  expired_setup = by_slots (λ (q : Receiver). q.setup ≡ r.setup) refl (λ q i h e. e)

  pub expired_counts : ((expired time r).tallies.offered ≡ r.tallies.offered)
      × ((expired time r).tallies.done ≡ r.tallies.done)
  expired_counts =
      by_slots (λ (q : Receiver). (q.tallies.offered ≡ r.tallies.offered) × (q.tallies.done ≡ r.tallies.done))
      (refl, refl) (λ q i h e. e) 4 (lit≤ tt)

  expired-length : (n : ℕ) → n ≤ 4 → length (to n).slots ≡ length r.slots
  expired-length =
      by_slots (λ (q : Receiver). length q.slots ≡ length r.slots) refl
      (λ q i h e. length-set q.slots i free_slot ∙ e)

  -- a right state stays right
  pub expired_right : (most : ℕ) → right_state most r ≡ true → right_state most (expired time r) ≡ true
  expired_right most e =
      by_slots (λ (q : Receiver). right_state most q ≡ true) e (λ q i h right. free_right most q i h right) 4 (lit≤ tt)

  -- looking at slot n leaves the others
  other_stays : (n i : ℕ) → (i ≡ n → ⊥) → then (suc n) i ≡ then n i
  unfolding expired_to
  other_stays n i d =
      pick_elim (λ (q : Receiver). get_or q.slots i free_slot ≡ then n i) (old_at time (to n) n)
      (with_slot (to n) n free_slot) (to n)
      (λ e. get_or-set_other (to n).slots n i free_slot free_slot d)
      (λ e. refl)

  not_yet : (n i : ℕ) → n ≤ i → then n i ≡ before i
  unfolding expired_to
  not_yet zero i h = refl
  not_yet (suc n) i h = other_stays n i (λ e. omega arith) ∙ not_yet n i (omega arith)

  -- so slot n is judged by what it was
  judged : (n : ℕ) → n ≤ 4 → old_at time (to n) n ≡ old_at time r n
  judged n h =
      let setup = expired_setup n h in
      let slot = not_yet n n (omega arith) in
      λ j. too_old (setup j).limit time (slot j).state (slot j).since

  here : (n : ℕ) → n < 4 → n < length r.slots → then (suc n) n ≡ pick (old_at time r n) free_slot (before n)
  unfolding expired_to
  here n low h =
      ap (λ (b : Bool). get_or (pick b (with_slot (to n) n free_slot) (to n)).slots n free_slot)
      (judged n (omega arith))
      ∙ by_test (old_at time r n)
    where
      by_test : (b : Bool) → get_or (pick b (with_slot (to n) n free_slot) (to n)).slots n free_slot
          ≡ pick b free_slot (before n)
      by_test true =
          get_or-set_same (to n).slots n free_slot free_slot (omega (arith, expired-length n (omega arith)))
      by_test false = not_yet n n (omega arith)

  -- each slot is freed if it was too old, and else is what it was
  expired_to_lem : (n i : ℕ) → n ≤ 4 → i < n → i < length r.slots
      → then n i ≡ pick (old_at time r i) free_slot (before i)
  expired_to_lem zero i high h low = absurd (omega arith)
  expired_to_lem (suc n) i high h low =
      dite (ℕ_discrete i n)
      (λ (e : i ≡ n).
      ap (then (suc n)) e
      ∙ here n (omega arith) (omega arith)
      ∙ ap (λ (k : ℕ). pick (old_at time r k) free_slot (before k)) (sym e))
      (λ (d : i ≡ n → ⊥). other_stays n i d ∙ expired_to_lem n i (omega arith) (omega arith) low)

  -- where no slot is too old nothing changes
  none_to : (n : ℕ) → n ≤ 4 → ((i : ℕ) → i < 4 → old_at time r i ≡ false) → to n ≡ r
  unfolding expired_to
  none_to zero h young = refl
  none_to (suc n) h young =
      rw (judged n (omega arith), young n (omega arith)) (none_to n (omega arith) young)

  pub none_expired : ((i : ℕ) → i < 4 → old_at time r i ≡ false) → expired time r ≡ r
  none_expired = none_to 4 (lit≤ tt)

  module _ (most : ℕ) (right : right_state most r ≡ true) (i : ℕ) (h : i < 4) where
    pub expired_slot : get_or (expired time r).slots i free_slot ≡ pick (old_at time r i) free_slot (before i)
    expired_slot = expired_to_lem 4 i (lit≤ tt) h (omega (arith, (right_of most r right).four))

    pub expired_kept : old_at time r i ≡ false → get_or (expired time r).slots i free_slot ≡ before i
    expired_kept e = expired_slot ∙ ap (λ (b : Bool). pick b free_slot (before i)) e

    pub expired_freed : old_at time r i ≡ true → get_or (expired time r).slots i free_slot ≡ free_slot
    expired_freed e = expired_slot ∙ ap (λ (b : Bool). pick b free_slot (before i)) e

    -- and none is too old any more
    pub none_too_old : old_at time (expired time r) i ≡ false
    none_too_old =
        let setup = expired_setup 4 (lit≤ tt) in
        either_way (old_at time r i)
        (λ e. ap (λ (x : Slot). too_old (expired time r).setup.limit time x.state x.since) (expired_freed e))
        (λ e.
        let slot = expired_kept e in
        (λ j. too_old (setup j).limit time (slot j).state (slot j).since) ∙ e)

-- a half-message whose slot is freed is gone: no slot has its key
pub key_expired : (time most : ℕ) (r : Receiver) → right_state most r ≡ true → (k : Key) (i : ℕ) → i < 4
    → has_key k (slot_at r.slots i) ≡ true → old_at time r i ≡ true
    → (j : ℕ) → j < 4 → has_key k (slot_at (expired time r).slots j) ≡ false
key_expired time most r right k i h has old j hj =
    dite (ℕ_discrete i j)
    (λ (e : i ≡ j).
    ap (λ (x : Slot). has_key k x.state)
    (expired_freed time r most right j hj (ap (old_at time r) (sym e) ∙ old)))
    (λ (d : i ≡ j → ⊥).
    ap (λ (x : Slot). has_key k x.state) (expired_slot time r most right j hj)
    ∙ pick_elim (λ (x : Slot). has_key k x.state ≡ false) (old_at time r j) free_slot (get_or r.slots j free_slot)
    (λ t. refl)
    (λ t. key_alone most r (right_of most r right) k i j h hj d has))
