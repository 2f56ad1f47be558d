-- The four slots one by one; a slot set anew, and the others.
-- Assumes nothing.
use Rattle.std.proofs.Common.{◌≡◌, ℕ, zero, suc, ◌<◌, ◌≤◌, List, length, set, ap, arith, get_or-set_other}
use Rattle.std.proofs.Common.{get_or-set_same}
use lib.ListN.{get_or-eq_default}
use Rattle.slots.specs.declared.state.Slot.{Slot}
use Rattle.slots.specs.declared.state.SlotState.TheVariants.{Free}
use Rattle.slots.specs.Slots.{free_slot, slot_at, since_at}

-- what holds of the four slots holds of each
pub four_cases : (P : ℕ → Type 0) → P 0 → P 1 → P 2 → P 3 → (i : ℕ) → i < 4 → P i
four_cases P a b c d zero h = a
four_cases P a b c d (suc zero) h = b
four_cases P a b c d (suc (suc zero)) h = c
four_cases P a b c d (suc (suc (suc zero))) h = d
four_cases P a b c d (suc (suc (suc (suc i)))) h =
    let none : ⊥ = omega arith in
    absurd none

-- the slot that is set, and any other
pub slot_same : (l : List Slot) (i : ℕ) (x : Slot) → i < length l → slot_at (set l i x) i ≡ x.state
slot_same l i x h = ap (λ (y : Slot). y.state) (get_or-set_same l i x free_slot h)

pub slot_other : (l : List Slot) (i j : ℕ) (x : Slot) → (j ≡ i → ⊥) → slot_at (set l i x) j ≡ slot_at l j
slot_other l i j x n = ap (λ (y : Slot). y.state) (get_or-set_other l i j x free_slot n)

-- and the count of the one that is set
pub since_same : (l : List Slot) (i : ℕ) (x : Slot) → i < length l → since_at (set l i x) i ≡ x.since
since_same l i x h = ap (λ (y : Slot). y.since) (get_or-set_same l i x free_slot h)

-- past the last slot there is none
pub slot_past : (l : List Slot) (i : ℕ) → length l ≤ i → slot_at l i ≡ Free
slot_past l i h = ap (λ (y : Slot). y.state) (get_or-eq_default l free_slot h)
