-- The tallies that the slots tell: their sums, and how they move with one slot.
-- Assumes nothing.
use Rattle.std.proofs.Common.{◌≡◌, ℕ, ◌+◌, ◌*◌, ◌<◌, ◌≤◌, List, [], ◌∷◌, length, set, ap, ◌∙◌, arith, lit<, lit≤}
use Rattle.std.specs.List.{sum_by}
use lib.Seq.{set_out}
use Rattle.slots.specs.declared.state.Slot.{Slot}
use Rattle.slots.specs.declared.state.SlotState.{SlotState}
use Rattle.slots.specs.declared.state.SlotState.TheVariants.{Free, Gathering}
use Rattle.slots.specs.declared.state.Receiver.{Receiver}
use Rattle.slots.specs.Slots.{free_slot, slot_at}
use Rattle.slots.specs.Tallies.{one_gathering, sum_of, moved, moved_tallies}
use Rattle.slots.specs.Changes.{with_slots, with_slot}
use Rattle.slots.proofs.Slots.{four_cases, slot_same, slot_other, slot_past}

pub one_at_most : (s : SlotState) → one_gathering s ≤ 1
one_at_most Free = lit≤ tt
one_at_most (Gathering k q u h) = lit≤ tt

module _ (f : SlotState → ℕ) where
  -- each adds b at most
  pub sum_at_most : (b : ℕ) (l : List Slot) → ((j : ℕ) → j < 4 → f (slot_at l j) ≤ b) → sum_of f l ≤ 4 * b
  unfolding sum_of
  sum_at_most b l most = omega (arith, most 0 (lit< tt), most 1 (lit< tt), most 2 (lit< tt), most 3 (lit< tt))

  -- what std's `sum` adds up over four slots
  pub sum_over : (l : List Slot) → length l ≡ 4 → sum_by (λ (x : Slot). f x.state) l ≡ sum_of f l
  unfolding sum_of
  sum_over (a ∷ b ∷ c ∷ d ∷ []) h = omega arith
  sum_over l h = absurd (omega arith)

  module _ (l : List Slot) (x : Slot) where
    -- slot j and three others
    with_three : (j a b c : ℕ) → j < length l → (a ≡ j → ⊥) → (b ≡ j → ⊥) → (c ≡ j → ⊥)
        → let m = set l j x in
        f (slot_at m j) + f (slot_at m a) + f (slot_at m b) + f (slot_at m c) + f (slot_at l j)
        ≡ f (slot_at l j) + f (slot_at l a) + f (slot_at l b) + f (slot_at l c) + f x.state
    with_three j a b c there da db dc =
        omega (
          arith,
          ap f (slot_same l j x there),
          ap f (slot_other l j a x da),
          ap f (slot_other l j b x db),
          ap f (slot_other l j c x dc),
        )

    -- less what a slot added, more what it adds
    pub sum_moves : (j : ℕ) → j < length l → j < 4
        → sum_of f (set l j x) + f (slot_at l j) ≡ sum_of f l + f x.state
    unfolding sum_of
    sum_moves j there low =
        four_cases
        (λ (j : ℕ). j < length l → sum_of f (set l j x) + f (slot_at l j) ≡ sum_of f l + f x.state)
        (λ h. omega (arith, with_three 0 1 2 3 h (λ e. omega arith) (λ e. omega arith) (λ e. omega arith)))
        (λ h. omega (arith, with_three 1 0 2 3 h (λ e. omega arith) (λ e. omega arith) (λ e. omega arith)))
        (λ h. omega (arith, with_three 2 0 1 3 h (λ e. omega arith) (λ e. omega arith) (λ e. omega arith)))
        (λ h. omega (arith, with_three 3 0 1 2 h (λ e. omega arith) (λ e. omega arith) (λ e. omega arith)))
        j low there

  -- so a tally that was true stays true
  pub moved_true : f Free ≡ 0 → (b : ℕ) → 4 * b ≤ 4294967295 → (l : List Slot) (i : ℕ) (x : Slot)
      → length l ≡ 4 → i < 4 → (t : ℕ) → t ≡ sum_of f l
      → ((j : ℕ) → j < 4 → f (slot_at (set l i x) j) ≤ b)
      → moved t (f (slot_at l i)) (f (slot_at (set l i x) i))
      ≡ sum_of f (set l i x)
  moved_true none b high l i x four h t true most =
      let there : i < length l = omega arith in
      omega (
        arith,
        none,
        true,
        ap f (slot_same l i x there),
        sum_moves l x i there h,
        sum_moves l free_slot i there h,
        sum_at_most b (set l i x) most,
      )

-- past the last slot nothing changes
pub past_last : (r : Receiver) (i : ℕ) (x : Slot) → length r.slots ≤ i
    → r.tallies.gathering ≤ 4294967295 → r.tallies.held ≤ 4294967295
    → with_slot r i x ≡ r
past_last r i x h low high =
    let tallies : moved_tallies r.tallies (slot_at r.slots i) (slot_at r.slots i) ≡ r.tallies =
    ap (λ (s : SlotState). moved_tallies r.tallies s s) (slot_past r.slots i h) ∙ still in
    ap (with_slots r i) (set_out r.slots i x h)
    ∙ (λ j. record { setup = r.setup; slots = r.slots; tallies = tallies j })
  where
    still : moved_tallies r.tallies Free Free ≡ r.tallies
    still =
        let gathering : moved r.tallies.gathering 0 0 ≡ r.tallies.gathering = omega arith in
        let held : moved r.tallies.held 0 0 ≡ r.tallies.held = omega arith in
        λ j. record {
          gathering = gathering j;
          held = held j;
          offered = r.tallies.offered;
          done = r.tallies.done;
        }
