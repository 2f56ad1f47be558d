-- Slots found: the first that passes a test passes it, none below does, and the slot of a key is the one that has it.
-- Assumes nothing.
use Rattle.std.proofs.Common.{◌≡◌, ℕ, zero, suc, ◌+◌, ◌<◌, ◌≤◌, Bool, true, false, List, sym, refl, ap, ◌∙◌}
use Rattle.std.proofs.Common.{true≢false, arith, [], ◌∷◌, length, position}
use Rattle.octets.specs.Choice.{pick}
use mathlib.Core.Bool.{false≢true}
use mathlib.Core.Logic.{dite, by_cases}
use native.Mathlib.Decide.{dec_lt, ℕ_discrete}
use Rattle.mctp.specs.declared.packet.Key.{Key}
use Rattle.mctp.proofs.Keys.{same_key_refl, same_key_true}
use Rattle.slots.specs.declared.state.Slot.{Slot}
use Rattle.slots.specs.declared.state.SlotState.{SlotState}
use Rattle.slots.specs.declared.state.SlotState.TheVariants.{Free, Gathering}
use Rattle.slots.specs.declared.state.Receiver.{Receiver}
use Rattle.slots.specs.Slots.{slot_at, is_free, has_key, first_of, slot_of, lowest_free, found_slot}
use Rattle.slots.specs.State.{clash}
use Rattle.slots.proofs.States.{Right}

module _ (f : SlotState → Bool) (l : List Slot) where
  -- one step of the search
  first_here : (i n : ℕ) → f (slot_at l i) ≡ true → first_of f l i (suc n) ≡ i
  unfolding first_of
  first_here i n e = rw e

  first_on : (i n : ℕ) → f (slot_at l i) ≡ false → first_of f l i (suc n) ≡ first_of f l (suc i) n
  unfolding first_of
  first_on i n e = rw e

  first_end : (i : ℕ) → first_of f l i zero ≡ i
  unfolding first_of
  first_end i = refl

  -- it stops within the slots looked through, at one that passes, and passes over none that does
  pub record First (i n k : ℕ) : Type 0 where
    pub low : i ≤ k
    pub high : k ≤ i + n
    pub passes : k < i + n → f (slot_at l k) ≡ true
    pub none : (j : ℕ) → i ≤ j → j < k → f (slot_at l j) ≡ false

  step : (i n : ℕ) (b : Bool) → f (slot_at l i) ≡ b → First (suc i) n (first_of f l (suc i) n)
      → First i (suc n) (first_of f l i (suc n))
  step i n true e r =
      rw (first_here i n e)
      (record {
        low = omega arith;
        high = omega arith;
        passes = λ h. e;
        none = λ j a b. absurd (below i j a b);
      })
    where
      below : (i j : ℕ) → i ≤ j → j < i → ⊥
      below i j a b = omega arith
  step i n false e r =
      rw (first_on i n e)
      (record {
        low = omega (arith, r.low);
        high = omega (arith, r.high);
        passes = λ h. r.passes (omega arith);
        none =
            λ j a b. dite (ℕ_discrete i j) (λ (s : i ≡ j). ap (λ (k : ℕ). f (slot_at l k)) (sym s) ∙ e)
            (λ (n : i ≡ j → ⊥). r.none j (omega arith) b);
      })

  pub first : (i n : ℕ) → First i n (first_of f l i n)
  first i zero =
      rw (first_end i)
      (record {
        low = omega arith;
        high = omega arith;
        passes = λ h. absurd (past i h);
        none = λ j a b. absurd (before i j a b);
      })
    where
      past : (i : ℕ) → i < i + 0 → ⊥
      past i h = omega arith

      before : (i j : ℕ) → i ≤ j → j < i → ⊥
      before i j a b = omega arith
  first i (suc n) = step i n (f (slot_at l i)) refl (first (suc i) n)

-- what std's `position` gives over four slots
pub position_found : (f : SlotState → Bool) (l : List Slot) → length l ≡ 4
    → position (λ (x : Slot). f x.state) l ≡ found_slot (first_of f l 0 4)
unfolding first_of
position_found f (a ∷ b ∷ c ∷ d ∷ []) h = by_tests (f a.state) (f b.state) (f c.state) (f d.state)
  where
    by_tests : (p q r s : Bool)
        → position (λ (b : Bool). b) (p ∷ q ∷ r ∷ s ∷ []) ≡ found_slot (pick p 0 (pick q 1 (pick r 2 (pick s 3 4))))
    by_tests true q r s = refl
    by_tests false true r s = refl
    by_tests false false true s = refl
    by_tests false false false true = refl
    by_tests false false false false = refl
position_found f l h = absurd (omega arith)

-- a slot that has a key gathers for it
pub holder : (k : Key) (s : SlotState) → has_key k s ≡ true → (q : ℕ) × (u : ℕ) × (h : ℕ) × (s ≡ Gathering k q u h)
holder k Free e = absurd (false≢true e)
holder k (Gathering j q u h) e = (q, u, h, ap (λ (i : Key). Gathering i q u h) (same_key_true j k e))

-- a slot that gathers for a key has it
pub holds_key : (k : Key) (q u h : ℕ) (s : SlotState) → s ≡ Gathering k q u h → has_key k s ≡ true
holds_key k q u h s e = ap (has_key k) e ∙ same_key_refl k

pub free_slot_lem : (s : SlotState) → is_free s ≡ true → s ≡ Free
free_slot_lem Free e = refl
free_slot_lem (Gathering k q u h) e = absurd (false≢true e)

-- a slot that gathers clashes with each that has its key
pub clash_key : (k : Key) (s t : SlotState) → has_key k s ≡ true → clash s t ≡ has_key k t
unfolding clash
clash_key k Free t e = absurd (false≢true e)
clash_key k (Gathering j q u h) t e = ap (λ (i : Key). has_key i t) (same_key_true j k e)

module _ (l : List Slot) (k : Key) where
  pub slot_of_lem : First (has_key k) l 0 4 (slot_of l k)
  unfolding slot_of
  slot_of_lem = first (has_key k) l 0 4

  pub slot_of_has : slot_of l k < 4 → has_key k (slot_at l (slot_of l k)) ≡ true
  slot_of_has h = slot_of_lem.passes (omega arith)

  -- where no slot has the key
  pub slot_of_none : (4 ≤ slot_of l k) → (j : ℕ) → j < 4 → has_key k (slot_at l j) ≡ false
  slot_of_none h j hj = slot_of_lem.none j (omega arith) (omega arith)

module _ (l : List Slot) where
  lowest : First is_free l 0 4 (lowest_free l 0 4)
  unfolding lowest_free
  lowest = first is_free l 0 4

  pub lowest_is_free : lowest_free l 0 4 < 4 → slot_at l (lowest_free l 0 4) ≡ Free
  lowest_is_free h = free_slot_lem _ (lowest.passes (omega arith))

  -- "the lowest": none below it is free
  pub lowest_is_lowest : (j : ℕ) → j < lowest_free l 0 4 → is_free (slot_at l j) ≡ false
  lowest_is_lowest j h = lowest.none j (omega arith) h

  -- where some slot is free, the lowest is found
  pub lowest_found : (j : ℕ) → j < 4 → slot_at l j ≡ Free → lowest_free l 0 4 ≤ j
  lowest_found j h e =
      by_cases (dec_lt j (lowest_free l 0 4))
      (λ (b : j < lowest_free l 0 4). absurd (true≢false (sym (ap is_free e) ∙ lowest_is_lowest j b)))
      (λ (n : j < lowest_free l 0 4 → ⊥). omega arith)

-- in a right state
module _ (most : ℕ) (r : Receiver) (R : Right most r) (k : Key) where
  -- no two slots have one key
  pub key_alone : (i j : ℕ) → i < 4 → j < 4 → (i ≡ j → ⊥) → has_key k (slot_at r.slots i) ≡ true
      → has_key k (slot_at r.slots j) ≡ false
  key_alone i j hi hj n e = sym (clash_key k (slot_at r.slots i) (slot_at r.slots j) e) ∙ R.apart i j hi hj n

  -- the slot that has a key is its slot
  pub slot_of_is : (i : ℕ) → i < 4 → has_key k (slot_at r.slots i) ≡ true → slot_of r.slots k ≡ i
  slot_of_is i hi e =
      by_cases (dec_lt i (slot_of r.slots k))
      (λ (b : i < slot_of r.slots k). absurd (true≢false (sym e ∙ (slot_of_lem r.slots k).none i (omega arith) b)))
      (λ (n : i < slot_of r.slots k → ⊥).
      dite (ℕ_discrete (slot_of r.slots k) i)
      (λ (s : slot_of r.slots k ≡ i). s)
      (λ (m : slot_of r.slots k ≡ i → ⊥).
      let low : slot_of r.slots k < 4 = omega arith in
      absurd (true≢false (sym e ∙ key_alone (slot_of r.slots k) i low hi m (slot_of_has r.slots k low)))))
