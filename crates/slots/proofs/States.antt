-- A right state taken apart into facts, one for each slot and each pair, and put together from them.
-- Assumes nothing.
use Rattle.std.proofs.Common.{◌≡◌, ℕ, ◌+◌, ◌<◌, ◌≤◌, Bool, true, false, not, length, sym, refl, ap, ◌∙◌, subst, arith}
use Rattle.std.proofs.Common.{lit<, lit≤, length-set, eq-eqb, eqb-true}
use mathlib.Core.Logic.{dite, by_cases}
use native.Mathlib.Decide.{dec_lt, ℕ_discrete}
use borrow.Author.Tests.{not-true}
use Rattle.octets.proofs.Choice.{both, within_bounds}
use Rattle.mctp.specs.declared.packet.Key.{Key}
use Rattle.mctp.specs.Key.{same_key}
use Rattle.mctp.specs.Packet.{body_right}
use Rattle.mctp.proofs.Keys.{same_key_refl, same_key_true}
use Rattle.slots.specs.declared.state.Slot.{Slot}
use Rattle.slots.specs.declared.state.SlotState.{SlotState}
use Rattle.slots.specs.declared.state.SlotState.TheVariants.{Free, Gathering}
use Rattle.slots.specs.declared.state.Receiver.{Receiver}
use Rattle.slots.specs.Setup.{right_setup}
use Rattle.slots.specs.Slots.{slot_at}
use Rattle.slots.specs.Tallies.{one_gathering, bytes_held, gathering_in, held_in}
use Rattle.slots.specs.State.{right_slot, clash, right_state}
use Rattle.slots.specs.Changes.{with_slot}
use Rattle.slots.proofs.Slots.{four_cases, slot_same, slot_other}
use Rattle.slots.proofs.Numbers.{slot_holds}
use Rattle.slots.proofs.TalliesKept.{one_at_most, sum_at_most, sum_moves, moved_true, past_last}

-- the list: the set-up, four slots, each slot, each pair, the tallies that the slots tell
pub record Right (most : ℕ) (r : Receiver) : Type 0 where
  pub most_right : body_right most ≡ true
  pub setup : right_setup r.setup ≡ true
  pub four : length r.slots ≡ 4
  pub each : (i : ℕ) → i < 4 → right_slot most r.setup (slot_at r.slots i) ≡ true
  pub apart : (i j : ℕ) → i < 4 → j < 4 → (i ≡ j → ⊥) → clash (slot_at r.slots i) (slot_at r.slots j) ≡ false
  pub gathering : r.tallies.gathering ≡ gathering_in r.slots
  pub held : r.tallies.held ≡ held_in r.slots

same_key_sym : (j k : Key) → same_key j k ≡ same_key k j
same_key_sym j k =
    by_true (same_key j k) (same_key k j)
    (λ e. ap (λ (i : Key). same_key i j) (sym (same_key_true j k e)) ∙ same_key_refl j)
    (λ e. ap (λ (i : Key). same_key i k) (sym (same_key_true k j e)) ∙ same_key_refl k)
  where
    by_true : (a b : Bool) → (a ≡ true → b ≡ true) → (b ≡ true → a ≡ true) → a ≡ b
    by_true true b f g = sym (f refl)
    by_true false true f g = g refl
    by_true false false f g = refl

pub clash_sym : (a b : SlotState) → clash a b ≡ clash b a
unfolding clash
clash_sym Free Free = refl
clash_sym Free (Gathering k q u h) = refl
clash_sym (Gathering k q u h) Free = refl
clash_sym (Gathering k q u h) (Gathering k₂ q₂ u₂ h₂) = same_key_sym k₂ k

pub right_of : (most : ℕ) (r : Receiver) → right_state most r ≡ true → Right most r
unfolding right_state
right_of most r e =
    let l = r.slots in
    let a = both _ _ e in
    let told = both _ _ a.0 in
    let tallies = both _ _ told.1 in
    let b = both _ _ told.0 in
    let c = both _ _ b.0 in
    let d = both _ _ c.0 in
    let third = both _ _ c.1 in
    let second = both _ _ third.0 in
    let first = both _ _ second.0 in
    let cd = both _ _ b.1 in
    let bd = both _ _ cd.0 in
    let bc = both _ _ bd.0 in
    let ad = both _ _ bc.0 in
    let ab = both _ _ ad.0 in
    let turned : (i j : ℕ) → not (clash (slot_at l i) (slot_at l j)) ≡ true
    → clash (slot_at l j) (slot_at l i) ≡ false = λ i j t. clash_sym _ _ ∙ not-true _ t in
    record {
      most_right = d.0;
      setup = d.1;
      four = eqb-true _ _ a.1;
      each =
          four_cases (λ i. right_slot most r.setup (slot_at l i) ≡ true) first.0 first.1 second.1 third.1;
      apart =
          λ i j hi hj. four_cases (λ (i : ℕ). (j : ℕ) → j < 4 → (i ≡ j → ⊥) → clash (slot_at l i) (slot_at l j) ≡ false)
          (four_cases (λ (j : ℕ). (0 ≡ j → ⊥) → clash (slot_at l 0) (slot_at l j) ≡ false) (λ n. absurd (n refl))
          (λ n. not-true _ ab.0) (λ n. not-true _ ab.1) (λ n. not-true _ ad.1))
          (four_cases (λ (j : ℕ). (1 ≡ j → ⊥) → clash (slot_at l 1) (slot_at l j) ≡ false) (λ n. turned 0 1 ab.0)
          (λ n. absurd (n refl)) (λ n. not-true _ bc.1) (λ n. not-true _ bd.1))
          (four_cases (λ (j : ℕ). (2 ≡ j → ⊥) → clash (slot_at l 2) (slot_at l j) ≡ false) (λ n. turned 0 2 ab.1)
          (λ n. turned 1 2 bc.1) (λ n. absurd (n refl)) (λ n. not-true _ cd.1))
          (four_cases (λ (j : ℕ). (3 ≡ j → ⊥) → clash (slot_at l 3) (slot_at l j) ≡ false) (λ n. turned 0 3 ad.1)
          (λ n. turned 1 3 bd.1) (λ n. turned 2 3 cd.1) (λ n. absurd (n refl)))
          i hi j hj;
      gathering = eqb-true _ _ tallies.0;
      held = eqb-true _ _ tallies.1;
    }

pub right_holds : (most : ℕ) (r : Receiver) → Right most r → right_state most r ≡ true
unfolding right_state
right_holds most r R =
    let free : (i j : ℕ) → i < 4 → j < 4 → i < j
    → clash (slot_at r.slots i) (slot_at r.slots j) ≡ false =
    λ i j hi hj h. R.apart i j hi hj (λ e. omega arith) in
    rw (
      R.most_right,
      R.setup,
      R.each 0 (lit< tt),
      R.each 1 (lit< tt),
      R.each 2 (lit< tt),
      R.each 3 (lit< tt),
      free 0 1 (lit< tt) (lit< tt) (lit< tt),
      free 0 2 (lit< tt) (lit< tt) (lit< tt),
      free 0 3 (lit< tt) (lit< tt) (lit< tt),
      free 1 2 (lit< tt) (lit< tt) (lit< tt),
      free 1 3 (lit< tt) (lit< tt) (lit< tt),
      free 2 3 (lit< tt) (lit< tt) (lit< tt),
      eq-eqb _ _ R.gathering,
      eq-eqb _ _ R.held,
      eq-eqb _ _ R.four,
    )

-- the largest body of a right state
pub most_bounds : (most : ℕ) (r : Receiver) → right_state most r ≡ true → (64 ≤ most) × (most ≤ 246)
most_bounds most r e = within_bounds 64 246 most (right_of most r e).most_right

-- a right state stays right where one slot gets a right state whose key no other slot has
module _ (most : ℕ) (r : Receiver) (R : Right most r) (i : ℕ) (x : Slot) (h : i < 4)
    (right : right_slot most r.setup x.state ≡ true)
    (alone : (j : ℕ) → j < 4 → (i ≡ j → ⊥) → clash x.state (slot_at r.slots j) ≡ false) where
  in_range : i < length r.slots
  in_range = omega (arith, R.four)

  at_same : (j : ℕ) → i ≡ j → slot_at (with_slot r i x).slots j ≡ x.state
  at_same j e = ap (λ (k : ℕ). slot_at (with_slot r i x).slots k) (sym e) ∙ slot_same r.slots i x in_range

  at_other : (j : ℕ) → (i ≡ j → ⊥) → slot_at (with_slot r i x).slots j ≡ slot_at r.slots j
  at_other j n = slot_other r.slots i j x (λ e. n (sym e))

  each : (j : ℕ) → j < 4 → right_slot most r.setup (slot_at (with_slot r i x).slots j) ≡ true
  each j hj = dite (ℕ_discrete i j) (λ e. rw (at_same j e) right) (λ n. rw (at_other j n) (R.each j hj))

  pub with_right : Right most (with_slot r i x)
  with_right =
      record {
        most_right = R.most_right;
        setup = R.setup;
        four = length-set r.slots i x ∙ R.four;
        each = each;
        apart = λ j k hj hk n.
            dite (ℕ_discrete i j)
            (λ ej. rw (at_same j ej, at_other k (λ ek. n (sym ej ∙ ek))) (alone k hk (λ ek. n (sym ej ∙ ek))))
            (λ nj.
            dite (ℕ_discrete i k)
            (λ ek. rw (at_other j nj, at_same k ek) (clash_sym (slot_at r.slots j) x.state ∙ alone j hj nj))
            (λ nk. rw (at_other j nj, at_other k nk) (R.apart j k hj hk n)));
        gathering = moved_true one_gathering refl 1 (lit≤ tt) r.slots i x R.four h r.tallies.gathering
            R.gathering (λ j hj. one_at_most (slot_at (with_slot r i x).slots j));
        held = moved_true bytes_held refl 1024 (lit≤ tt) r.slots i x R.four h r.tallies.held R.held
            (λ j hj. slot_holds most r.setup (slot_at (with_slot r i x).slots j) (each j hj));
      }

-- from one right state to another in which one slot differs, each tally that the slots tell moves by the difference
pub tallies_move : (most : ℕ) (r : Receiver) (i : ℕ) (x : Slot) → Right most r → Right most (with_slot r i x)
    → i < 4
    → ((with_slot r i x).tallies.gathering + one_gathering (slot_at r.slots i)
    ≡ r.tallies.gathering + one_gathering x.state)
    × ((with_slot r i x).tallies.held + bytes_held (slot_at r.slots i) ≡ r.tallies.held + bytes_held x.state)
tallies_move most r i x before after h =
    let there : i < length r.slots = omega (arith, before.four) in (
      omega (
        arith,
        before.gathering,
        after.gathering,
        sum_moves one_gathering r.slots x i there h,
      ),
      omega (
        arith,
        before.held,
        after.held,
        sum_moves bytes_held r.slots x i there h,
      ),
    )

-- a slot of a right state set to anything that a slot can store, or one that isn't there: the tallies stay true
pub told_stays : (most : ℕ) (r : Receiver) (i : ℕ) (x : Slot) → Right most r → bytes_held x.state ≤ 65535
    → ((with_slot r i x).tallies.gathering ≡ gathering_in (with_slot r i x).slots)
    × ((with_slot r i x).tallies.held ≡ held_in (with_slot r i x).slots)
told_stays most r i x R fits =
    by_cases (dec_lt i 4)
    (λ (h : i < 4). (
      moved_true one_gathering refl 1 (lit≤ tt) r.slots i x R.four h r.tallies.gathering R.gathering
          (λ j hj. one_at_most (slot_at (with_slot r i x).slots j)),
      moved_true bytes_held refl 65535 (lit≤ tt) r.slots i x R.four h r.tallies.held R.held (slot_fits h),
    ))
    (λ (n : i < 4 → ⊥).
    let past = past_last r i x (omega (arith, R.four))
    (omega (arith, R.gathering, sum_at_most one_gathering 1 r.slots (λ j hj. one_at_most (slot_at r.slots j))))
    (omega (arith, R.held, sum_at_most bytes_held 1024 r.slots holds)) in
    subst
    (λ (q : Receiver). (q.tallies.gathering ≡ gathering_in q.slots) × (q.tallies.held ≡ held_in q.slots))
    (sym past) (R.gathering, R.held))
  where
    holds : (j : ℕ) → j < 4 → bytes_held (slot_at r.slots j) ≤ 1024
    holds j hj = slot_holds most r.setup (slot_at r.slots j) (R.each j hj)

    slot_fits : i < 4 → (j : ℕ) → j < 4 → bytes_held (slot_at (with_slot r i x).slots j) ≤ 65535
    slot_fits h j hj =
        dite (ℕ_discrete j i)
        (λ (e : j ≡ i).
        let same = ap (λ (k : ℕ). bytes_held (slot_at (with_slot r i x).slots k)) e
        ∙ ap bytes_held (slot_same r.slots i x (omega (arith, R.four))) in
        omega (arith, same))
        (λ (d : j ≡ i → ⊥). omega (arith, ap bytes_held (slot_other r.slots i j x d), holds j hj))
