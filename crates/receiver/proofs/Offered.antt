-- The laws of a packet that is offered to the message rules, in any state, with any memory: it is counted, and the
-- decision on it carried out. (Laws.antt has them of the whole call, which frees old slots first.)
-- Assumes nothing.
use mathlib.Core.Path.{◌≡◌, refl, ap, ◌∙◌}
use mathlib.Core.Bool.{Bool, true}
use mathlib.Core.List.{List}
use Prim.Native.Nat.{ℕ, ◌+◌, ◌*◌, ◌≤◌, ◌<◌}
use native.Mathlib.Omega.{arith}
use lib.Dec.{ltb, lit<}
use lib.ListN.{length, get_or}
use Rattle.octets.specs.Choice.{pick}
use Rattle.octets.proofs.Choice.{pick_elim, within_bounds}
use Rattle.octets.proofs.Laid.{laid-length, laid_before, laid_behind}
use Rattle.mctp.specs.Packet.{body_of}
use Rattle.mctp.specs.Key.{key_of}
use Rattle.slots.specs.declared.state.Slot.{Slot}
use Rattle.slots.specs.declared.state.SlotState.{SlotState}
use Rattle.slots.specs.declared.state.SlotState.TheVariants.{Free, Gathering}
use Rattle.slots.specs.declared.state.Receiver.{Receiver}
use Rattle.slots.specs.Slots.{free_slot, slot_at}
use Rattle.slots.specs.State.{right_state}
use Rattle.slots.specs.Changes.{with_slot, with_offered}
use Rattle.slots.proofs.Slots.{slot_other}
use Rattle.slots.proofs.States.{right_of, right_holds, with_right}
use Rattle.slots.proofs.Changes.{free_right, offered_right, done_right}
use Rattle.decision.specs.Rules.{Decision, refuse}
use Rattle.decision.specs.Decision.{decided}
use Rattle.decision.proofs.DecidedRules.{every_decision, frees_none_bounds}
use Rattle.receiver.specs.Effects.{Unchanged, SlotFreed}
use Rattle.receiver.specs.Step.{refused, answer_of, after_put, carried_out, offers, after_offer, offered_to}

-- a packet that is counted leaves set-up and slots, and a right state right
pub offer_setup : (r : Receiver) (d : Decision) → (after_offer r d).setup ≡ r.setup
offer_setup r d = pick_elim (λ (q : Receiver). q.setup ≡ r.setup) (offers d) (with_offered r) r (λ e. refl) (λ e. refl)

pub offer_slots : (r : Receiver) (d : Decision) → (after_offer r d).slots ≡ r.slots
offer_slots r d = pick_elim (λ (q : Receiver). q.slots ≡ r.slots) (offers d) (with_offered r) r (λ e. refl) (λ e. refl)

put_right : (most : ℕ) (then : SlotState) (r : Receiver) → right_state most r ≡ true
    → right_state most (after_put then r) ≡ true
put_right most Free r e = done_right most r e
put_right most (Gathering k q u h) r e = e

-- a right state stays right
pub offered_stays_right : (most time : ℕ) (r : Receiver) (m p : List ℕ) → right_state most r ≡ true
    → right_state most (offered_to most time r m p).receiver ≡ true
unfolding offered_to
offered_stays_right most time r m p e =
    let counted = offered_right most r e in
    every_decision most r (length m) p (λ d. right_state most (carried_out time (after_offer r d) m p d).receiver
    ≡ true)
    (record {
      refuses = λ n b. pick_elim (λ (q : Receiver). right_state most q ≡ true) (ltb 2 n) (with_offered r) r
          (λ c. counted) (λ c. e);
      releases = λ x i n h b k. free_right most (with_offered r) i h counted;
      puts = λ x s i at again then f. put_right most then (with_slot (with_offered r) i _)
          (right_holds most (with_slot (with_offered r) i _)
          (with_right most (with_offered r) (right_of most (with_offered r) counted) i _ f.slot
          f.right f.alone));
    })

-- a body that is put is not refused
pub put_answers : (then : SlotState) (i b : ℕ) (again : Bool) (n : ℕ) → answer_of then i b again ≡ refused n → ⊥
put_answers Free i b again n s =
    let z : ◌≡◌ {A = ℕ} 0 1 = cc in
    omega arith
put_answers (Gathering k q u h) i b again n s =
    let z : ◌≡◌ {A = ℕ} 0 1 = cc in
    omega arith

module _ (most time : ℕ) (r : Receiver) (m p : List ℕ) (n : ℕ) (e : (offered_to most time r m p).said ≡ refused n) where
  -- refused with anything but 20, 21, 22: the memory is unchanged, and so is the receiver, once it has counted
  pub refusal_leaves : (20 ≤ n → n ≤ 22 → ⊥)
      → Unchanged (pick (ltb 2 n) (with_offered r) r) m (offered_to most time r m p).receiver
      (offered_to most time r m p).memory
  unfolding offered_to
  refusal_leaves frees-none =
      every_decision most r (length m) p
      (λ d. (carried_out time (after_offer r d) m p d).said ≡ refused n
      → Unchanged (pick (ltb 2 n) (with_offered r) r) m (carried_out time (after_offer r d) m p d).receiver
      (carried_out time (after_offer r d) m p d).memory)
      (record {
        refuses = λ k b s.
            let same : k ≡ n = cc in
            record { receiver = ap (λ (j : ℕ). pick (ltb 2 j) (with_offered r) r) same; memory = refl };
        releases = λ x i k h b c s.
            let same : k ≡ n = cc in
            absurd (none k same (within_bounds 20 22 k b));
        puts = λ x y i at again then f s. absurd (put_answers then i (at + length (body_of p)) again n s);
      })
      e
    where
      none : (k : ℕ) → k ≡ n → (20 ≤ k) × (k ≤ 22) → ⊥
      none k same b = frees-none (omega (arith, b.0)) (omega (arith, b.1))

  -- refused with 20, 21, 22: the slot that has the packet's key becomes free too, memory unchanged
  pub refusal_freed : 20 ≤ n
      → SlotFreed (key_of p) (with_offered r) m (offered_to most time r m p).receiver
      (offered_to most time r m p).memory
  unfolding offered_to
  refusal_freed twenty =
      every_decision most r (length m) p
      (λ d. (carried_out time (after_offer r d) m p d).said ≡ refused n
      → SlotFreed (key_of p) (with_offered r) m (carried_out time (after_offer r d) m p d).receiver
      (carried_out time (after_offer r d) m p d).memory)
      (record {
        refuses = λ k b s.
            let same : k ≡ n = cc in
            absurd (none k same (frees_none_bounds k b).1);
        releases = λ x i k h b c s. record {
          slot = i;
          one_of_four = h;
          has_the_key = c;
          receiver = refl;
          memory = refl;
        };
        puts = λ x y i at again then f s. absurd (put_answers then i (at + length (body_of p)) again n s);
      })
      e
    where
      none : (k : ℕ) → k ≡ n → k ≤ 19 → ⊥
      none k same high = omega arith

-- from receiver r and memory m to r₂ and m₂: at most one slot changes, and that slot's 1,024 bytes; the packets offered
-- stay
pub record OneSlot (r : Receiver) (m : List ℕ) (r₂ : Receiver) (m₂ : List ℕ) : Type 0 where
  pub slot : ℕ
  pub one_of_four : slot < 4
  pub setup : r₂.setup ≡ r.setup
  pub others : (j : ℕ) → (j ≡ slot → ⊥) → slot_at r₂.slots j ≡ slot_at r.slots j
  pub offered : r₂.tallies.offered ≡ r.tallies.offered
  pub size : length m₂ ≡ length m
  pub bytes_before : (k : ℕ) → k < 1024 * slot → get_or m₂ k 0 ≡ get_or m k 0
  pub bytes_behind : (k : ℕ) → 1024 * slot + 1024 ≤ k → get_or m₂ k 0 ≡ get_or m k 0

-- nothing changes
pub no_slot : (r : Receiver) (m : List ℕ) → OneSlot r m r m
no_slot r m =
    record {
      slot = 0;
      one_of_four = lit< tt;
      setup = refl;
      others = λ j d. refl;
      offered = refl;
      size = refl;
      bytes_before = λ k h. refl;
      bytes_behind = λ k h. refl;
    }

-- one slot becomes free
pub freed_slot : (r : Receiver) (m : List ℕ) (i : ℕ) → i < 4 → OneSlot r m (with_slot r i free_slot) m
freed_slot r m i h =
    record {
      slot = i;
      one_of_four = h;
      setup = refl;
      others = λ j d. slot_other r.slots i j free_slot d;
      offered = refl;
      size = refl;
      bytes_before = λ k g. refl;
      bytes_behind = λ k g. refl;
    }

-- a message that is done is counted, and nothing else
pub put_fields : (then : SlotState) (r : Receiver)
    → ((after_put then r).setup ≡ r.setup) × ((after_put then r).slots ≡ r.slots)
    × ((after_put then r).tallies.offered ≡ r.tallies.offered)
put_fields Free r = (refl, refl, refl)
put_fields (Gathering k q u h) r = (refl, refl, refl)

-- a packet that has been counted changes at most one slot and that slot's 1,024 bytes
pub offered_one_slot : (most time : ℕ) (r : Receiver) (m p : List ℕ)
    → OneSlot (after_offer r (decided most r (length m) p)) m (offered_to most time r m p).receiver
    (offered_to most time r m p).memory
unfolding offered_to
offered_one_slot most time r m p =
    every_decision most r (length m) p
    (λ d. OneSlot (after_offer r d) m (carried_out time (after_offer r d) m p d).receiver
    (carried_out time (after_offer r d) m p d).memory)
    (record {
      refuses = λ n b. no_slot (after_offer r (refuse n)) m;
      releases = λ x i n h b c. freed_slot (with_offered r) m i h;
      puts = λ x y i at again then f.
          let same = put_fields then (with_slot (with_offered r) i _) in
          record {
            slot = i;
            one_of_four = f.slot;
            setup = same.0;
            others = λ j d.
                ap (λ (l : List Slot). slot_at l j) same.1 ∙ slot_other r.slots i j _ d;
            offered = same.2;
            size = laid-length m (1024 * i + at) (body_of p);
            bytes_before = λ k b. laid_before m (1024 * i + at) (body_of p) k (omega arith);
            bytes_behind = λ k b. laid_behind m (1024 * i + at) (body_of p) k (omega (arith, f.place));
          };
    })
