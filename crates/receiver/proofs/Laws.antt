-- The laws of one packet given to the message rules, in any state, with any memory, at any count.
-- Assumes nothing.
use mathlib.Core.Path.{◌≡◌, refl, ap, sym, subst, ◌∙◌}
use mathlib.Core.Bool.{Bool, true, false, ◌&&◌}
use mathlib.Core.List.{List}
use Prim.Native.Nat.{ℕ, ◌+◌, ◌≤◌}
use native.Mathlib.Omega.{arith}
use contract.Lifetimes.{Lfts}
use borrow.Author.Tests.{le-ltb, lt-ltb, eq-eqb}
use lib.Dec.{eqb, ltb, lit≤}
use lib.ListN.{length}
use Rattle.octets.specs.Choice.{pick}
use Rattle.octets.proofs.Choice.{pick_elim, either_way, both}
use Rattle.mctp.specs.Packet.{body_of}
use Rattle.mctp.specs.Key.{key_of, header_of}
use Rattle.slots.specs.declared.state.Receiver.{Receiver}
use Rattle.slots.specs.State.{right_state}
use Rattle.slots.specs.Changes.{with_offered}
use Rattle.slots.specs.Ages.{expired}
use Rattle.slots.proofs.Ages.{expired_setup, expired_counts, expired_right}
use Rattle.decision.specs.Rules.{refuse, planned, after}
use Rattle.decision.specs.Decision.{aged_of, decided}
use Rattle.decision.proofs.Passed.{aged_expired, every_passed, not_passed}
use Rattle.decision.proofs.decide.Reads as decide
use Rattle.receiver.specs.Effects.{Unchanged, SlotFreed}
use Rattle.receiver.specs.Step.{refused, carried_out, after_offer, offered_to, step_of}
use Rattle.receiver.proofs.Offered.{offer_setup, offer_slots, offered_stays_right, refusal_leaves, refusal_freed}
use Rattle.receiver.proofs.Offered.{put_answers, OneSlot, offered_one_slot}

-- giving a packet is the decision carried out, on the receiver that has freed its old slots and counted the packet
pub step_is_decision : (most time : ℕ) (r : Receiver) (m p : List ℕ)
    → let q = aged_of most time r (length m) in
    step_of most time r m p
    ≡ carried_out time (after_offer q (decided most q (length m) p)) m p (decided most q (length m) p)
unfolding step_of offered_to
step_is_decision most time r m p = refl

-- and so it is with any result that the contract of `decide` allows
pub step_is_plan : (κs : Lfts 1) (a d e : _) → decide.Post κs a d e → (m : List ℕ) → length m ≡ a.1.0
    → let p = a.1.1.0.now in
    let time = a.1.1.1.0 in
    step_of 64 time a.0 m p ≡ carried_out time (after_offer d.receiver (planned d.plan)) m p (planned d.plan)
step_is_plan κs a d e post m n =
    let p = a.1.1.0.now in
    let time = a.1.1.1.0 in
    let aged = ap (aged_of 64 time a.0) n ∙ sym post.0 in
    let plan = ap (λ (k : ℕ). decided 64 (aged_of 64 time a.0 k) k p) n ∙ sym post.1 in
    step_is_decision 64 time a.0 m p ∙ (λ j. carried_out time (after_offer (aged j) (plan j)) m p (plan j))

module _ (most time : ℕ) (r : Receiver) (size : ℕ) where
  -- old slots freed or not: the set-up stays, and a right state stays right
  pub aged_setup : (aged_of most time r size).setup ≡ r.setup
  aged_setup =
      pick_elim (λ (q : Receiver). q.setup ≡ r.setup) (right_state most r && eqb size 4096) (expired time r) r
      (λ e. expired_setup time r 4 (lit≤ tt)) (λ e. refl)

  pub aged_right : right_state most r ≡ true → right_state most (aged_of most time r size) ≡ true
  aged_right right =
      pick_elim (λ (q : Receiver). right_state most q ≡ true) (right_state most r && eqb size 4096) (expired time r) r
      (λ e. expired_right time r most right) (λ e. right)

  -- nothing is counted yet
  pub aged_counts : ((aged_of most time r size).tallies.offered ≡ r.tallies.offered)
      × ((aged_of most time r size).tallies.done ≡ r.tallies.done)
  aged_counts =
      pick_elim
      (λ (q : Receiver). (q.tallies.offered ≡ r.tallies.offered) × (q.tallies.done ≡ r.tallies.done))
      (right_state most r && eqb size 4096) (expired time r) r (λ e. expired_counts time r) (λ e. (refl, refl))

-- a wrong state: 1, and nothing changes
pub wrong_refused : (most time : ℕ) (r : Receiver) (m p : List ℕ) → right_state most r ≡ false
    → step_of most time r m p ≡ record { said = refused 1; receiver = r; memory = m }
unfolding step_of offered_to decided
wrong_refused most time r m p e =
    let same : aged_of most time r (length m) ≡ r =
    ap (λ (b : Bool). pick (b && eqb (length m) 4096) (expired time r) r) e in
    ap (λ (q : Receiver). offered_to most time q m p) same ∙ rw e

-- past 1 and 2 a packet is offered to the receiver that has freed its old slots
pub step_is_offered : (most time : ℕ) (r : Receiver) (m p : List ℕ) → right_state most r ≡ true → length m ≡ 4096
    → step_of most time r m p ≡ offered_to most time (expired time r) m p
unfolding step_of
step_is_offered most time r m p right size =
    ap (λ (q : Receiver). offered_to most time q m p)
    (aged_expired most time r (length m) p right (eq-eqb (length m) 4096 size))

-- a right state stays right
pub step_right : (most time : ℕ) (r : Receiver) (m p : List ℕ) → right_state most r ≡ true
    → right_state most (step_of most time r m p).receiver ≡ true
unfolding step_of
step_right most time r m p e =
    offered_stays_right most time (aged_of most time r (length m)) m p (aged_right most time r (length m) e)

-- a packet that has been counted changes at most one slot and that slot's 1,024 bytes
pub one_slot : (most time : ℕ) (r : Receiver) (m p : List ℕ)
    → let q = aged_of most time r (length m) in
    OneSlot (after_offer q (decided most q (length m) p)) m (step_of most time r m p).receiver
    (step_of most time r m p).memory
unfolding step_of
one_slot most time r m p = offered_one_slot most time (aged_of most time r (length m)) m p

-- set-up and the memory's size stay
pub step_setup : (most time : ℕ) (r : Receiver) (m p : List ℕ) → (step_of most time r m p).receiver.setup ≡ r.setup
step_setup most time r m p =
    let q = aged_of most time r (length m) in
    (one_slot most time r m p).setup ∙ offer_setup q (decided most q (length m) p) ∙ aged_setup most time r (length m)

pub step_size : (most time : ℕ) (r : Receiver) (m p : List ℕ) → length (step_of most time r m p).memory ≡ length m
step_size most time r m p = (one_slot most time r m p).size

module _ (most time : ℕ) (r : Receiver) (m p : List ℕ) (n : ℕ) (e : (step_of most time r m p).said ≡ refused n) where
  abbrev passes : Bool
  passes = right_state most r && eqb (length m) 4096

  -- a call that passes 1 and 2 is refused with neither, and one that doesn't with one of them
  past_2 : passes ≡ true → 3 ≤ n
  unfolding step_of offered_to
  past_2 t =
      let h = both (right_state most r) (eqb (length m) 4096) t in
      let q = aged_of most time r (length m) in
      let body = length (body_of p) in
      every_passed most time r (length m) p h.0 h.1
      (λ d. (carried_out time (after_offer q d) m p d).said ≡ refused n → 3 ≤ n)
      (record {
        refuses = λ k b s. let same : k ≡ n = cc in omega arith;
        releases = λ i k b s. let same : k ≡ n = cc in omega arith;
        starts = λ x i again s. absurd (put_answers (after (header_of p) body body) i (0 + body) again n s);
        follows = λ i q u held k x s.
            absurd (put_answers (after (header_of p) u (held + body)) i (held + body) false n s);
      })
      e

  not_past_2 : passes ≡ false → n ≤ 2
  unfolding step_of offered_to
  not_past_2 t =
      let q = aged_of most time r (length m) in
      not_passed most time r (length m) p t
      (λ d. (carried_out time (after_offer q d) m p d).said ≡ refused n → n ≤ 2)
      (λ s. let same : ◌≡◌ {A = ℕ} 1 n = cc in omega arith)
      (λ s. let same : ◌≡◌ {A = ℕ} 2 n = cc in omega arith)
      e

  none_aged : n ≤ 2 → aged_of most time r (length m) ≡ r
  none_aged low =
      either_way passes (λ t. absurd (omega (arith, past_2 t))) (λ t. ap (λ (b : Bool). pick b (expired time r) r) t)

  all_aged : 3 ≤ n → aged_of most time r (length m) ≡ expired time r
  all_aged high =
      either_way passes (λ t. ap (λ (b : Bool). pick b (expired time r) r) t)
      (λ t. absurd (omega (arith, not_past_2 t)))

  -- refused with anything but 20, 21, 22: the memory is unchanged, and so is the receiver, once it has aged and counted
  leaves : (20 ≤ n → n ≤ 22 → ⊥)
      → let q = aged_of most time r (length m) in
      Unchanged (pick (ltb 2 n) (with_offered q) q) m (step_of most time r m p).receiver
      (step_of most time r m p).memory
  unfolding step_of
  leaves = refusal_leaves most time (aged_of most time r (length m)) m p n e

  -- but for old slots the slots stay, and the memory
  pub refused_keeps : n ≤ 19
      → ((step_of most time r m p).receiver.slots ≡ (aged_of most time r (length m)).slots)
      × ((step_of most time r m p).memory ≡ m)
  refused_keeps high =
      let same = leaves (λ low up. omega arith) in (
        ap (λ (q : Receiver). q.slots) same.receiver ∙ offer_slots (aged_of most time r (length m)) (refuse n),
        same.memory,
      )

  -- "1 and 2 count nothing", and free nothing: all unchanged
  pub refused_uncounted : n ≤ 2 → Unchanged r m (step_of most time r m p).receiver (step_of most time r m p).memory
  refused_uncounted low = rw (le-ltb 2 n low, none_aged low) at (leaves (λ twenty up. omega arith))

  -- "A packet refused with 3 or 15 to 22 counts as offered, and that tally is then the one further change to the
  -- receiver": with 3 and 15 to 19, the one change but that "packet refusals may also leave expired slots free"
  pub refused_counted : 3 ≤ n → (n ≡ 20 → ⊥) → (n ≡ 21 → ⊥) → (n ≡ 22 → ⊥)
      → Unchanged (with_offered (expired time r)) m (step_of most time r m p).receiver (step_of most time r m p).memory
  refused_counted low n20 n21 n22 = rw (lt-ltb 2 n low, all_aged low) at (leaves (λ twenty up. omega arith))

  -- refused with 20, 21, 22: the slot that has the packet's key becomes free too, memory unchanged
  pub refused_freed : 20 ≤ n
      → SlotFreed (key_of p) (with_offered (expired time r)) m (step_of most time r m p).receiver
      (step_of most time r m p).memory
  unfolding step_of
  refused_freed twenty =
      subst
      (λ (q : Receiver). SlotFreed (key_of p) (with_offered q) m (step_of most time r m p).receiver
      (step_of most time r m p).memory)
      (all_aged (omega arith)) (refusal_freed most time (aged_of most time r (length m)) m p n e twenty)
