-- The tallies through a run: each packet counts by its answer, and what is stored is what the list of calls gives.
-- Assumes nothing.
use mathlib.Core.Path.{◌≡◌, refl, ap, sym, ◌∙◌}
use mathlib.Core.Bool.{Bool, true, false, ◌&&◌, ◌||◌, or-true}
use mathlib.Core.List.{List, [], ◌∷◌}
use mathlib.Core.Logic.{dite}
use Prim.Native.Nat.{ℕ, ◌+◌, ◌≤◌}
use native.Mathlib.Nat.{zero-add}
use native.Mathlib.Decide.{ℕ_discrete}
use native.Mathlib.Omega.{arith}
use borrow.Author.Tests.{eq-eqb, ne_eqb, lt-ltb, le-ltb}
use lib.Dec.{eqb, ltb, lit≤}
use lib.ListN.{length}
use Rattle.octets.specs.Choice.{pick, within}
use Rattle.octets.proofs.Choice.{pick_elim, either_way, within_bounds, within_holds, within_below}
use Rattle.mctp.specs.Packet.{body_right, body_of}
use Rattle.slots.specs.declared.state.Setup.{Setup}
use Rattle.slots.specs.declared.state.SlotState.{SlotState}
use Rattle.slots.specs.declared.state.SlotState.TheVariants.{Free, Gathering}
use Rattle.slots.specs.declared.state.Receiver.{Receiver}
use Rattle.slots.specs.Slots.{free_slot}
use Rattle.slots.specs.State.{right_state}
use Rattle.slots.specs.Tallies.{stopped, next_tally}
use Rattle.slots.specs.Changes.{with_slot, with_offered, set_up_of, freed_of}
use Rattle.slots.proofs.States.{right_of}
use Rattle.slots.proofs.Changes.{set_up_right_lem}
use Rattle.decision.specs.Decision.{aged_of}
use Rattle.decision.proofs.DecidedRules.{frees_none, every_decision}
use Rattle.receiver.specs.Step.{Said, refused, answer_of, after_put, slot_in, carried_out, after_offer, offered_to}
use Rattle.receiver.specs.Step.{step_of}
use Rattle.receiver.proofs.Offered.{put_fields}
use Rattle.receiver.proofs.Laws.{aged_counts}
use Rattle.messages.specs.Run.{Call, give, free, called, run}
use Rattle.messages.specs.Tallies.{is_offered, is_done, how_many, SlotsTold, Shows}
use Rattle.messages.proofs.Runs.{run_right}

-- 15 to 22 count
counts_15_to_22 : (n : ℕ) → 15 ≤ n → n ≤ 22 → is_offered (refused n) ≡ true
counts_15_to_22 n low high = rw (within_holds 15 22 n low high) (or-true (eqb n 3))

-- a refusal that frees no slot counts exactly if it isn't 1 or 2
counts_from_3 : (n : ℕ) → frees_none n ≡ true → is_offered (refused n) ≡ ltb 2 n
counts_from_3 n e =
    either_way (within 1 3 n)
    (λ low.
    let h = within_bounds 1 3 n low in
    dite (ℕ_discrete n 3)
    (λ (same : n ≡ 3). rw (eq-eqb n 3 same, lt-ltb 2 n (omega arith)))
    (λ (other : n ≡ 3 → ⊥).
    rw (ne_eqb n 3 other, within_below 15 22 n (omega (arith, h.1)), le-ltb 2 n (omega (arith, h.1)))))
    (λ high.
    let h = within_bounds 15 19 n (ap (λ (b : Bool). b || within 15 19 n) (sym high) ∙ e) in
    rw (counts_15_to_22 n h.0 (omega (arith, h.1)), lt-ltb 2 n (omega (arith, h.0))))

-- so does one that frees a slot
counts_freed : (n : ℕ) → within 20 22 n ≡ true → is_offered (refused n) ≡ true
counts_freed n e =
    let h = within_bounds 20 22 n e in
    counts_15_to_22 n (omega (arith, h.0)) h.1

-- and a body that is put, which is done where the slot is free
puts_offered : (then : SlotState) (i b : ℕ) (again : Bool) → is_offered (answer_of then i b again) ≡ true
puts_offered Free i b again = refl
puts_offered (Gathering k q u h) i b again = refl

puts_done : (then : SlotState) (i b : ℕ) (again : Bool) (r : Receiver)
    → (after_put then r).tallies.done
    ≡ pick (is_done (answer_of then i b again)) (next_tally r.tallies.done) r.tallies.done
puts_done Free i b again r = refl
puts_done (Gathering k q u h) i b again r = refl

-- the tally of a receiver that is counted on by a test, or stays
on : (b : Bool) (r : Receiver)
    → (pick b (with_offered r) r).tallies.offered ≡ pick b (next_tally r.tallies.offered) r.tallies.offered
on true r = refl
on false r = refl

module _ (most : ℕ) where
  -- one packet
  pub step_offered : (time : ℕ) (r : Receiver) (m p : List ℕ)
      → (step_of most time r m p).receiver.tallies.offered
      ≡ pick (is_offered (step_of most time r m p).said) (next_tally r.tallies.offered) r.tallies.offered
  unfolding step_of offered_to
  step_offered time r m p =
      let q = aged_of most time r (length m) in
      let next = next_tally q.tallies.offered in
      every_decision most q (length m) p
      (λ d. (carried_out time (after_offer q d) m p d).receiver.tallies.offered
      ≡ pick (is_offered (carried_out time (after_offer q d) m p d).said) next q.tallies.offered)
      (record {
        refuses = λ n b.
            on (ltb 2 n) q ∙ ap (λ (t : Bool). pick t next q.tallies.offered) (sym (counts_from_3 n b));
        releases = λ x i n h b c. ap (λ (t : Bool). pick t next q.tallies.offered) (sym (counts_freed n b));
        puts = λ x y i at again then f.
            (put_fields then (with_slot (with_offered q) i (slot_in then time))).2
            ∙ ap (λ (t : Bool). pick t next q.tallies.offered)
            (sym (puts_offered then i (at + length (body_of p)) again));
      })
      ∙ ap (λ (n : ℕ). pick (is_offered (step_of most time r m p).said) (next_tally n) n)
      (aged_counts most time r (length m)).0

  pub step_done : (time : ℕ) (r : Receiver) (m p : List ℕ)
      → (step_of most time r m p).receiver.tallies.done
      ≡ pick (is_done (step_of most time r m p).said) (next_tally r.tallies.done) r.tallies.done
  unfolding step_of offered_to
  step_done time r m p =
      let q = aged_of most time r (length m) in
      every_decision most q (length m) p
      (λ d. (carried_out time (after_offer q d) m p d).receiver.tallies.done
      ≡ pick (is_done (carried_out time (after_offer q d) m p d).said) (next_tally q.tallies.done) q.tallies.done)
      (record {
        refuses = λ n b. pick_elim (λ (x : Receiver). x.tallies.done ≡ q.tallies.done) (ltb 2 n) (with_offered q) q
            (λ e. refl) (λ e. refl);
        releases = λ x i n h b c. refl;
        puts = λ x y i at again then f. puts_done then i (at + length (body_of p)) again
            (with_slot (with_offered q) i (slot_in then time));
      })
      ∙ ap (λ (n : ℕ). pick (is_done (step_of most time r m p).said) (next_tally n) n)
      (aged_counts most time r (length m)).1

  -- one more or none, and then the rest
  joins : (b : Bool) (n k : ℕ) → stopped (pick b (next_tally n) n + k) ≡ stopped (n + (pick b 1 0 + k))
  joins true n k = omega arith
  joins false n k = omega arith

  -- a tally that each packet counts on by its answer, and that a slot freed leaves
  module _ (tally : Receiver → ℕ) (f : Said → Bool)
      (by-packet : (time : ℕ) (r : Receiver) (m p : List ℕ)
      → tally (step_of most time r m p).receiver
      ≡ pick (f (step_of most time r m p).said) (next_tally (tally r)) (tally r))
      (by-freeing : (r : Receiver) (i : ℕ) → tally (freed_of most r i) ≡ tally r) where
    within_bits : (b : Bool) (n : ℕ) → n ≤ 4294967295 → pick b (next_tally n) n ≤ 4294967295
    within_bits true n h = omega arith
    within_bits false n h = h

    pub run_counts : (r : Receiver) (m : List ℕ) (calls : List Call) → tally r ≤ 4294967295
        → tally (run most r m calls).receiver ≡ stopped (tally r + how_many f (run most r m calls).answers)
    unfolding run how_many
    run_counts r m [] h = omega arith
    run_counts r m (give time p ∷ calls) h =
        let c = called most r m (give time p) in
        let b = f (step_of most time r m p).said in
        let one = by-packet time r m p in
        run_counts c.receiver c.memory calls (rw one (within_bits b (tally r) h))
        ∙ ap (λ (n : ℕ). stopped (n + how_many f (run most c.receiver c.memory calls).answers)) one
        ∙ joins b (tally r) (how_many f (run most c.receiver c.memory calls).answers)
    run_counts r m (free i ∷ calls) h =
        let c = called most r m (free i) in
        let same = by-freeing r i in
        run_counts c.receiver c.memory calls (rw same h)
        ∙ ap (λ (n : ℕ). stopped (n + how_many f (run most c.receiver c.memory calls).answers)) same

  freed_counts : (r : Receiver) (i : ℕ)
      → ((freed_of most r i).tallies.offered ≡ r.tallies.offered)
      × ((freed_of most r i).tallies.done ≡ r.tallies.done)
  unfolding freed_of
  freed_counts r i =
      pick_elim
      (λ (q : Receiver). (q.tallies.offered ≡ r.tallies.offered) × (q.tallies.done ≡ r.tallies.done))
      (right_state most r && ltb i 4) (with_slot r i free_slot) r (λ e. (refl, refl)) (λ e. (refl, refl))

  -- the last two, from any state that 32 bits hold
  pub run_offered : (r : Receiver) (m : List ℕ) (calls : List Call) → r.tallies.offered ≤ 4294967295
      → (run most r m calls).receiver.tallies.offered
      ≡ stopped (r.tallies.offered + how_many is_offered (run most r m calls).answers)
  run_offered =
      run_counts (λ (r : Receiver). r.tallies.offered) is_offered step_offered (λ r i. (freed_counts r i).0)

  pub run_done : (r : Receiver) (m : List ℕ) (calls : List Call) → r.tallies.done ≤ 4294967295
      → (run most r m calls).receiver.tallies.done
      ≡ stopped (r.tallies.done + how_many is_done (run most r m calls).answers)
  run_done = run_counts (λ (r : Receiver). r.tallies.done) is_done step_done (λ r i. (freed_counts r i).1)

  -- the first two, in every right state
  pub slots_told : (r : Receiver) → right_state most r ≡ true → SlotsTold r
  slots_told r e = let right = right_of most r e in (right.gathering, right.held)

  -- all four since set-up
  pub panel : (s : Setup) (m : List ℕ) (calls : List Call) → body_right most ≡ true
      → Shows (run most (set_up_of s) m calls).receiver (run most (set_up_of s) m calls).answers
  unfolding set_up_of
  panel s m calls right =
      let ran = run most (set_up_of s) m calls in
      record {
        slots = slots_told ran.receiver (run_right most (set_up_of s) m calls (set_up_right_lem most s right));
        offered = run_offered (set_up_of s) m calls (lit≤ tt)
            ∙ ap stopped (zero-add (how_many is_offered ran.answers));
        done = run_done (set_up_of s) m calls (lit≤ tt) ∙ ap stopped (zero-add (how_many is_done ran.answers));
      }
