-- Runs: one after the other, a right state stays right, the memory keeps its size, and a slot's bytes stay until a call
-- writes there.
-- Assumes nothing.
use mathlib.Core.Path.{◌≡◌, refl, ap, sym, ◌∙◌}
use mathlib.Core.Bool.{Bool, true, false, not, ◌&&◌}
use mathlib.Core.Logic.{by_cases}
use native.Mathlib.Decide.{dec_lt}
use borrow.Author.Tests.{eqb-false, ltb-true, not-true}
use lib.Dec.{eqb, ltb}
use Rattle.octets.specs.Bytes.{laid}
use Rattle.octets.proofs.Choice.{pick_elim, both}
use Rattle.octets.proofs.Laid.{laid-length, laid_before, laid_behind}
use Rattle.octets.proofs.Parts.{part_same}
use Rattle.mctp.specs.Packet.{body_of}
use Rattle.slots.specs.declared.state.SlotState.{SlotState}
use Rattle.slots.specs.declared.state.SlotState.TheVariants.{Free, Gathering}
use mathlib.Core.List.{List, [], ◌∷◌, ◌++◌, append_assoc}
use Prim.Native.Nat.{ℕ, ◌+◌, ◌*◌, ◌≤◌, ◌<◌}
use native.Mathlib.Omega.{arith}
use lib.ListN.{length, get_or}
use lib.Seq.{get_or-set_other}
use Rattle.slots.specs.declared.state.Receiver.{Receiver}
use Rattle.slots.specs.Slots.{free_slot}
use Rattle.slots.specs.State.{right_state}
use Rattle.slots.specs.Changes.{with_slot, freed_of}
use Rattle.slots.proofs.Changes.{freed_right}
use Rattle.decision.specs.Decision.{aged_of, decided}
use Rattle.decision.proofs.DecidedRules.{every_decision}
use Rattle.receiver.specs.Step.{Said, refused, held, done, answer_of, carried_out, after_offer, offered_to, step_of}
use Rattle.receiver.proofs.Offered.{OneSlot, no_slot, freed_slot}
use Rattle.receiver.proofs.Laws.{step_right, step_setup, one_slot}
use Rattle.messages.specs.Run.{Call, give, free, Reply, rules, freed, message, Ran, called, joined, run}

-- an answer that says that a body went into this slot
abbrev pub into_slot : ℕ → Said → Bool
into_slot slot (refused n) = false
into_slot slot (held i bytes again) = eqb i slot
into_slot slot (done i length again) = eqb i slot

abbrev pub wrote : ℕ → Reply → Bool
wrote slot (rules said) = into_slot slot said
wrote slot (freed n) = false

-- "Its bytes stay until a later call writes there": none of these did
abbrev pub untouched : ℕ → List Reply → Bool
untouched slot [] = true
untouched slot (a ∷ answers) = not (wrote slot a) && untouched slot answers

-- a slot freed leaves the others
pub freed_others : (most : ℕ) (r : Receiver) (i j : ℕ) → (j ≡ i → ⊥)
    → get_or (freed_of most r j).slots i free_slot ≡ get_or r.slots i free_slot
unfolding freed_of
freed_others most r i j d =
    pick_elim (λ (s : Receiver). get_or s.slots i free_slot ≡ get_or r.slots i free_slot)
    (right_state most r && ltb j 4) (with_slot r j free_slot) r
    (λ e. get_or-set_other r.slots j i free_slot free_slot (λ s. d (sym s)))
    (λ e. refl)

freed_one_slot : (most : ℕ) (r : Receiver) (m : List ℕ) (j : ℕ) → OneSlot r m (freed_of most r j) m
unfolding freed_of
freed_one_slot most r m j =
    pick_elim (λ (s : Receiver). OneSlot r m s m) (right_state most r && ltb j 4) (with_slot r j free_slot) r
    (λ e. freed_slot r m j (ltb-true j 4 (both (right_state most r) (ltb j 4) e).1))
    (λ e. no_slot r m)

module _ (most : ℕ) where
  -- no call: nothing
  pub run_none : (r : Receiver) (m : List ℕ)
      → run most r m [] ≡ record { answers = []; messages = []; receiver = r; memory = m }
  unfolding run
  run_none r m = refl

  -- one call, then the rest
  pub run_step : (r : Receiver) (m : List ℕ) (c : Call) (calls : List Call)
      → run most r m (c ∷ calls) ≡ joined (called most r m c)
      (run most (called most r m c).receiver (called most r m c).memory calls)
  unfolding run
  run_step r m c calls = refl

  joined_assoc : (a b c : Ran) → joined a (joined b c) ≡ joined (joined a b) c
  joined_assoc a b c =
      let answers = sym (append_assoc a.answers b.answers c.answers) in
      let messages = sym (append_assoc a.messages b.messages c.messages) in
      λ i. record { answers = answers i; messages = messages i; receiver = c.receiver; memory = c.memory }

  -- one list of calls after the other
  pub run-append : (r : Receiver) (m : List ℕ) (a b : List Call)
      → run most r m (a ++ b) ≡ joined (run most r m a) (run most (run most r m a).receiver (run most r m a).memory b)
  unfolding run
  run-append r m [] b = refl
  run-append r m (c ∷ a) b =
      let first = called most r m c in
      ap (joined first) (run-append first.receiver first.memory a b)
      ∙ joined_assoc first (run most first.receiver first.memory a)
      (run most (run most first.receiver first.memory a).receiver
      (run most first.receiver first.memory a).memory b)

  -- the receiver that a call works on: old slots have been freed and a packet counted; a slot that is freed is none
  abbrev pub at_call : Receiver → List ℕ → Call → Receiver
  at_call r m (give time p) =
      let q = aged_of most time r (length m) in
      after_offer q (decided most q (length m) p)
  at_call r m (free j) = r

  -- any call changes at most one slot and that slot's 1,024 bytes
  pub called_one_slot : (r : Receiver) (m : List ℕ) (c : Call)
      → OneSlot (at_call r m c) m (called most r m c).receiver (called most r m c).memory
  called_one_slot r m (give time p) = one_slot most time r m p
  called_one_slot r m (free j) = freed_one_slot most r m j

  -- the set-up stays
  pub called_setup : (r : Receiver) (m : List ℕ) (c : Call) → (called most r m c).receiver.setup ≡ r.setup
  called_setup r m (give time p) = step_setup most time r m p
  called_setup r m (free j) = (freed_one_slot most r m j).setup

  -- a right state stays right under every call
  pub called_right : (r : Receiver) (m : List ℕ) (c : Call) → right_state most r ≡ true
      → right_state most (called most r m c).receiver ≡ true
  called_right r m (give time p) e = step_right most time r m p e
  called_right r m (free i) e = freed_right most r i e

  pub run_right : (r : Receiver) (m : List ℕ) (calls : List Call) → right_state most r ≡ true
      → right_state most (run most r m calls).receiver ≡ true
  unfolding run
  run_right r m [] e = e
  run_right r m (c ∷ calls) e =
      run_right (called most r m c).receiver (called most r m c).memory calls (called_right r m c e)

  -- the memory keeps its size
  pub called_size : (r : Receiver) (m : List ℕ) (c : Call) → length (called most r m c).memory ≡ length m
  called_size r m c = (called_one_slot r m c).size

  pub run_size : (r : Receiver) (m : List ℕ) (calls : List Call) → length (run most r m calls).memory ≡ length m
  unfolding run
  run_size r m [] = refl
  run_size r m (c ∷ calls) =
      run_size (called most r m c).receiver (called most r m c).memory calls ∙ called_size r m c

  -- a body put into another slot leaves this slot's bytes
  pub slot_apart : (m : List ℕ) (i j at : ℕ) (b : List ℕ) (n : ℕ) → (j ≡ i → ⊥) → at + length b ≤ 1024 → n ≤ 1024
      → message (laid m (1024 * j + at) b) i n ≡ message m i n
  slot_apart m i j at b n d fits high =
      part_same (laid m (1024 * j + at) b) m (1024 * i) n (laid-length m (1024 * j + at) b)
      (λ k low up.
      by_cases (dec_lt i j)
      (λ (h : i < j). laid_before m (1024 * j + at) b k (omega arith))
      (λ (h : i < j → ⊥). laid_behind m (1024 * j + at) b k (omega arith)))

  -- a body that is put says into which slot
  into_put : (then : SlotState) (i j b : ℕ) (again : Bool) → into_slot i (answer_of then j b again) ≡ eqb j i
  into_put Free i j b again = refl
  into_put (Gathering k q u h) i j b again = refl

  pub step_stays : (time : ℕ) (r : Receiver) (m p : List ℕ) (i n : ℕ) → n ≤ 1024
      → into_slot i (step_of most time r m p).said ≡ false
      → message (step_of most time r m p).memory i n ≡ message m i n
  unfolding step_of offered_to
  step_stays time r m p i n high e =
      let q = aged_of most time r (length m) in
      every_decision most q (length m) p
      (λ d. into_slot i (carried_out time (after_offer q d) m p d).said ≡ false
      → message (carried_out time (after_offer q d) m p d).memory i n ≡ message m i n)
      (record {
        refuses = λ k b s. refl;
        releases = λ x j k h b c s. refl;
        puts = λ x y j at again then f s. slot_apart m i j at (body_of p) n
            (eqb-false j i (sym (into_put then i j (at + length (body_of p)) again) ∙ s)) f.place high;
      })
      e

  -- "Its bytes stay until a later call writes there."
  pub run_stays : (r : Receiver) (m : List ℕ) (calls : List Call) (i n : ℕ) → n ≤ 1024
      → untouched i (run most r m calls).answers ≡ true
      → message (run most r m calls).memory i n ≡ message m i n
  unfolding run
  run_stays r m [] i n high e = refl
  run_stays r m (give time p ∷ calls) i n high e =
      let c = called most r m (give time p) in
      let h = both (not (into_slot i (step_of most time r m p).said))
      (untouched i (run most c.receiver c.memory calls).answers) e in
      run_stays c.receiver c.memory calls i n high h.1 ∙ step_stays time r m p i n high (not-true _ h.0)
  run_stays r m (free j ∷ calls) i n high e =
      let c = called most r m (free j) in
      run_stays c.receiver c.memory calls i n high e
