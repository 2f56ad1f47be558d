-- The useless builds of document 01 ("Shutting out empty work") and of document 02, #102 and #106, each shut out: a
-- build with that behaviour that meets the contract's own equation is a contradiction. A build is what a call leaves
-- of every input.
-- Assumes nothing.
use mathlib.Core.Path.{◌≡◌, refl, ap, sym, ◌∙◌}
use mathlib.Core.Bool.{Bool, true, false, false≢true}
use mathlib.Core.List.{List, [], ◌∷◌}
use Prim.Native.Nat.{ℕ}
use native.Mathlib.Omega.{arith}
use lib.Dec.{lit≤}
use lib.ListN.{get_or, replicate}
use Rattle.mctp.specs.Packet.{start_of}
use Rattle.pec.proofs.Tests.{all_bytes_lem}
use Rattle.smbus.proofs.Literal.{literal_frame, literal_packet}
use Rattle.pcc.specs.Layout.{region_for}
use Rattle.mmbi.specs.declared.interface.Flags.{Flags}
use Rattle.mmbi.specs.Interface.{state_of, may_read}
use Rattle.ring.specs.Layout.{whole_for}
use Rattle.ring.specs.Runs.{arrival_ring}
use Rattle.slots.specs.declared.state.Slot.{Slot}
use Rattle.slots.specs.declared.state.Tallies.{Tallies}
use Rattle.slots.specs.declared.state.Receiver.{Receiver}
use Rattle.slots.specs.Slots.{slot_at, is_free}
use Rattle.slots.specs.Changes.{with_offered}
use Rattle.slots.proofs.Literal.{tallied}
use Rattle.receiver.specs.Step as rules
use Rattle.rack.specs.declared.answer.Beside.{Beside}
use Rattle.rack.specs.Arrivals.{Arrival, by_smbus, by_pcc, by_ring, Brought, Without, packet, brings}
use Rattle.rack.specs.Answers.{given, nothing, AfterArrival, arrived_of}
use Rattle.transcript.specs.declared.state.State.{State}
use Rattle.transcript.specs.State.{start, one_more, with_packet}
use Rattle.transcript.specs.Frame.{after_frame}
use Rattle.transcript.specs.Taking as transcript
use Rattle.demands.specs.Presenting.{arrival}
use Rattle.demands.proofs.Numbers.{card, empty, packet_with}
use Rattle.demands.proofs.Arrivals.{every_region, every_ring}
use Rattle.demands.proofs.Checked.{literal_brought}
use Rattle.demands.proofs.Steps.{gathering, steps}

-- facts by computation that the shut-outs rest on
none_counted : (transcript.run start empty []).state.packets ≡ 0
unfolding transcript.run
none_counted = refl

one_counted : (transcript.run start empty (literal_frame ∷ [])).state.packets ≡ 1
unfolding transcript.run after_frame one_more
one_counted = ap (λ (c : Brought). with_packet (arrived_of 64 0 start.receiver empty c).told 0) literal_brought

-- "One that refuses everything is shut out by 3's arrival on each path with 2's reading.": a good arrival is never
-- answered with a refusal
module _ (build : (time : ℕ) → Receiver → List ℕ → Arrival → AfterArrival)
    (meets : (time : ℕ) (r : Receiver) (m : List ℕ) (a : Arrival) → build time r m a ≡ arrival 64 time r m a) where
  not_both : (beside : Beside) (said : rules.Said) (why : Without) → given beside said ≡ nothing why → ⊥
  not_both beside said why e = let z : ◌≡◌ {A = ℕ} 0 1 = cc in omega arith

  refuser : (a : Arrival) (p : List ℕ) (beside : Beside) → brings 64 a ≡ packet p beside
      → ((time : ℕ) (r : Receiver) (m : List ℕ) → (why : Without) × ((build time r m a).told ≡ nothing why)) → ⊥
  refuser a p beside e refuses =
      let no = refuses 0 card empty in
      not_both beside (rules.step_of 64 0 card empty p).said no.0
      (sym (ap (λ (l : AfterArrival). l.told) (meets 0 card empty a)
      ∙ ap (λ (c : Brought). (arrived_of 64 0 card empty c).told) e)
      ∙ no.1)

  abbrev Refuses : Arrival → Type 0
  Refuses a = (time : ℕ) (r : Receiver) (m : List ℕ) → (why : Without) × ((build time r m a).told ≡ nothing why)

  pub refuses_every_frame : ((frame : List ℕ) (own : ℕ) → Refuses (by_smbus frame own)) → ⊥
  refuses_every_frame all = refuser (by_smbus literal_frame 32) literal_packet _ literal_brought (all literal_frame 32)

  pub refuses_every_region : ((region : List ℕ) (id : ℕ) → Refuses (by_pcc region id)) → ⊥
  refuses_every_region all =
      refuser (by_pcc (region_for 3 true literal_packet) 3) literal_packet _
      (every_region literal_packet 3 true (all_bytes_lem literal_packet tt) refl (lit≤ tt)).1
      (all (region_for 3 true literal_packet) 3)

  -- in any one of the three states, so that a ring that is closed too early is shut out as well
  pub refuses_every_ring : (flags : Flags) → may_read (state_of flags) ≡ true
      → ((ring : List ℕ) (configured read write : ℕ) (out : List ℕ)
      → Refuses (by_ring ring configured flags read write out)) → ⊥
  refuses_every_ring flags may all =
      let ring = arrival_ring 128 literal_packet in
      let out = replicate {A = ℕ} 68 0 in
      refuser (by_ring ring 128 flags 0 (whole_for 5) out) literal_packet _
      (every_ring literal_packet 128 flags out (all_bytes_lem literal_packet tt) refl refl may (lit≤ tt)).1
      (all ring 128 0 (whole_for 5) out)

-- A build of the call that gives a packet to the message rules.
module _ (build : (time : ℕ) → Receiver → List ℕ → List ℕ → rules.Left)
    (meets : (time : ℕ) (r : Receiver) (m p : List ℕ) → build time r m p ≡ rules.step_of 64 time r m p) where
  said : (r : Receiver) (m p : List ℕ) (s : rules.Said) → (rules.step_of 64 0 r m p).said ≡ s → (build 0 r m p).said ≡ s
  said r m p s e = ap (λ (l : rules.Left). l.said) (meets 0 r m p) ∙ e

  -- a start of one byte, to a receiver just set up
  begun : (build 0 card empty (packet_with 0x80 1 7)).said ≡ rules.held 0 1 false
  begun = said card empty (packet_with 0x80 1 7) (rules.held 0 1 false) steps.held_one

  -- "One that answers "done, slot 0" to all is shut out by 2's message rules.": a start without end is held
  pub done_to_all : ((time : ℕ) (r : Receiver) (m p : List ℕ)
      → (n : ℕ) × (again : Bool) × ((build time r m p).said ≡ rules.done 0 n again)) → ⊥
  done_to_all all =
      let claim = (all 0 card empty (packet_with 0x80 1 7)).2 in
      let rule = begun in
      let z : ◌≡◌ {A = ℕ} 0 1 = cc in
      omega arith

  -- one whose message rules refuse every packet is shut out by them too
  pub refuses_every_packet : ((time : ℕ) (r : Receiver) (m p : List ℕ)
      → (n : ℕ) × ((build time r m p).said ≡ rules.refused n)) → ⊥
  refuses_every_packet all =
      let claim = (all 0 card empty (packet_with 0x80 1 7)).1 in
      let rule = begun in
      let z : ◌≡◌ {A = ℕ} 0 1 = cc in
      omega arith

  -- "One that leaves slots and memory as they are breaks the first start under 2."
  pub leaves_the_slots : ((time : ℕ) (r : Receiver) (m p : List ℕ) → (build time r m p).receiver ≡ r) → ⊥
  leaves_the_slots all =
      false≢true
      (sym steps.first_taken
      ∙ ap (λ (l : rules.Left). is_free (slot_at l.receiver.slots 0)) (sym (meets 0 card empty (packet_with 0x80 1 7)))
      ∙ ap (λ (r : Receiver). is_free (slot_at r.slots 0)) (all 0 card empty (packet_with 0x80 1 7)))

  -- so does one that counts the packet as offered and leaves the slots
  keeps_the_slots : ((time : ℕ) (r : Receiver) (m p : List ℕ) → (build time r m p).receiver.slots ≡ r.slots) → ⊥
  keeps_the_slots all =
      false≢true
      (sym steps.first_taken
      ∙ ap (λ (l : rules.Left). is_free (slot_at l.receiver.slots 0)) (sym (meets 0 card empty (packet_with 0x80 1 7)))
      ∙ ap (λ (l : List Slot). is_free (slot_at l 0)) (all 0 card empty (packet_with 0x80 1 7)))

  pub only_counts : ((time : ℕ) (r : Receiver) (m p : List ℕ) → (build time r m p).receiver ≡ with_offered r) → ⊥
  only_counts all =
      keeps_the_slots (λ time r m p. ap (λ (r : Receiver). r.slots) (all time r m p))

  pub leaves_the_memory : ((time : ℕ) (r : Receiver) (m p : List ℕ) → (build time r m p).memory ≡ m) → ⊥
  leaves_the_memory all =
      let seven : ◌≡◌ {A = ℕ} 7 0 =
      sym steps.first_laid
      ∙ ap (λ (l : rules.Left). get_or l.memory 0 0) (sym (meets 0 card empty (packet_with 0x80 1 7)))
      ∙ ap (λ (m : List ℕ). get_or m 0 0) (all 0 card empty (packet_with 0x80 1 7)) in
      omega arith

  -- "One that gathers the first packet and pretends after it breaks 3 at the second, since 3 is stated over 2's rules."
  pub pretends_after_the_first : ((time : ℕ) (r : Receiver) (m p : List ℕ) → start_of p ≡ false
      → (build time r m p).memory ≡ m) → ⊥
  pretends_after_the_first all =
      let seven : ◌≡◌ {A = ℕ} 7 0 =
      sym steps.second_laid
      ∙ ap (λ (l : rules.Left). get_or l.memory 1 0) (sym (meets 0 gathering empty (packet_with 0x50 1 7)))
      ∙ ap (λ (m : List ℕ). get_or m 1 0) (all 0 gathering empty (packet_with 0x50 1 7) refl) in
      omega arith

  -- "A made-up held .. count fails since held is the sum of the bodies"
  pub one_held_count : (n : ℕ) →
      ((time : ℕ) (r : Receiver) (m p : List ℕ) (slot bytes : ℕ) (again : Bool)
      → (build time r m p).said ≡ rules.held slot bytes again
      → bytes ≡ n) → ⊥
  one_held_count n all =
      let one = all 0 card empty (packet_with 0x80 1 7) 0 1 false begun in
      let two =
      all 0 card empty (packet_with 0x80 2 7) 0 2 false
      (said card empty (packet_with 0x80 2 7) (rules.held 0 2 false) steps.held_two) in
      omega arith

  -- one that frees no slot by age, and one that frees a slot whatever its age: a packet that is too short is refused,
  -- and the slot of a start at 0 is freed at 1,001, not at 1,000
  after_refusal : (time : ℕ) (b : Bool)
      → is_free (slot_at (rules.step_of 64 time gathering empty []).receiver.slots 0) ≡ b
      → is_free (slot_at (build time gathering empty []).receiver.slots 0) ≡ b
  after_refusal time b e =
      ap (λ (l : rules.Left). is_free (slot_at l.receiver.slots 0)) (meets time gathering empty []) ∙ e

  pub frees_none_by_age : ((time : ℕ) (r : Receiver) (m p : List ℕ) → (build time r m p).said ≡ rules.refused 3
      → (build time r m p).receiver.slots ≡ r.slots) → ⊥
  frees_none_by_age all =
      let late = ap (λ (l : rules.Left). l.said) (meets 1001 gathering empty []) ∙ steps.refused_late in
      false≢true
      (ap (λ (l : List Slot). is_free (slot_at l 0)) (sym (all 1001 gathering empty [] late))
      ∙ after_refusal 1001 true steps.freed)

  pub frees_at_any_age : ((time : ℕ) (r : Receiver) (m p : List ℕ) → (build time r m p).said ≡ rules.refused 3
      → is_free (slot_at (build time r m p).receiver.slots 0) ≡ true) → ⊥
  frees_at_any_age all =
      let in_time = ap (λ (l : rules.Left). l.said) (meets 1000 gathering empty []) ∙ steps.refused_in_time in
      false≢true (sym (after_refusal 1000 false steps.kept) ∙ all 1000 gathering empty [] in_time)

  -- one that leaves a tally at 0 for ever: of slots gathering, of bytes held, of packets offered or of messages done
  told : (tally : Tallies → ℕ) (p : List ℕ) → tally (rules.step_of 64 0 card empty p).receiver.tallies ≡ 1
      → ((time : ℕ) (r : Receiver) (m p : List ℕ) → tally (build time r m p).receiver.tallies ≡ 0) → ⊥
  told tally p one all =
      let none = all 0 card empty p in
      let same = ap (λ (l : rules.Left). tally l.receiver.tallies) (meets 0 card empty p) in
      omega (arith, one, none, same)

  pub no_slot_ever_gathers : ((time : ℕ) (r : Receiver) (m p : List ℕ)
      → (build time r m p).receiver.tallies.gathering ≡ 0) → ⊥
  no_slot_ever_gathers =
      told (λ (t : Tallies). t.gathering) (packet_with 0x80 1 7)
      (ap (λ (t : Tallies). t.gathering) steps.start_told)

  pub no_byte_is_ever_held : ((time : ℕ) (r : Receiver) (m p : List ℕ)
      → (build time r m p).receiver.tallies.held ≡ 0) → ⊥
  no_byte_is_ever_held =
      told (λ (t : Tallies). t.held) (packet_with 0x80 1 7) (ap (λ (t : Tallies). t.held) steps.start_told)

  pub no_packet_is_ever_offered : ((time : ℕ) (r : Receiver) (m p : List ℕ)
      → (build time r m p).receiver.tallies.offered ≡ 0) → ⊥
  no_packet_is_ever_offered =
      told (λ (t : Tallies). t.offered) (packet_with 0x80 1 7) (ap (λ (t : Tallies). t.offered) steps.start_told)

  pub no_message_is_ever_done : ((time : ℕ) (r : Receiver) (m p : List ℕ)
      → (build time r m p).receiver.tallies.done ≡ 0) → ⊥
  no_message_is_ever_done =
      told (λ (t : Tallies). t.done) (packet_with 0xC0 1 7) (ap (λ (t : Tallies). t.done) steps.done_told)

-- A build of the call that tells the tallies: one that tells 0 for ever, of whichever of the four.
pub tells_0_for_ever : (build : Receiver → Tallies) → ((r : Receiver) → build r ≡ r.tallies)
    → (tally : Tallies → ℕ) → tally (record { gathering = 1; held = 1; offered = 1; done = 1 }) ≡ 1
    → ((r : Receiver) → tally (build r) ≡ 0) → ⊥
tells_0_for_ever build meets tally one all =
    let r = tallied 1 1 1 1 card in
    omega (arith, one, all r, ap tally (meets r))

-- ".. or packet count fails since .. packets is counted by 2's layouts.": a build is the state that the transcript's
-- calls leave after some frames
pub one_packet_count : (build : List (List ℕ) → State)
    → ((frames : List (List ℕ)) → build frames ≡ (transcript.run start empty frames).state)
    → (n : ℕ) → ((frames : List (List ℕ)) → (build frames).packets ≡ n) → ⊥
one_packet_count build meets n all =
    let none : (build []).packets ≡ 0 = ap (λ (s : State). s.packets) (meets []) ∙ none_counted in
    let one : (build (literal_frame ∷ [])).packets ≡ 1 =
    ap (λ (s : State). s.packets) (meets (literal_frame ∷ [])) ∙ one_counted in
    omega (arith, none, one, all [], all (literal_frame ∷ []))
