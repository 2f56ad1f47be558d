-- What the sender's calls write, presented as arrivals in any mix of the three paths, brings exactly the message's
-- packets (document 02, #101); and the base refuses nothing where the numbers are right.
-- Assumes nothing.
use mathlib.Core.Path.{◌≡◌, refl, sym, ◌∙◌}
use mathlib.Core.Bool.{Bool, true, ◌&&◌}
use mathlib.Core.List.{List, ◌++◌}
use Prim.Native.Nat.{ℕ, zero, suc, ◌+◌, ◌≤◌, ◌<◌}
use native.Mathlib.Omega.{arith}
use borrow.Author.Tests.{eqb-true, eqb-false, eq-eqb}
use lib.Dec.{eqb, leb}
use lib.ListN.{length, length-take, length-drop}
use Rattle.octets.proofs.Checks.{all_hold, tests}
use Rattle.octets.proofs.Choice.{both, either_way}
use Rattle.mctp.specs.Key.{header_bytes}
use Rattle.mctp.specs.Packet.{size_right}
use Rattle.smbus.specs.Writing as frames
use Rattle.smbus.proofs.Writings as smbus
use Rattle.pcc.specs.Writing as regions
use Rattle.pcc.proofs.Writings as pcc
use Rattle.mmbi.specs.Interface.{normal_runtime, state_of}
use Rattle.mmbi.specs.Pointers.{length_right, pointer_right}
use Rattle.mmbi.proofs.PointerNumbers.{length_facts, pointer_facts}
use Rattle.ring.specs.Layout.{whole_for}
use Rattle.ring.specs.Numbers.{room_of, next_of}
use Rattle.ring.specs.Writing as rings
use Rattle.ring.proofs.RoundTrip.{room_none}
use Rattle.ring.proofs.Writings as ring
use Rattle.rack.specs.Arrivals.{packet, brings}
use Rattle.sender.specs.declared.heading.Heading.{Heading}
use Rattle.sender.specs.Cutting.{packets_in, packet_at, cut_order, cut_refusal}
use Rattle.sender.specs.Sending.{if_cut, cut_number, smbus_refusal, smbus_size, smbus_written, pcc_refusal, pcc_written}
use Rattle.sender.specs.Sending.{ring_entered, ring_written}
use Rattle.sender.specs.Whole.{along, all_packets}
use Rattle.messages.specs.Run.{at_once}
use Rattle.demands.specs.Presenting.{packet_in, packets_of}
use Rattle.demands.specs.Ways.{Way, smbus_way, pcc_way, ring_way, number_entered}
use Rattle.demands.specs.Ways.{arrival_of, beside_of, Goes, arrivals, way_right}
use Rattle.demands.proofs.Arrivals as good

-- what has the number 0 was cut, and its carrier's own number is 0
both_numbers : {A : Type 0} (number_of : A → ℕ) (cut : ℕ) (carried refused : A) → number_of refused ≡ cut
    → number_of (if_cut cut carried refused) ≡ 0 → (cut ≡ 0) × (number_of carried ≡ 0)
both_numbers number_of cut carried refused same e =
    either_way (eqb cut 0) (λ t. (eqb-true cut 0 t, rw t at e))
    (λ f. absurd (eqb-false cut 0 f (sym same ∙ rw f at e)))

-- a ring's answer that has the number 0 is a pointer
entered_next : (most lent configured : ℕ) (running : Bool) (read write size : ℕ)
    → number_entered (rings.entered_of most lent configured running read write size) ≡ 0
    → rings.entered_of most lent configured running read write size
    ≡ rings.entered (next_of configured write (whole_for size))
unfolding rings.entered_of
entered_next most lent configured running read write size e =
    ring.entered_all most lent configured running read write size
    (all_hold (λ a. eqb (number_entered a) 0) (rings.write_order most lent configured running read write size) _ refl
    (eq-eqb _ 0 e))

module _ (most : ℕ) (heading : Heading) (message : List ℕ) (k : ℕ) where
  -- packet k, and the number that cutting refuses it with
  abbrev p : List ℕ
  p = packet_at most heading message k

  abbrev cut : ℕ
  cut = cut_number most heading message k

  -- packet k, sent this way, is what its arrival brings
  pub sent_brings : (way : Way) → Goes most heading message way k
      → brings most (arrival_of most heading message way k) ≡ packet p (beside_of most heading message way k)
  unfolding smbus_refusal smbus_size smbus_written frames.size_of pcc_refusal pcc_written ring_entered ring_written
      state_of
  sent_brings (smbus_way out destination source) e =
      let number = frames.write_refusal most (length out) (length p) destination source in
      let zeros = both_numbers (λ (n : ℕ). n) cut number cut refl e in
      rw (zeros.0, zeros.1) (good.frame_back most out p destination source zeros.1)
  sent_brings (pcc_way region id notify) e =
      let number = regions.write_refusal most (length region) id (length p) in
      let zeros = both_numbers (λ (n : ℕ). n) cut number cut refl e in
      rw zeros.0 (good.region_back most region id notify p zeros.1)
  sent_brings (ring_way bytes pointer out) e =
      let lent = length bytes in
      let answer = rings.entered_of most lent lent true pointer pointer (length p) in
      let zeros = both_numbers number_entered cut answer (rings.refused cut) refl e.0 in
      let is = entered_next most lent lent true pointer pointer (length p) zeros.1 in
      let next = next_of lent pointer (whole_for (length p)) in
      let back = good.ring_back most bytes lent true pointer pointer p next normal_runtime out is refl e.1 in
      rw (zeros.0, is) (rw is at back)

module _ (most : ℕ) (heading : Heading) (message : List ℕ) (ways : ℕ → Way) where
  -- the n packets from the i-th on
  sent_from : (time i n : ℕ) → ((k : ℕ) → i ≤ k → k < i + n → Goes most heading message (ways k) k)
      → packets_of most (at_once time (along (λ (k : ℕ). arrival_of most heading message (ways k) k) i n))
      ≡ at_once time (along (packet_at most heading message) i n)
  unfolding along packets_of
  sent_from time i zero goes = refl
  sent_from time i (suc n) goes =
      let first = sent_brings most heading message i (ways i) (goes i (omega arith) (omega arith)) in
      let rest = sent_from time (suc i) n (λ k low high. goes k (omega arith) (omega arith)) in
      λ j. packet_in time (first j) ++ rest j

  -- "Packet k also goes straight onto any of the three paths.": what is sent in any mix of paths brings the message's
  -- packets, in order, and nothing else
  pub sent_packets : (time : ℕ) → ((k : ℕ) → k < packets_in most (length message)
      → Goes most heading message (ways k) k)
      → packets_of most (at_once time (arrivals most heading message ways))
      ≡ at_once time (all_packets most heading message)
  sent_packets time goes = sent_from time 0 (packets_in most (length message)) (λ k low high. goes k (omega arith))

-- a packet of the base has 5 to 68 bytes
packet_sized : (heading : Heading) (message : List ℕ) (k : ℕ) → cut_refusal 64 heading (length message) k ≡ 0
    → size_right 64 (length (packet_at 64 heading message k)) ≡ true
unfolding cut_refusal packet_at header_bytes
packet_sized heading message k e =
    let hold = all_hold (λ n. eqb n 0) (cut_order 64 heading (length message) k) 0 refl (eq-eqb _ 0 e) in
    simp (length-take, length-drop) (omega (arith, tests))

-- the base refuses no packet of a message on a way whose numbers are right
pub right_way_goes : (heading : Heading) (message : List ℕ) (way : Way) (k : ℕ) → way_right way ≡ true
    → cut_refusal 64 heading (length message) k ≡ 0 → Goes 64 heading message way k
unfolding smbus_refusal pcc_refusal ring_entered state_of
right_way_goes heading message (smbus_way out destination source) k right e =
    let h = both (leb 73 (length out) && leb destination 127) (leb source 127) right in
    let g = both (leb 73 (length out)) (leb destination 127) h.0 in
    let fits = packet_sized heading message k e in
    rw e (smbus.good_number 64 (length out) (length (packet_at 64 heading message k)) destination source
    (omega (arith, tests)))
right_way_goes heading message (pcc_way region id notify) k right e =
    let h = both (leb 84 (length region)) (leb id 255) right in
    let fits = packet_sized heading message k e in
    rw e (pcc.good_number 64 (length region) id (length (packet_at 64 heading message k)) (omega (arith, tests)))
right_way_goes heading message (ring_way bytes pointer out) k right e =
    let lent = length bytes in
    let size = length (packet_at 64 heading message k) in
    let h = both (length_right lent && pointer_right lent pointer) (leb 68 (length out)) right in
    let g = both (length_right lent) (pointer_right lent pointer) h.0 in
    let l = length_facts lent g.0 in
    let fits = packet_sized heading message k e in
    let room : leb (whole_for size) (room_of lent pointer pointer) ≡ true =
    omega (arith, tests, room_none lent pointer l (pointer_facts lent pointer g.1)) in
    let is = ring.entered_all 64 lent lent true pointer pointer size
    (rw (g.0, eq-eqb lent lent refl), (fits, (refl, (rw g.1, (room, tt))))) in
    (rw (e, is), omega (arith, tests))
