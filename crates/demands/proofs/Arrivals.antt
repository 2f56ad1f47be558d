-- What is known of arrivals on each path, from the carriers' and the message rules' own laws.
-- Assumes nothing.
use mathlib.Core.Path.{◌≡◌, refl, ap, sym, subst, ◌∙◌}
use mathlib.Core.Bool.{Bool, true}
use mathlib.Core.List.{List, ◌++◌}
use Prim.Native.Nat.{ℕ, ◌+◌, ◌-◌, ◌≤◌}
use native.Mathlib.Omega.{arith}
use borrow.Author.Tests.{eq-eqb}
use lib.ListN.{length, take, drop, replicate}
use lib.Seq.{take_at}
use Rattle.octets.specs.Bytes.{Below, fronted}
use Rattle.octets.specs.Words.{high_first, word_bytes}
use Rattle.octets.proofs.Below.{below-append, below-drop, below_zeros, below_word}
use Rattle.octets.proofs.Choice.{within_bounds}
use Rattle.mctp.specs.Packet.{size_right}
use Rattle.mctp.specs.Key.{key_of}
use Rattle.smbus.specs.Layout.{frame_of}
use Rattle.smbus.specs.Reading as smbus
use Rattle.smbus.specs.Writing as frames
use Rattle.smbus.proofs.Answers.{good_packet, good_source}
use Rattle.smbus.proofs.Layouts.{good_frame, frame_bytes}
use Rattle.smbus.proofs.Readings.{good}
use Rattle.smbus.proofs.RoundTrip as smbus-back
use Rattle.pcc.specs.Layout.{region_for}
use Rattle.pcc.specs.Reading as pcc
use Rattle.pcc.specs.Writing as regions
use Rattle.pcc.proofs.RoundTrip as pcc-back
use Rattle.pcc.proofs.Layouts.{every_bytes}
use Rattle.mmbi.specs.Interface.{state_of, may_read}
use Rattle.mmbi.specs.declared.interface.Flags.{Flags}
use Rattle.mmbi.specs.Pointers.{length_right}
use Rattle.ring.specs.Round.{round_from, stored}
use Rattle.ring.specs.Layout.{padding_for, header_for, whole_for, ring_bytes}
use Rattle.ring.specs.Runs.{arrival_ring}
use Rattle.ring.specs.Writing as putting
use Rattle.ring.specs.declared.reading.Found.TheVariants as case
use Rattle.std.proofs.Common.{Ok}
use Rattle.ring.proofs.Layouts.{round_bytes}
use Rattle.ring.proofs.RoundTrip as ring-round
use Rattle.slots.specs.declared.state.Receiver.{Receiver}
use Rattle.slots.specs.State.{right_state}
use Rattle.slots.specs.Changes.{with_offered}
use Rattle.slots.specs.Ages.{expired}
use Rattle.receiver.specs.Effects.{Unchanged, SlotFreed}
use Rattle.receiver.specs.Step.{refused, step_of}
use Rattle.receiver.proofs.Laws.{step_right, refused_uncounted, refused_counted, refused_freed}
use Rattle.rack.specs.declared.answer.Beside.{Beside}
use Rattle.rack.specs.declared.answer.Beside.TheVariants.{Source, Notify, Next}
use Rattle.rack.specs.Arrivals.{Arrival, Brought, Without, packet, none, brings, smbus_brings, pcc_brings, ring_brings}
use Rattle.rack.specs.Answers.{given, nothing, arrived_of}
use Rattle.rack.proofs.Carriers.{ring_brings_lem, ring_front}

module _ (most time : ℕ) (r : Receiver) (m : List ℕ) where
  pub none_leaves_all : (a : Arrival) (why : Without) → brings most a ≡ none why
      → arrived_of most time r m (brings most a) ≡ record { told = nothing why; receiver = r; memory = m }
  none_leaves_all a why e = ap (arrived_of most time r m) e

  -- what the rules refuse was a packet
  a_packet : (beside : Beside) (n : ℕ) (why : Without) → nothing why ≡ given beside (refused n) → ⊥
  a_packet beside n why e = let z : ◌≡◌ {A = ℕ} 0 1 = cc in omega arith

  pub rules_uncounted : (beside : Beside) (n : ℕ) (c : Brought)
      → (arrived_of most time r m c).told ≡ given beside (refused n)
      → n ≤ 2 → Unchanged r m (arrived_of most time r m c).receiver (arrived_of most time r m c).memory
  rules_uncounted beside n (packet p k) e low = refused_uncounted most time r m p n (cc) low
  rules_uncounted beside n (none why) e low = absurd (a_packet beside n why e)

  pub rules_counted : (beside : Beside) (n : ℕ) (c : Brought)
      → (arrived_of most time r m c).told ≡ given beside (refused n)
      → 3 ≤ n → (n ≡ 20 → ⊥) → (n ≡ 21 → ⊥) → (n ≡ 22 → ⊥)
      → Unchanged (with_offered (expired time r)) m (arrived_of most time r m c).receiver
      (arrived_of most time r m c).memory
  rules_counted beside n (packet p k) e low n20 n21 n22 = refused_counted most time r m p n (cc) low n20 n21 n22
  rules_counted beside n (none why) e low n20 n21 n22 = absurd (a_packet beside n why e)

  -- a right state stays right, whatever the carrier made of the arrival
  pub arrived_right : (c : Brought) → right_state most r ≡ true
      → right_state most (arrived_of most time r m c).receiver ≡ true
  arrived_right (packet p beside) e = step_right most time r m p e
  arrived_right (none why) e = e

  pub rules_freed : (p : List ℕ) (beside : Beside) (n : ℕ) (c : Brought) → c ≡ packet p beside
      → (arrived_of most time r m c).told ≡ given beside (refused n)
      → 20 ≤ n → SlotFreed (key_of p) (with_offered (expired time r)) m (arrived_of most time r m c).receiver
      (arrived_of most time r m c).memory
  rules_freed p beside n c is e twenty =
      subst
      (λ (d : Brought). (arrived_of most time r m d).told ≡ given beside (refused n)
      → SlotFreed (key_of p) (with_offered (expired time r)) m (arrived_of most time r m d).receiver
      (arrived_of most time r m d).memory)
      (sym is)
      (λ (t : given beside (step_of most time r m p).said ≡ given beside (refused n)). refused_freed most time r m p n
      (cc) twenty)
      e

module _ (most : ℕ) where
  -- a good frame is the layout of what was read from it
  pub frame_layout : (frame : List ℕ) (own : ℕ) → smbus.refusal_of most frame own ≡ 0
      → frame ≡ frame_of own (smbus.source_address_of most frame own) (smbus.packet_of most frame own)
  frame_layout frame own h =
      rw (good_packet most frame own h, good_source most frame own h)
      (good_frame most frame own (good most frame own h))

  -- three facts make an arrival of a frame, and of a region
  pub smbus_found : (frame : List ℕ) (own : ℕ) (p : List ℕ) (source : ℕ) → smbus.refusal_of most frame own ≡ 0
      → smbus.packet_of most frame own ≡ p
      → smbus.source_address_of most frame own ≡ source → smbus_brings most frame own ≡ packet p (Source source)
  unfolding smbus_brings
  smbus_found frame own p source n e a = rw (eq-eqb (smbus.refusal_of most frame own) 0 n, e, a)

  pub pcc_found : (region : List ℕ) (id : ℕ) (p : List ℕ) (notify : Bool) → pcc.refusal_of most region id ≡ 0
      → pcc.packet_of most region id ≡ p
      → pcc.notify_of most region id ≡ notify → pcc_brings most region id ≡ packet p (Notify notify)
  unfolding pcc_brings
  pcc_found region id p notify n e f = rw (eq-eqb (pcc.refusal_of most region id) 0 n, e, f)

  -- and a reading that leaves the packet at the output's front makes one of a ring
  pub ring_found : (bytes : List ℕ) (configured : ℕ) (flags : Flags) (read write : ℕ) (p : List ℕ) (next : ℕ)
      (out : List ℕ) → may_read (state_of flags) ≡ true
      → ring-round.Gives most bytes configured true read write out p next
      → ring_brings most bytes configured flags read write out ≡ packet p (Next next)
  unfolding fronted
  ring_found bytes configured flags read write p next out may e =
      let gives : ring-round.Gives most bytes configured (may_read (state_of flags)) read write out p next = rw may e in
      let answer = Ok (case.Packet (length p) next) in
      let front = ring_front most bytes configured flags read write out answer (sym gives.0) (length p) next refl in
      ring_brings_lem most bytes configured flags read write out answer (sym gives.0) answer refl
      ∙ ap (λ (q : List ℕ). packet q (Next next))
      (sym front ∙ ap (take (length p)) gives.1 ∙ take_at p (drop (length p) out) (length p) refl)

  pub frame_back : (out p : List ℕ) (destination source : ℕ)
      → frames.write_refusal most (length out) (length p) destination source ≡ 0
      → smbus_brings most (take (frames.frame_size (length p)) (frames.written_of most out p destination source))
      destination ≡ packet p (Source source)
  frame_back out p destination source e =
      let written = take (frames.frame_size (length p)) (frames.written_of most out p destination source) in
      smbus_found written destination p source (smbus-back.back_number most out p destination source e)
      (smbus-back.back_packet most out p destination source e)
      (smbus-back.back_source most out p destination source e)

  pub region_back : (region : List ℕ) (id : ℕ) (notify : Bool) (p : List ℕ)
      → regions.write_refusal most (length region) id (length p) ≡ 0
      → pcc_brings most (regions.written_of most region id notify p) id ≡ packet p (Notify notify)
  region_back region id notify p e =
      pcc_found (regions.written_of most region id notify p) id p notify
      (pcc-back.back_number most region id notify p e) (pcc-back.back_packet most region id notify p e)
      (pcc-back.back_notify most region id notify p e)

  pub ring_back : (bytes : List ℕ) (configured : ℕ) (running : Bool) (read write : ℕ) (p : List ℕ) (next : ℕ)
      (flags : Flags) (out : List ℕ)
      → putting.entered_of most (length bytes) configured running read write (length p) ≡ putting.entered next
      → may_read (state_of flags) ≡ true → 4 + most ≤ length out
      → ring_brings most (putting.written_of most bytes configured running read write p) configured flags write next
      out ≡ packet p (Next next)
  ring_back bytes configured running read write p next flags out e may room =
      ring_found (putting.written_of most bytes configured running read write p) configured flags write next p next
      out may
      (ring-round.written_reads_back most bytes configured running read write p next e out room)

module _ (p : List ℕ) where
  pub every_frame : (destination source : ℕ) → Below 256 p → size_right 64 (length p) ≡ true → destination ≤ 127
      → source ≤ 127
      → Below 256 (frame_of destination source p)
      × (smbus_brings 64 (frame_of destination source p) destination ≡ packet p (Source source))
  every_frame destination source b sized to by =
      let bounds = within_bounds 5 68 (length p) sized in
      let least : 64 ≤ 64 = omega arith in
      let largest : 64 ≤ 246 = omega arith in (
        frame_bytes destination source p to by (omega (arith, bounds.1)) b,
        smbus_found 64 (frame_of destination source p) destination p source
            (smbus-back.frame_number 64 destination source p least largest to bounds.0 bounds.1)
            (smbus-back.frame_packet 64 destination source p least largest to bounds.0 bounds.1)
            (smbus-back.frame_source 64 destination source p least largest to bounds.0 bounds.1),
      )

  pub every_region : (id : ℕ) (notify : Bool) → Below 256 p → size_right 64 (length p) ≡ true → id ≤ 255
      → Below 256 (region_for id notify p) × (pcc_brings 64 (region_for id notify p) id ≡ packet p (Notify notify))
  every_region id notify b sized subspace = (
    every_bytes id notify p b,
    pcc_found 64 (region_for id notify p) id p notify (pcc-back.every_number 64 id notify p refl subspace sized)
        (pcc-back.every_packet 64 id notify p refl subspace sized)
        (pcc-back.every_notify 64 id notify p refl subspace sized),
  )

  ring_bytes_lem : Below 256 p → Below 256 (ring_bytes p)
  unfolding ring_bytes
  ring_bytes_lem b =
      below-append (word_bytes high_first (header_for (length p))) (p ++ replicate (padding_for (length p)) 0)
      (below_word high_first (header_for (length p)))
      (below-append p (replicate (padding_for (length p)) 0) b (below_zeros (padding_for (length p))))

  arrival_bytes : (configured : ℕ) → Below 256 p → Below 256 (arrival_ring configured p)
  unfolding arrival_ring stored fronted
  arrival_bytes configured b =
      let zeros = replicate {A = ℕ} configured 0 in
      let behind = drop (length (ring_bytes p)) (round_from 0 zeros) in
      round_bytes (length zeros - 0) (ring_bytes p ++ behind)
      (below-append (ring_bytes p) behind (ring_bytes_lem b)
      (below-drop (length (ring_bytes p)) (round_from 0 zeros) (round_bytes 0 zeros (below_zeros configured))))

  pub every_ring : (configured : ℕ) (flags : Flags) (out : List ℕ) → Below 256 p → size_right 64 (length p) ≡ true
      → length_right configured ≡ true → may_read (state_of flags) ≡ true → 68 ≤ length out
      → Below 256 (arrival_ring configured p)
      × (ring_brings 64 (arrival_ring configured p) configured flags 0 (whole_for (length p)) out
      ≡ packet p (Next (whole_for (length p))))
  every_ring configured flags out b sized right may room = (
    arrival_bytes configured b,
    ring_found 64 (arrival_ring configured p) configured flags 0 (whole_for (length p)) p (whole_for (length p)) out may
        (ring-round.arrival_base configured p out right sized room),
  )
