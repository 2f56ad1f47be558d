-- The packets that a message is cut into: their sizes, their headers, and that their bodies joined are the message.
-- Assumes nothing.
use mathlib.Core.Path.{◌≡◌, refl, ap, sym, subst, ◌∙◌}
use mathlib.Core.Bool.{true, not}
use mathlib.Core.List.{List, ◌++◌, flatten}
use mathlib.Core.Logic.{by_cases}
use Prim.Native.Nat.{ℕ, zero, suc, ◌+◌, ◌-◌, ◌*◌, ◌%◌, ◌≤◌, ◌<◌}
use native.Mathlib.Decide.{dec_lt}
use native.Mathlib.Nat.{zero-mul, suc-mul}
use native.Mathlib.Omega.{arith}
use borrow.Author.Tests.{leb-true}
use lib.Dec.{lit<, eqb, leb}
use lib.ListN.{length, take, drop, length-take, length-drop, length-append}
use lib.Seq.{take_all, take-add, drop-drop}
use Rattle.octets.specs.Bytes.{part}
use Rattle.octets.proofs.Choice.{both, within_bounds}
use Rattle.mctp.specs.declared.packet.Key.{Key}
use Rattle.mctp.specs.declared.packet.Header.{Header}
use Rattle.mctp.specs.Eid.{reserved_eid, endpoint_eid}
use Rattle.mctp.specs.Key.{header_bytes, key_of, header_of}
use Rattle.mctp.specs.Packet.{body_right, version_of, destination_of, source_of, start_of, end_of, sequence_of, body_of}
use Rattle.mctp.proofs.Headers.{Fits, header_back}
use Rattle.sender.specs.declared.heading.Heading.{Heading}
use Rattle.sender.specs.Cutting.{packets_in, packet_header, packet_body, packet_at, heading_right, message_right}
use Rattle.sender.specs.Cutting.{count_refusal, count_of}
use Rattle.sender.specs.Whole.{along, all_packets, all_bodies}
use Rattle.sender.proofs.Cuts.{inside, counted}

-- a body has room for a byte
pub some_room : (most : ℕ) → body_right most ≡ true → 1 ≤ most
some_room most right = omega (arith, within_bounds 64 246 most right)

-- so all of them hold the whole message
enough : (most n : ℕ) → 1 ≤ most → n ≤ packets_in most n * most
enough most n some =
    by_cases (dec_lt (packets_in most n * most) n)
    (λ (h : packets_in most n * most < n).
    let past : packets_in most n < packets_in most n = counted most n (packets_in most n) some h in
    omega arith)
    (λ (h : packets_in most n * most < n → ⊥). omega arith)

-- the bodies up to packet k are those before it, and its own
pub taken_next : (most : ℕ) (message : List ℕ) (k : ℕ)
    → take (suc k * most) message ≡ take (k * most) message ++ packet_body most message k
taken_next most message k =
    ap (λ (n : ℕ). take n message) (suc-mul k most) ∙ take-add (k * most) most message

-- the bodies of n packets from packet i on
bodies_from : (most : ℕ) (message : List ℕ) (i n : ℕ)
    → flatten (along (packet_body most message) i n) ≡ part message (i * most) (n * most)
unfolding along flatten
bodies_from most message i zero = sym (ap (λ (n : ℕ). take n (drop (i * most) message)) (zero-mul most))
bodies_from most message i (suc n) =
    let here = drop (i * most) message in
    let turned : suc n * most ≡ most + n * most = omega (arith, suc-mul n most) in
    let next : drop (suc i * most) message ≡ drop most here =
    ap (λ (k : ℕ). drop k message) (suc-mul i most) ∙ sym (drop-drop most (i * most) message) in
    ap (λ (s : List ℕ). packet_body most message i ++ s)
    (bodies_from most message (suc i) n ∙ ap (take (n * most)) next)
    ∙ sym (ap (λ (k : ℕ). take k here) turned ∙ take-add most (n * most) here)

-- the bodies joined, in order, are the message
pub bodies_joined : (most : ℕ) (message : List ℕ) → body_right most ≡ true → flatten (all_bodies most message) ≡ message
bodies_joined most message right =
    let count = packets_in most (length message) in
    bodies_from most message 0 count
    ∙ ap (λ (k : ℕ). take (count * most) (drop k message)) (zero-mul most)
    ∙ take_all (count * most) message (enough most (length message) (some_room most right))

-- as many as are counted
along-length : {A : Type 0} (f : ℕ → A) (i n : ℕ) → length (along f i n) ≡ n
unfolding along
along-length f i zero = refl
along-length f i (suc n) = ap suc (along-length f (suc i) n)

pub all_counted : (most : ℕ) (heading : Heading) (message : List ℕ) → body_right most ≡ true
    → message_right (length message) ≡ true → count_of most (length message) ≡ length (all_packets most heading message)
unfolding count_of count_refusal
all_counted most heading message body sized =
    rw (body, sized) (sym (along-length (packet_at most heading message) 0 (packets_in most (length message))))

module _ (most : ℕ) (message : List ℕ) (k : ℕ) (some : 1 ≤ most) where
  -- a body that is not the last is as large as may be
  pub body_full : k + 1 < packets_in most (length message) → length (packet_body most message k) ≡ most
  body_full h =
      let next = inside most (length message) (k + 1) some h in
      simp (length-take, length-drop) (omega (arith, suc-mul k most))

  -- as many full bodies as there are packets reach the message's end
  last_reaches : k + 1 ≡ packets_in most (length message) → length message ≤ (k + 1) * most
  last_reaches e = subst (λ (n : ℕ). length message ≤ n * most) (sym e) (enough most (length message) some)

  -- the last is what is left
  pub body_last : k + 1 ≡ packets_in most (length message)
      → length (packet_body most message k) ≡ length message - k * most
  body_last e =
      let all = last_reaches e in
      simp (length-take, length-drop) (omega (arith, suc-mul k most))

  -- and with it the message is whole
  pub taken_all : k + 1 ≡ packets_in most (length message) → take (suc k * most) message ≡ message
  taken_all e = take_all (suc k * most) message (omega (arith, last_reaches e))

  -- each has a byte, and none more than may be
  pub body_sizes : k < packets_in most (length message)
      → (1 ≤ length (packet_body most message k)) × (length (packet_body most message k) ≤ most)
  body_sizes h =
      let here = inside most (length message) k some h in
      omega (arith, length-take most (drop (k * most) message), length-drop (k * most) message)

-- of a right heading: the source is an endpoint's, and the tag fits
pub right_numbers_lem : (heading : Heading) → heading_right heading ≡ true
    → (endpoint_eid heading.key.source.0 ≡ true) × (heading.key.tag ≤ 7)
right_numbers_lem heading e =
    let three = (both _ (leb heading.first 3) e).0 in
    let two = both _ _ three in
    ((both (not (reserved_eid heading.key.destination.0)) _ two.0).1, leb-true _ _ two.1)

module _ (most : ℕ) (heading : Heading) (message : List ℕ) (k : ℕ) where
  -- what follows the header is the body
  pub packet_body_lem : body_of (packet_at most heading message k) ≡ packet_body most message k
  unfolding packet_at header_bytes
  packet_body_lem = refl

  pub packet-length : length (packet_at most heading message k) ≡ 4 + length (packet_body most message k)
  unfolding packet_at header_bytes
  packet-length =
      length-append (header_bytes (packet_header most heading (length message) k)) (packet_body most message k)

  module _ (right : heading_right heading ≡ true) where
    header_fits : Fits (packet_header most heading (length message) k)
    unfolding packet_header
    header_fits =
        record {
          version = lit< tt;
          sequence = omega arith;
          tag = omega (arith, (right_numbers_lem heading right).1);
        }

    -- a packet's header reads back
    pub packet_header_lem : header_of (packet_at most heading message k) ≡ packet_header most heading (length message) k
    unfolding packet_at
    packet_header_lem =
        header_back (packet_header most heading (length message) k) header_fits (packet_body most message k)

    -- so its key is the heading's
    pub packet_key : key_of (packet_at most heading message k) ≡ heading.key
    unfolding header_of packet_header
    packet_key = ap (λ (h : Header). h.key) packet_header_lem

    -- the first alone has start
    pub packet_start : start_of (packet_at most heading message k) ≡ eqb k 0
    unfolding header_of packet_header
    packet_start = ap (λ (h : Header). h.start) packet_header_lem

    -- the last alone has end
    pub packet_end : end_of (packet_at most heading message k) ≡ eqb (k + 1) (packets_in most (length message))
    unfolding header_of packet_header
    packet_end = ap (λ (h : Header). h.end) packet_header_lem

    -- and the sequence rises modulo 4
    pub packet_sequence : sequence_of (packet_at most heading message k) ≡ (heading.first + k) % 4
    unfolding header_of packet_header
    packet_sequence = ap (λ (h : Header). h.sequence) packet_header_lem

    pub packet_version : version_of (packet_at most heading message k) ≡ 1
    unfolding header_of packet_header
    packet_version = ap (λ (h : Header). h.version) packet_header_lem

    pub packet_destination : destination_of (packet_at most heading message k) ≡ heading.key.destination.0
    unfolding key_of
    packet_destination = ap (λ (j : Key). j.destination.0) packet_key

    pub packet_source : source_of (packet_at most heading message k) ≡ heading.key.source.0
    unfolding key_of
    packet_source = ap (λ (j : Key). j.source.0) packet_key
