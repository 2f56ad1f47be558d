-- "1 for a number out of range, then 3 for the message, then 23 for k past the end": each exactly if, for every number.
-- The ranges are inequalities, apart from the tests that definition and code have in common.
-- Assumes nothing.
use mathlib.Core.Path.{◌≡◌, refl, ap, sym, ◌∙◌}
use mathlib.Core.Bool.{true, false, not, true≢false}
use mathlib.Core.List.{List}
use mathlib.Core.Logic.{◌⊎◌, inl, inr, by_cases}
use Prim.Native.Nat.{ℕ, ◌*◌, ◌≤◌, ◌<◌}
use native.Mathlib.Decide.{dec_le}
use native.Mathlib.Omega.{arith}
use borrow.Author.Tests.{leb-true, eq-eqb, lt-ltb}
use lib.Dec.{leb, ltb}
use lib.ListN.{length}
use Rattle.octets.proofs.Checks.{within_false}
use Rattle.octets.proofs.Choice.{either_way, both, within_holds, within_below, within_above}
use Rattle.mctp.specs.Eid.{reserved_eid, broadcast_eid, endpoint_eid}
use Rattle.mctp.specs.Packet.{body_right}
use Rattle.mmbi.specs.declared.interface.Flags.{Flags}
use Rattle.mmbi.specs.declared.pointer.Pointers.{Pointers}
use Rattle.ring.specs.Writing.{refused}
use Rattle.sender.specs.declared.heading.Heading.{Heading}
use Rattle.sender.specs.Cutting.{packets_in, heading_right, message_right, count_refusal, cut_refusal}
use Rattle.sender.specs.Ranges.{InRange, NoMessage}
use Rattle.sender.specs.Sending.{cut_number, output_refusal, smbus_refusal, pcc_refusal, ring_entered}
use Rattle.sender.proofs.Cuts.{counted, past_end, refused_at, none_refused, in_range}
use Rattle.sender.proofs.Packets.{some_room}

not_reserved_is : (e : ℕ) → not (reserved_eid e) ≡ true → (e ≡ 0) ⊎ (8 ≤ e)
not_reserved_is e h =
    by_cases (dec_le 8 e) (λ (high : 8 ≤ e). inr high)
    (λ (low : 8 ≤ e → ⊥). by_cases (dec_le 1 e)
    (λ (some : 1 ≤ e). absurd (true≢false (sym h ∙ ap not (within_holds 1 7 e some (omega arith)))))
    (λ (none : 1 ≤ e → ⊥). inl (omega arith)))

endpoint_is : (e : ℕ) → e ≤ 255 → endpoint_eid e ≡ true → (e ≡ 0) ⊎ ((8 ≤ e) × (e ≤ 254))
endpoint_is e byte h = by_reserved (not_reserved_is e two.0)
  where
    two : (not (reserved_eid e) ≡ true) × (not (broadcast_eid e) ≡ true)
    two = both (not (reserved_eid e)) (not (broadcast_eid e)) h

    other : e ≡ 255 → ⊥
    other is = true≢false (sym two.1 ∙ ap not (eq-eqb e 255 is))

    by_reserved : (e ≡ 0) ⊎ (8 ≤ e) → (e ≡ 0) ⊎ ((8 ≤ e) × (e ≤ 254))
    by_reserved (inl zero) = inl zero
    by_reserved (inr high) =
        inr (high, by_cases (dec_le e 254) (λ (h : e ≤ 254). h) (λ (h : e ≤ 254 → ⊥). absurd (other (omega arith))))

not_a_message : (size : ℕ) → NoMessage size → message_right size ≡ false
not_a_message size (inl zero) = within_below 1 1024 size (omega arith)
not_a_message size (inr long) = within_above 1 1024 size long

no_message_is : (size : ℕ) → message_right size ≡ false → NoMessage size
no_message_is size f =
    by_cases (dec_le 1 size)
    (λ (some : 1 ≤ size). inr (omega (arith, within_false 1 1024 size f)))
    (λ (none : 1 ≤ size → ⊥). inl (omega arith))

-- "then 3 for the message": how many packets it makes is refused with 3 exactly so
pub count_three_exactly : (size : ℕ) → (NoMessage size → count_refusal 64 size ≡ 3)
    × (count_refusal 64 size ≡ 3 → NoMessage size)
unfolding count_refusal
count_three_exactly size = (
  (λ h. rw (not_a_message size h)),
  (λ e. either_way (message_right size) (λ t. absurd (omega (arith, (rw t at e)))) (λ f. no_message_is size f)),
)

-- an EID is a byte
module _ (heading : Heading) (byte : heading.key.source.0 ≤ 255) where
  -- what is let through is in range, and what is in range is let through
  right_in_range : heading_right heading ≡ true → InRange heading
  right_in_range e =
      let all = both _ (leb heading.first 3) e in
      let three = both _ (leb heading.key.tag 7) all.0 in
      let two = both (not (reserved_eid heading.key.destination.0)) _ three.0 in
      record {
        destination = not_reserved_is heading.key.destination.0 two.0;
        source = endpoint_is heading.key.source.0 byte two.1;
        tag = leb-true _ _ three.1;
        first = leb-true _ _ all.1;
      }

  in_range_right : InRange heading → heading_right heading ≡ true
  in_range_right h = by_source h.source
    where
      by_source : (heading.key.source.0 ≡ 0) ⊎ ((8 ≤ heading.key.source.0) × (heading.key.source.0 ≤ 254))
          → heading_right heading ≡ true
      by_source (inl zero) = in_range heading h.destination (inl zero) (omega arith) h.tag h.first
      by_source (inr two) = in_range heading h.destination (inr two.0) two.1 h.tag h.first

  module _ (most size k : ℕ) (body : body_right most ≡ true) where
    -- "1 for a number out of range", whatever the message and k
    pub one_exactly_out_of_range : ((InRange heading → ⊥) → cut_refusal most heading size k ≡ 1)
        × (cut_refusal most heading size k ≡ 1 → InRange heading → ⊥)
    one_exactly_out_of_range = (out, one)
      where
        out : (InRange heading → ⊥) → cut_refusal most heading size k ≡ 1
        out n =
            refused_at most heading size k 1
            (body, either_way (heading_right heading) (λ t. absurd (n (right_in_range t))) (λ f. f))

        one : cut_refusal most heading size k ≡ 1 → InRange heading → ⊥
        one e h =
            either_way (message_right size)
            (λ sized. either_way (ltb k (packets_in most size))
            (λ t. omega (arith, none_refused most heading size k (body, (in_range_right h, (sized, (t, tt))))))
            (λ t. omega (arith, refused_at most heading size k 3 (body, (in_range_right h, (sized, t))))))
            (λ f. omega (arith, refused_at most heading size k 2 (body, (in_range_right h, f))))

    module _ (right : InRange heading) where
      -- "then 3 for the message", whatever k
      pub three_exactly_no_message : (NoMessage size → cut_refusal most heading size k ≡ 3)
          × (cut_refusal most heading size k ≡ 3 → NoMessage size)
      three_exactly_no_message = (
        (λ h. refused_at most heading size k 2 (body, (in_range_right right, not_a_message size h))),
        (λ e. either_way (message_right size) (λ t. absurd (past e t)) (λ f. no_message_is size f)),
      )
        where
          past : cut_refusal most heading size k ≡ 3 → message_right size ≡ true → ⊥
          past e t =
              either_way (ltb k (packets_in most size))
              (λ b. omega (arith, none_refused most heading size k (body, (in_range_right right, (t, (b, tt))))))
              (λ b. omega (arith, refused_at most heading size k 3 (body, (in_range_right right, (t, b)))))

      -- "then 23 for k past the end": the message has no byte at k times the largest body
      pub twenty_three_exactly_past_the_end : (NoMessage size → ⊥)
          → (size ≤ k * most → cut_refusal most heading size k ≡ 23)
          × (cut_refusal most heading size k ≡ 23 → size ≤ k * most)
      twenty_three_exactly_past_the_end some = (
        (λ h. refused_at most heading size k 3
            (body, (in_range_right right, (sized, past_end most size k (some_room most body) h)))),
        (λ e. by_cases (dec_le size (k * most)) (λ (h : size ≤ k * most). h)
            (λ (h : size ≤ k * most → ⊥). absurd (there e (counted most size k (some_room most body) (omega arith))))),
      )
        where
          sized : message_right size ≡ true
          sized = either_way (message_right size) (λ t. t) (λ f. absurd (some (no_message_is size f)))

          there : cut_refusal most heading size k ≡ 23 → k < packets_in most size → ⊥
          there e h =
              omega (
                arith,
                none_refused most heading size k
                    (body, (in_range_right right, (sized, (lt-ltb k (packets_in most size) h, tt)))),
              )

  -- and on each way of sending: 1 for a number out of range, before what the output or the carrier refuses
  module _ (message : List ℕ) (k : ℕ) (wrong : InRange heading → ⊥) where
    one : cut_number 64 heading message k ≡ 1
    one = (one_exactly_out_of_range 64 (length message) k refl).0 wrong

    pub out_of_range_everywhere : ((room : ℕ) → output_refusal 64 heading message k room ≡ 1)
        × ((room destination source : ℕ) → smbus_refusal 64 heading message k room destination source ≡ 1)
        × ((room id : ℕ) → pcc_refusal 64 heading message k room id ≡ 1)
        × ((lent configured : ℕ) (flags : Flags) (pointers : Pointers)
        → ring_entered 64 heading message k lent configured flags pointers ≡ refused 1)
    unfolding output_refusal smbus_refusal pcc_refusal ring_entered
    out_of_range_everywhere = (
      (λ room. rw one),
      (λ room destination source. rw one),
      (λ room id. rw one),
      (λ lent configured flags pointers. rw one),
    )
