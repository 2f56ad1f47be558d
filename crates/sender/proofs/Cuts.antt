-- How many packets a message makes, without a division; which is the last; and the orders of the checks.
-- Assumes nothing.
use mathlib.Core.Path.{◌≡◌, refl, ap, sym, ◌∙◌}
use mathlib.Core.Bool.{true, false, not}
use mathlib.Core.List.{List}
use mathlib.Core.Logic.{◌⊎◌, inl, inr, by_cases}
use Prim.Native.Nat.{ℕ, ◌+◌, ◌-◌, ◌*◌, ◌≤◌, ◌<◌}
use native.Mathlib.Decide.{dec_le}
use native.Mathlib.Nat.{suc-mul, le-mul_of_pos_right, le-div_iff_mul-le}
use native.Mathlib.Omega.{arith}
use borrow.Author.Tests.{eq-eqb, ne_eqb, le-leb, lt-leb, lt-ltb, le-ltb}
use lib.Dec.{eqb, leb, ltb}
use Rattle.octets.specs.Checks.{Check}
use Rattle.octets.proofs.Checks.{FailsAt, Hold, answer_at, first_failing_lem, none_failing, all_hold, tests}
use Rattle.octets.proofs.Choice.{within_below, within_above}
use Rattle.mctp.specs.Eid.{reserved_eid}
use Rattle.mctp.specs.Packet.{body_right}
use Rattle.sender.specs.declared.heading.Heading.{Heading}
use Rattle.sender.specs.Cutting.{packets_in, heading_right, message_right, cut_order, cut_refusal}

module _ (most size k : ℕ) (some : 1 ≤ most) where
  product : (k + 1) * most ≡ k * most + most
  product = ap (λ (n : ℕ). n * most) (omega arith) ∙ suc-mul k most

  -- "its length divided by 64, rounded up": packet k is there exactly if the message has a byte at k × 64
  pub inside : k < packets_in most size → k * most < size
  inside h =
      let all = (le-div_iff_mul-le {k = most} {x = k + 1} {y = size + (most - 1)} (omega arith)).0 (omega arith) in
      omega (arith, product)

  pub counted : k * most < size → k < packets_in most size
  counted h =
      let one : k + 1 ≤ packets_in most size =
      (le-div_iff_mul-le {k = most} {x = k + 1} {y = size + (most - 1)} (omega arith)).1 (omega (arith, product)) in
      omega arith

  -- as a test
  pub past_end : size ≤ k * most → ltb k (packets_in most size) ≡ false
  past_end h =
      by_cases (dec_le (packets_in most size) k)
      (λ (e : packets_in most size ≤ k). le-ltb k (packets_in most size) e)
      (λ (e : packets_in most size ≤ k → ⊥). absurd (omega (arith, inside (omega arith))))

  -- a packet has a byte at least
  pub past_all : size ≤ k → size ≤ k * most
  past_all h = omega (arith, le-mul_of_pos_right {m = most} k (omega arith))

-- a k that is past the end, and one that is not
pub ruleset past_or_there = (counted, past_end, past_all)

-- "end on the last": the one in which the message ends
pub last_is : (most size k : ℕ) → 1 ≤ most → k * most < size
    → leb size (k * most + most) ≡ eqb (k + 1) (packets_in most size)
last_is most size k some h =
    let there = counted most size k some h in
    by_cases (dec_le size (k * most + most))
    (λ (e : size ≤ k * most + most).
    le-leb size (k * most + most) e
    ∙ sym (eq-eqb (k + 1) (packets_in most size)
    (by_cases (dec_le (packets_in most size) (k + 1))
    (λ (n : packets_in most size ≤ k + 1). omega arith)
    (λ (n : packets_in most size ≤ k + 1 → ⊥). absurd
    (omega (arith, inside most size (k + 1) some (omega arith), product most size k some))))))
    (λ (e : size ≤ k * most + most → ⊥).
    let more = counted most size (k + 1) some (omega (arith, product most size k some)) in
    lt-leb size (k * most + most) (omega arith)
    ∙ sym (ne_eqb (k + 1) (packets_in most size) (λ (n : k + 1 ≡ packets_in most size). omega arith)))

-- the order of the checks: the first that fails gives the number
module _ (most : ℕ) (heading : Heading) (size k : ℕ) where
  abbrev order : List (Check ℕ)
  order = cut_order most heading size k

  pub refused_at : (i : ℕ) → FailsAt order i → cut_refusal most heading size k ≡ answer_at order 0 i
  unfolding cut_refusal
  refused_at = first_failing_lem order 0

  pub none_refused : Hold order → cut_refusal most heading size k ≡ 0
  unfolding cut_refusal
  none_refused = none_failing order 0

  -- and a packet that is there passes all
  pub all_held : cut_refusal most heading size k ≡ 0 → Hold order
  unfolding cut_refusal
  all_held e = all_hold (λ n. eqb n 0) order 0 refl (eq-eqb _ 0 e)

  -- what packet k asks of the numbers, for who makes it
  pub record There : Type 0 where
    pub least : 64 ≤ most
    pub largest : most ≤ 246
    pub short : size ≤ 1024
    pub inside_message : k * most < size

  pub there : cut_refusal most heading size k ≡ 0 → There
  there e =
      let h = all_held e in
      let least : 64 ≤ most = omega (arith, tests, h.0) in
      record {
        least = least;
        largest = omega (arith, tests, h.0);
        short = omega (arith, tests, h.1.1.0);
        inside_message = inside most size k (omega arith) (omega (arith, tests, h.1.1.1.0));
      }

  -- packet k is there exactly if it is below the number of packets, and is refused with 23 exactly if it isn't
  pub there_exactly : body_right most ≡ true → heading_right heading ≡ true → message_right size ≡ true
      → (k < packets_in most size → cut_refusal most heading size k ≡ 0)
      × (packets_in most size ≤ k → cut_refusal most heading size k ≡ 23)
  there_exactly body numbers sized = (
    (λ h. none_refused (body, (numbers, (sized, (lt-ltb k (packets_in most size) h, tt))))),
    (λ h. refused_at 3 (body, (numbers, (sized, le-ltb k (packets_in most size) h)))),
  )

-- every number of its range is right
not_reserved : (e : ℕ) → (e ≡ 0) ⊎ (8 ≤ e) → not (reserved_eid e) ≡ true
not_reserved e (inl z) = ap not (within_below 1 7 e (omega arith))
not_reserved e (inr h) = ap not (within_above 1 7 e (omega arith))

pub in_range : (heading : Heading) → let d = heading.key.destination.0 in let s = heading.key.source.0 in
    (d ≡ 0) ⊎ (8 ≤ d) → (s ≡ 0) ⊎ (8 ≤ s) → s ≤ 254 → heading.key.tag ≤ 7 → heading.first ≤ 3
    → heading_right heading ≡ true
in_range heading d s below tag first =
    let other : (heading.key.source.0 ≡ 255) → ⊥ = λ e. omega arith in
    rw (
      not_reserved heading.key.destination.0 d,
      not_reserved heading.key.source.0 s,
      ne_eqb heading.key.source.0 255 other,
      le-leb heading.key.tag 7 tag,
      le-leb heading.first 3 first,
    )
