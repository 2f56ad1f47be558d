-- Reading: what the check orders answer, which inputs are good, and what is known of a good one.
-- Assumes nothing.
use mathlib.Core.Path.{◌≡◌, refl, ap, sym, ◌∙◌}
use mathlib.Core.Bool.{Bool, true, false, not, false≢true}
use mathlib.Core.List.{List}
use Prim.Native.Nat.{ℕ, ◌+◌, ◌≤◌, ◌<◌}
use native.Mathlib.Omega.{arith}
use borrow.Author.Tests.{leb-true, le-leb, eqb-true, eqb-false, ne_eqb, not-true}
use lib.Dec.{eqb}
use lib.ListN.{length, take, drop, length-drop}
use lib.Seq.{take-append-le}
use Rattle.octets.specs.Bytes.{fronted}
use Rattle.octets.specs.Checks.{Check}
use Rattle.octets.proofs.Checks.{answer_at, Hold, FailsAt, first_failing_lem, none_failing, all_hold, tests}
use Rattle.octets.proofs.Choice.{within_bounds}
use Rattle.mmbi.proofs.PointerNumbers.{Pointer}
use Rattle.ring.specs.Numbers.{set_up_right, filled_of, next_of}
use Rattle.ring.specs.Layout.{header_at, whole_of, padding_field, type_field, size_of, mctp_type, packet_of}
use Rattle.ring.specs.Reading.{Found, packet, empty, skipped, refused, read_order, header_order, judged, found_of}
use Rattle.ring.specs.Reading.{output_after, output_of}
use Rattle.ring.specs.Round.{round_from}
use Rattle.ring.proofs.Numbers.{SetUp, set_up_facts, set_up_holds, pointers_facts, pointers_holds}
use Rattle.ring.proofs.Numbers.{filled_below, next_below}
use Rattle.ring.proofs.Rounds.{round-length, round_round}

-- what a good input is, each fact by its name
pub record Good (most : ℕ) (ring : List ℕ) (configured : ℕ) (readable : Bool)
    (read write output size next : ℕ) : Type 0 where
  pub set_up : SetUp most configured (length ring)
  pub room : 4 + most ≤ output
  pub may : readable ≡ true
  pub from : Pointer configured read
  pub to : Pointer configured write
  pub some : read ≡ write → ⊥
  pub held : whole_of (header_at (round_from read ring)) ≤ filled_of configured read write
  pub counted : 4 + padding_field (header_at (round_from read ring)) ≤ whole_of (header_at (round_from read ring))
  pub ours : type_field (header_at (round_from read ring)) ≡ mctp_type
  pub least : 5 ≤ size
  pub largest : size ≤ 4 + most
  pub sized : size ≡ size_of (header_at (round_from read ring))
  pub on : next ≡ next_of configured read (whole_of (header_at (round_from read ring)))

-- what a header's order answers
module _ (most configured read filled header : ℕ) where
  abbrev after : ℕ
  after = next_of configured read (whole_of header)

  pub judged_failing : (i : ℕ) → FailsAt (header_order most filled header after) i
      → judged most configured read filled header
      ≡ answer_at (header_order most filled header after) (packet (size_of header) after) i
  unfolding judged
  judged_failing = first_failing_lem (header_order most filled header after) (packet (size_of header) after)

  pub judged_packet : Hold (header_order most filled header after)
      → judged most configured read filled header ≡ packet (size_of header) after
  unfolding judged
  judged_packet = none_failing (header_order most filled header after) (packet (size_of header) after)

-- an answer that is a packet, and one that is 1
abbrev is_packet : Found → Bool
is_packet (packet size next) = true
is_packet empty = false
is_packet (skipped number next) = false
is_packet (refused number) = false

abbrev is_one : Found → Bool
is_one (packet size next) = false
is_one empty = false
is_one (skipped number next) = false
is_one (refused number) = eqb number 1

-- what the whole order answers
module _ (most : ℕ) (ring : List ℕ) (configured : ℕ) (readable : Bool) (read write output : ℕ) where
  abbrev order : List (Check Found)
  order = read_order most (length ring) configured readable read write output

  abbrev filled : ℕ
  filled = filled_of configured read write

  abbrev head : ℕ
  head = header_at (round_from read ring)

  abbrev beyond : ℕ
  beyond = next_of configured read (whole_of head)

  abbrev more : List (Check Found)
  more = header_order most filled head beyond

  abbrev standing : Found
  standing = judged most configured read filled head

  pub found_failing : (i : ℕ) → FailsAt order i
      → found_of most ring configured readable read write output ≡ answer_at order standing i
  unfolding found_of
  found_failing = first_failing_lem order standing

  pub found_judged : Hold order → found_of most ring configured readable read write output ≡ standing
  unfolding found_of
  found_judged = none_failing order standing

  -- a ring of a right length, lent whole, never gets 1
  pub found_not_1 : set_up_right most configured (length ring) ≡ true
      → found_of most ring configured readable read write output ≡ refused 1 → ⊥
  unfolding found_of judged
  found_not_1 set_up e =
      let first = rw set_up at (ap is_one e) in
      let h = all_hold is_one (drop 1 order) standing refl first in
      let one = sym (ap is_one (none_failing (drop 1 order) standing h)) ∙ first in
      let k = all_hold is_one more (packet (size_of head) beyond) refl one in
      false≢true (sym (ap is_one (none_failing more (packet (size_of head) beyond) k)) ∙ one)

  module _ (size next : ℕ) where
    -- a reading that gives a packet was of a good input
    pub good : found_of most ring configured readable read write output ≡ packet size next
        → Good most ring configured readable read write output size next
    unfolding found_of judged
    good e =
        let h = all_hold is_packet order _ refl (ap is_packet e) in
        let f = sym (none_failing order _ h) ∙ e in
        let k = all_hold is_packet more _ refl (ap is_packet f) in
        let is = sym (none_failing more _ k) ∙ f in
        let same : size_of head ≡ size = cc is in
        let on : beyond ≡ next = cc is in
        let pointers = pointers_facts configured read write h.1.1.1.0 in
        let bounds = within_bounds 5 (4 + most) (size_of head) k.1.1.1.1.0 in
        record {
          set_up = set_up_facts most configured (length ring) h.0;
          room = leb-true (4 + most) output h.1.0;
          may = h.1.1.0;
          from = pointers.0;
          to = pointers.1;
          some = eqb-false read write (not-true (eqb read write) h.1.1.1.1.0);
          held = leb-true (whole_of head) filled k.1.0;
          counted = leb-true (4 + padding_field head) (whole_of head) k.1.1.0;
          ours = eqb-true (type_field head) mctp_type k.1.1.1.0;
          least = omega (arith, bounds.0, same);
          largest = omega (arith, bounds.1, same);
          sized = sym same;
          on = sym on;
        }

    module _ (h : Good most ring configured readable read write output size next) where
      -- and a good input is read
      pub good_found : found_of most ring configured readable read write output ≡ packet size next
      good_found =
          let set_up = set_up_holds most configured (length ring) h.set_up in
          let room = le-leb (4 + most) output h.room in
          let pointers = pointers_holds configured read write h.from h.to in
          let other = ap not (ne_eqb read write h.some) in
          found_judged (set_up, (room, (h.may, (pointers, (other, tt)))))
          ∙ judged_packet most configured read filled head
          (omega (arith, tests, h.held, h.counted, h.ours, h.least, h.largest, h.sized))
          ∙ cc (h.sized, h.on)

      -- a good packet and its header are shorter than the ring
      pub good_short : 4 + size < length ring
      good_short =
          omega (
            arith,
            h.held,
            h.counted,
            h.sized,
            h.set_up.same,
            filled_below configured read write h.from.below h.to.below,
          )

      -- the packet stands four bytes after the read pointer
      pub good_packet : take size (round_from (next_of configured read 4) ring) ≡ packet_of (round_from read ring)
      unfolding packet_of round_from
      good_packet =
          let same = h.set_up.same in
          let s = round_from read ring in
          let under : read < length ring = omega (arith, h.from.below) in
          let four : 4 ≤ length ring = omega (arith, good_short) in
          let inside : size ≤ length (drop 4 s) = omega (arith, length-drop 4 s, round-length read ring, good_short) in
          ap (λ (n : ℕ). take size (round_from (next_of n read 4) ring)) same
          ∙ ap (take size) (sym (round_round ring read 4 under four))
          ∙ take-append-le size (drop 4 s) (take 4 s) inside
          ∙ ap (λ (n : ℕ). take n (drop 4 s)) h.sized

      -- it can be copied out
      pub good_copied : (next_of configured read 4 < length ring) × (size ≤ length ring) × (size ≤ output)
      good_copied = (
        omega (
          arith,
          h.set_up.same,
          next_below configured read 4 (omega (arith, h.set_up.size.low)),
        ),
        omega (arith, good_short),
        omega (arith, h.room, h.largest),
      )

      -- and the output then starts with it
      pub good_output : (out : List ℕ) → length out ≡ output
          → fronted out (take size (round_from (next_of configured read 4) ring))
          ≡ output_of most ring configured readable read write out
      good_output out long =
          ap (fronted out) good_packet
          ∙ sym (rw long (ap (λ (f : Found). output_after f (round_from read ring) out) good_found))
