-- What is passed over, a packet of another kind (14) or of a wrong size (3): the pointer lies behind the whole of it,
-- header, body and padding, by its own bytes; as a law, and on literal rings.
-- Assumes nothing.
use mathlib.Core.Path.{◌≡◌, refl, ap, sym, ◌∙◌}
use mathlib.Core.Bool.{Bool, true, false, false≢true}
use mathlib.Core.List.{List, [], ◌∷◌, ◌++◌, map}
use mathlib.Core.Logic.{◌⊎◌, inl, inr}
use Prim.Native.Nat.{ℕ, ◌+◌, ◌*◌, ◌/◌, ◌%◌, ◌<◌}
use native.Mathlib.Omega.{arith}
use borrow.Author.Tests.{leb-true}
use lib.Dec.{eqb, lit<}
use lib.ListN.{length, get_or, take, drop, replicate}
use Rattle.octets.specs.Bytes.{fronted}
use Rattle.octets.specs.Checks.{Check, first_failing}
use Rattle.octets.specs.Choice.{pick}
use Rattle.octets.specs.Words.{word_at}
use Rattle.octets.proofs.Checks.{none_failing, all_hold}
use Rattle.mctp.specs.Packet.{size_right}
use Rattle.mmbi.specs.Interface.{normal_runtime, state_of}
use Rattle.ring.specs.Numbers.{filled_of, next_of}
use Rattle.ring.specs.Layout.{header_at, type_field, mctp_type, whole_of, size_of, packet_of}
use Rattle.ring.specs.Reading.{Found, packet, empty, skipped, refused, read_order, header_order, judged, found_of}
use Rattle.ring.specs.Round.{round_from}
use Rattle.ring.specs.Runs.{drained}
use Rattle.ring.proofs.Numbers.{pointers_facts, filled_taken}

-- "The size of the packet, calculated as PKT_LEN+1 multiplied by 4 bytes", by the first three bytes of a list that
-- starts at its header: PKT_LEN are the high 22 of their 24 bits
abbrev pub whole_by_bytes : List ℕ → ℕ
whole_by_bytes s = 4 + (get_or s 0 0 * 65536 + get_or s 1 0 * 256 + get_or s 2 0) / 4 * 4

-- what is known of a packet that is passed over
pub record Passed (ring : List ℕ) (most configured read write number next : ℕ) : Type 0 where
  -- the pointer behind the whole packet, round the ring's end
  pub behind : next ≡ (read + whole_by_bytes (round_from read ring)) % configured
  -- no more is passed over than is filled; what was filled and isn't passed over is filled still
  pub rest : whole_by_bytes (round_from read ring) + filled_of configured next write ≡ filled_of configured read write
  -- "14, 3": another type, or MCTP's with a wrong size
  pub why : ((number ≡ 14) × (eqb (type_field (header_at (round_from read ring))) mctp_type ≡ false))
      ⊎ ((number ≡ 3) × (eqb (type_field (header_at (round_from read ring))) mctp_type ≡ true)
      × (size_right most (size_of (header_at (round_from read ring))) ≡ false))

abbrev is_skipped : Found → Bool
is_skipped (packet size next) = false
is_skipped empty = false
is_skipped (skipped number next) = true
is_skipped (refused number) = false

-- the last two checks of a header
two_last : (ours sized : Bool) (size n number next : ℕ)
    → pick ours (pick sized (packet size n) (skipped 3 n)) (skipped 14 n) ≡ skipped number next
    → (next ≡ n)
    × (((number ≡ 14) × (ours ≡ false)) ⊎ ((number ≡ 3) × (ours ≡ true) × (sized ≡ false)))
two_last false sized size n number next e = (cc e, inl (cc e, refl))
two_last true false size n number next e = (cc e, inr (cc e, refl, refl))
two_last true true size n number next e = absurd (false≢true (ap is_skipped e))

by_bytes : (s : List ℕ) → get_or s 3 0 < 256 → whole_of (header_at s) ≡ whole_by_bytes s
unfolding word_at
by_bytes s b = omega arith

module _ (most : ℕ) (ring : List ℕ) (configured : ℕ) (readable : Bool) (read write output number next : ℕ)
    (byte : get_or (round_from read ring) 3 0 < 256)
    (e : found_of most ring configured readable read write output ≡ skipped number next) where
  abbrev s : List ℕ
  s = round_from read ring

  abbrev order : List (Check Found)
  order = read_order most (length ring) configured readable read write output

  abbrev more : List (Check Found)
  more = header_order most (filled_of configured read write) (header_at s)
      (next_of configured read (whole_of (header_at s)))

  abbrev end : Found
  end = packet (size_of (header_at s)) (next_of configured read (whole_of (header_at s)))

  whole : whole_of (header_at s) ≡ whole_by_bytes s
  whole = by_bytes s byte

  moved : next_of configured read (whole_of (header_at s)) ≡ (read + whole_by_bytes s) % configured
  unfolding next_of
  moved = ap (λ (n : ℕ). (read + n) % configured) whole

  pub skipped_passed : Passed ring most configured read write number next
  unfolding found_of judged
  skipped_passed =
      let h = all_hold is_skipped order _ refl (ap is_skipped e) in
      let f = sym (none_failing order _ h) ∙ e in
      let k = all_hold is_skipped (take 3 more) (first_failing (drop 3 more) end) refl (ap is_skipped f) in
      let g = sym (none_failing (take 3 more) (first_failing (drop 3 more) end) k) ∙ f in
      let last = two_last _ _ _ _ _ _ g in
      let pointers = pointers_facts configured read write h.1.1.1.0 in
      let fits = leb-true (whole_of (header_at s)) (filled_of configured read write) k.1.0 in
      let left =
      filled_taken configured read write (whole_of (header_at s)) pointers.0.below pointers.1.below fits in
      record {
        behind = last.0 ∙ moved;
        rest = omega (arith, whole, fits, left, ap (λ (n : ℕ). filled_of configured n write) last.0);
        why = last.1;
      }

-- A packet of another maker's kind (type 5) with a body of eight bytes, 12 in all: PKT_LEN 2, so 2 * 4 = 08 in byte 2.
-- If the header alone were passed over, the body would be read as the header of an MCTP packet, and a packet taken.
abbrev foreign_packet : List ℕ
foreign_packet = 0 ∷ 0 ∷ 8 ∷ 5 ∷ 0 ∷ 0 ∷ 11 ∷ 4 ∷ 1 ∷ 9 ∷ 10 ∷ 200 ∷ []

-- at byte 0, filled up to its end or further; and at byte 120, over the ring's end
abbrev at_front : List ℕ
at_front = foreign_packet ++ replicate 116 238

abbrev over_end : List ℕ
over_end = drop 8 foreign_packet ++ replicate 116 238 ++ take 8 foreign_packet

pub foreign_passed :
    found_of 64 at_front 128 true 0 12 68
    ∷ found_of 64 at_front 128 true 0 40 68
    ∷ found_of 64 over_end 128 true 120 4 68
    ∷ found_of 64 over_end 128 true 120 40 68
    ∷ []
    ≡ skipped 14 12 ∷ skipped 14 12 ∷ skipped 14 4 ∷ skipped 14 4 ∷ []
unfolding found_of judged filled_of next_of round_from word_at
foreign_passed = refl

-- each type but MCTP's own, 4, is 14, by the low four bits of byte 3 alone
pub each_type :
    map (λ (kind : ℕ). found_of 64 (0 ∷ 0 ∷ 11 ∷ kind ∷ replicate 124 238) 128 true 0 40 68)
    (0 ∷ 1 ∷ 2 ∷ 3 ∷ 4 ∷ 5 ∷ 6 ∷ 7 ∷ 8 ∷ 9 ∷ 10 ∷ 11 ∷ 12 ∷ 13 ∷ 14 ∷ 15 ∷ 0x40 ∷ 0x14 ∷ 0xF4 ∷ [])
    ≡ replicate 4 (skipped 14 12) ++ (packet 5 12 ∷ replicate 12 (skipped 14 12)) ++ (packet 5 12 ∷ packet 5 12 ∷ [])
unfolding found_of judged filled_of next_of round_from word_at
each_type = refl

-- PKT_LEN 0, 1 and 2 with each padding that it holds, of another type and then of MCTP's; 4 bytes or fewer are 3
pub each_third_byte :
    map (λ (c : ℕ). found_of 64 (0 ∷ 0 ∷ c ∷ 5 ∷ replicate 124 238) 128 true 0 40 68) (0 ∷ 4 ∷ 5 ∷ 6 ∷ 7 ∷ 8 ∷ 11 ∷ [])
    ++ map (λ (c : ℕ). found_of 64 (0 ∷ 0 ∷ c ∷ 4 ∷ replicate 124 238) 128 true 0 40 68)
    (0 ∷ 4 ∷ 5 ∷ 6 ∷ 7 ∷ 8 ∷ 11 ∷ [])
    ≡ (skipped 14 4 ∷ replicate 4 (skipped 14 8) ++ replicate 2 (skipped 14 12))
    ++ (skipped 3 4 ∷ replicate 4 (skipped 3 8) ++ (packet 8 12 ∷ packet 5 12 ∷ []))
unfolding found_of judged filled_of next_of round_from word_at
each_third_byte = refl

-- over the ring's end, from byte 120 on: a packet of 69 bytes is 3, and its 76 bytes end at 68; one of 100 bytes of
-- another type ends at 96
abbrev from_end : ℕ → ℕ → List ℕ
from_end c kind = replicate 120 238 ++ (0 ∷ 0 ∷ c ∷ kind ∷ replicate 4 238)

pub passed_over_end :
    found_of 64 (from_end 75 4) 128 true 120 68 68 ∷ found_of 64 (from_end 100 5) 128 true 120 100 68 ∷ []
    ≡ skipped 3 68 ∷ skipped 14 96 ∷ []
unfolding found_of judged filled_of next_of round_from word_at
passed_over_end = refl

-- draining passes over the whole of it, so that its body is never a packet: the next is the packet behind it
abbrev foreign_first : List ℕ
foreign_first = foreign_packet ++ (0 ∷ 0 ∷ 11 ∷ 4 ∷ 1 ∷ 9 ∷ 10 ∷ 200 ∷ 0 ∷ 0 ∷ 0 ∷ 0 ∷ replicate 104 238)

pub foreign_drained : drained 64 128 foreign_first (replicate 68 170) normal_runtime 24 128 0
    ≡ record { packets = (1 ∷ 9 ∷ 10 ∷ 200 ∷ 0 ∷ []) ∷ []; read = 24 }
unfolding state_of drained found_of judged filled_of next_of round_from fronted packet_of word_at
foreign_drained = refl

-- the law's premise is met, over the ring's end too
pub foreign_behind : Passed over_end 64 128 120 40 14 4
unfolding found_of judged filled_of next_of round_from word_at
foreign_behind = skipped_passed 64 over_end 128 true 120 40 68 14 4 (lit< tt) refl
