-- What is good is what the layout makes: a packet taken out of a ring stands there as Table 6 has it.
-- Assumes nothing.
use mathlib.Core.Path.{◌≡◌, ap, sym, subst, ◌∙◌}
use mathlib.Core.Bool.{Bool}
use mathlib.Core.List.{List, ◌++◌}
use Prim.Native.Nat.{ℕ, ◌+◌, ◌-◌, ◌*◌, ◌/◌, ◌%◌, ◌≤◌, ◌<◌}
use native.Mathlib.Omega.{arith}
use lib.ListN.{length, take, drop, length-take, length-drop}
use lib.Seq.{take-add, drop-drop}
use Rattle.octets.specs.Bytes.{Below}
use Rattle.octets.specs.Words.{high_first, word_bytes}
use Rattle.octets.proofs.Below.{below-append, below-take, below-drop}
use Rattle.octets.proofs.Words.{bytes_back}
use Rattle.ring.specs.Numbers.{next_of}
use Rattle.ring.specs.Layout.{header_at, length_field, padding_field, type_field, whole_of, size_of, packet_of}
use Rattle.ring.specs.Layout.{padding_for, whole_for, header_for, ring_with, RingLayout}
use Rattle.ring.specs.Reading.{packet, found_of}
use Rattle.ring.specs.Round.{round_from}
use Rattle.ring.proofs.Numbers.{filled_below}
use Rattle.ring.proofs.Readings.{Good, good}
use Rattle.ring.proofs.Rounds.{round-length}

pub round_bytes : (n : ℕ) (s : List ℕ) → Below 256 s → Below 256 (round_from n s)
unfolding round_from
round_bytes n s b = below-append (drop n s) (take n s) (below-drop n s b) (below-take n s b)

-- a number by the four fields of a header
by_fields : (header : ℕ) → header
    ≡ header / 1024 * 1024 + header / 256 % 4 * 256 + header % 16 + 16 * (header / 16 % 16)
by_fields header = omega arith

-- a header that says MCTP's type, and more than its padding, is that of a packet of its size, but for what is reserved
module _ (header : ℕ) (ours : type_field header ≡ 4) (counted : 4 + padding_field header ≤ whole_of header) where
  padding_is : padding_field header ≡ padding_for (size_of header)
  padding_is = omega arith

  whole_is : whole_of header ≡ whole_for (size_of header)
  whole_is = omega (arith, padding_is)

  length_is : length_field header ≡ whole_for (size_of header) / 4 - 1
  length_is = omega (arith, whole_is)

  header_is : header ≡ header_for (size_of header) + 16 * (header / 16 % 16)
  unfolding header_for
  header_is = by_fields header ∙ (λ i. length_is i * 1024 + padding_is i * 256 + ours i + 16 * (header / 16 % 16))

-- the whole packet: header, packet, padding
parts : (s : List ℕ) (n k : ℕ) → take (4 + n + k) s ≡ take 4 s ++ (take n (drop 4 s) ++ take k (drop (4 + n) s))
parts s n k =
    let groups : 4 + n + k ≡ 4 + (n + k) = omega arith in
    ap (λ (j : ℕ). take j s) groups
    ∙ take-add 4 (n + k) s
    ∙ ap (λ (l : List ℕ). take 4 s ++ l)
    (take-add n k (drop 4 s) ∙ ap (λ (l : List ℕ). take n (drop 4 s) ++ take k l) (drop-drop n 4 s))

-- so many bytes behind the packet, where they lie in the list
held : (s : List ℕ) (n k : ℕ) → 4 + n + k < length s → length (take k (drop (4 + n) s)) ≡ k
held s n k h = simp (length-take, length-drop) (omega arith)

module _ (most : ℕ) (ring : List ℕ) (configured : ℕ) (readable : Bool) (read write output size next : ℕ)
    (b : Below 256 ring) (e : found_of most ring configured readable read write output ≡ packet size next) where
  abbrev s : List ℕ
  s = round_from read ring

  g : Good most ring configured readable read write output size next
  g = good most ring configured readable read write output size next e

  -- all of it lies in the ring
  lies : whole_of (header_at s) < length s
  lies =
      omega (
        arith,
        g.held,
        round-length read ring,
        g.set_up.same,
        filled_below configured read write
            g.from.below g.to.below,
      )

  taken-length : length (packet_of s) ≡ size_of (header_at s)
  unfolding packet_of
  taken-length = simp (length-take, length-drop) (omega (arith, lies, g.counted))

  taken_whole : take (whole_for (length (packet_of s))) s
      ≡ ring_with (header_at s / 16 % 16) (packet_of s)
      (take (padding_for (length (packet_of s))) (drop (4 + length (packet_of s)) s))
  unfolding packet_of
  taken_whole =
      let reserved = header_at s / 16 % 16 in
      let n = length (packet_of s) in
      let head : take 4 s ≡ word_bytes high_first (header_for n + 16 * reserved) =
      bytes_back high_first s 0 (round_bytes read ring b) (omega (arith, lies, g.counted))
      ∙ ap (word_bytes high_first)
      (header_is (header_at s) g.ours g.counted
      ∙ ap (λ (k : ℕ). header_for k + 16 * reserved) (sym taken-length)) in
      let body : take n (drop 4 s) ≡ packet_of s = ap (λ (k : ℕ). take k (drop 4 s)) taken-length in
      parts s n (padding_for n) ∙ (λ i. head i ++ (body i ++ take (padding_for n) (drop (4 + n) s)))

  -- and the padding is as long as it is said
  taken_padding : length (take (padding_for (length (packet_of s))) (drop (4 + length (packet_of s)) s))
      ≡ padding_for (length (packet_of s))
  taken_padding =
      let n = length (packet_of s) in
      let whole : whole_for n ≡ whole_of (header_at s) =
      ap whole_for taken-length ∙ sym (whole_is (header_at s) g.ours g.counted) in
      held s n (padding_for n) (subst (λ (k : ℕ). k < length s) (sym whole) lies)

  whole : whole_of (header_at s) ≡ whole_for size
  whole = whole_is (header_at s) g.ours g.counted ∙ ap whole_for (sym g.sized)

  pub ring_layout : RingLayout s (packet_of s) × (length (packet_of s) ≡ size)
      × (next ≡ next_of configured read (whole_for size))
  ring_layout = (
    record {
      reserved = header_at s / 16 % 16;
      padding = take (padding_for (length (packet_of s))) (drop (4 + length (packet_of s)) s);
      four_bits = omega arith;
      padded = taken_padding;
      laid_out = taken_whole;
    },
    taken-length ∙ sym g.sized,
    g.on ∙ ap (next_of configured read) whole,
  )
