-- The layout: of a packet of bytes it holds bytes; and what is good is what it makes: a good region's front is the
-- layout of its own packet, with its own flags.
-- Assumes nothing.
use mathlib.Core.Path.{◌≡◌, refl, ap, sym, ◌∙◌}
use mathlib.Core.Bool.{Bool}
use mathlib.Core.List.{List, ◌++◌}
use Prim.Native.Nat.{ℕ, ◌+◌, ◌-◌, ◌≤◌}
use native.Mathlib.Omega.{arith}
use lib.ListN.{length, take, drop, replicate}
use lib.Seq.{take-add, drop-drop}
use Rattle.octets.specs.Bytes.{Below}
use Rattle.octets.specs.Words.{low_first, word_at, word_bytes}
use Rattle.octets.proofs.Below.{below-append, below_word, below_zeros}
use Rattle.octets.proofs.Words.{bytes_back}
use Rattle.pcc.specs.Layout.{signature_of, flags_of, length_of, command, region_with, region_of, region_for}
use Rattle.pcc.specs.Reading.{refusal_of, size_of, packet_of}
use Rattle.pcc.proofs.Readings.{Good, good, good_size, packet-length}

-- a word, and what stands behind it
word_before : (w : ℕ) (s : List ℕ) → Below 256 s → Below 256 (word_bytes low_first w ++ s)
word_before w s h = below-append (word_bytes low_first w) s (below_word low_first w) h

pub front_bytes : (id : ℕ) (notify : Bool) (packet : List ℕ) → Below 256 packet → Below 256 (region_of id notify packet)
unfolding region_of
front_bytes id notify packet h =
    let from-12 = word_bytes low_first command ++ packet in
    let from-8 = word_bytes low_first (length_of (length packet)) ++ from-12 in
    let from-4 = word_bytes low_first (flags_of notify) ++ from-8 in
    word_before (signature_of id) from-4
    (word_before (flags_of notify) from-8
    (word_before (length_of (length packet)) from-12 (word_before command packet h)))

pub every_bytes : (id : ℕ) (notify : Bool) (packet : List ℕ) → Below 256 packet
    → Below 256 (region_for id notify packet)
unfolding region_for
every_bytes id notify packet h =
    let rest = 84 - (16 + length packet) in
    below-append (region_of id notify packet) (replicate rest 0) (front_bytes id notify packet h) (below_zeros rest)

-- four bytes, and then what stands behind them
four_first : (s : List ℕ) (at n : ℕ) → take (4 + n) (drop at s) ≡ take 4 (drop at s) ++ take n (drop (at + 4) s)
four_first s at n = take-add 4 n (drop at s) ∙ ap (λ (l : List ℕ). take 4 (drop at s) ++ take n l) (drop-drop 4 at s)

-- four words, and then the packet
front : (s : List ℕ) (n : ℕ) → take (16 + n) s
    ≡ take 4 s ++ (take 4 (drop 4 s) ++ (take 4 (drop 8 s) ++ (take 4 (drop 12 s) ++ take n (drop 16 s))))
front s n =
    let fours : 16 + n ≡ 4 + (4 + (4 + (4 + n))) = omega arith in
    ap (λ (k : ℕ). take k s) fours
    ∙ four_first s 0 (4 + (4 + (4 + n)))
    ∙ ap (λ (l : List ℕ). take 4 s ++ l)
    (four_first s 4 (4 + (4 + n))
    ∙ ap (λ (l : List ℕ). take 4 (drop 4 s) ++ l)
    (four_first s 8 (4 + n) ∙ ap (λ (l : List ℕ). take 4 (drop 8 s) ++ l) (four_first s 12 n)))

module _ (most : ℕ) (region : List ℕ) (id : ℕ) (b : Below 256 region) (e : refusal_of most region id ≡ 0) where
  g : Good most region id
  g = good most region id e

  abbrev packet : List ℕ
  packet = packet_of most region id

  -- the packet has as many bytes as the length word says
  counted : 4 + length packet ≡ word_at low_first region 8
  counted = omega (arith, packet-length most region id e, g.short)

  word : (at w : ℕ) → at + 4 ≤ 84 → word_at low_first region at ≡ w → take 4 (drop at region) ≡ word_bytes low_first w
  word at w h is = bytes_back low_first region at b (omega (arith, g.room)) ∙ ap (word_bytes low_first) is

  part : take (length packet) (drop 16 region) ≡ packet
  part =
      let same : length packet ≡ size_of most region id = omega (arith, counted, good_size most region id e) in
      ap (λ (n : ℕ). take n (drop 16 region)) same

  pub good_front : take (16 + length packet) region ≡ region_with id (word_at low_first region 4) packet
  good_front =
      let signed = word 0 (signature_of id) (omega arith) g.signed in
      let flagged = word 4 (word_at low_first region 4) (omega arith) refl in
      let lengthed = word 8 (length_of (length packet)) (omega arith) (sym counted) in
      let commanded = word 12 command (omega arith) g.commanded in
      front region (length packet)
      ∙ (λ i. signed i ++ (flagged i ++ (lengthed i ++ (commanded i ++ part i))))
