-- What is ignored and what is neither read nor written: flags but bit 0, and the bytes behind the packet.
-- Assumes nothing.
use mathlib.Core.Path.{◌≡◌, refl, ap, ◌∙◌}
use mathlib.Core.Bool.{Bool}
use mathlib.Core.List.{List}
use mathlib.Core.Logic.{by_cases}
use native.Mathlib.Decide.{dec_lt}
use Prim.Native.Nat.{ℕ, ◌+◌, ◌-◌, ◌%◌, ◌≤◌, ◌<◌, min}
use native.Mathlib.Omega.{arith}
use lib.ListN.{length, get_or, drop, length-take, length-drop, length-append}
use lib.Seq.{ext_get_or, get_or-take, get_or-drop, drop_at}
use Rattle.octets.specs.Bytes.{fronted}
use Rattle.octets.specs.Words.{low_first, word_at, word_bytes}
use Rattle.octets.proofs.Words.{word_same}
use Rattle.pcc.specs.Layout.{region_of}
use Rattle.pcc.specs.Reading.{refusal_of, size_of, part_of, packet_of, notify_of}
use Rattle.pcc.specs.Writing.{write_refusal, written_of}
use Rattle.pcc.proofs.Writings.{Good, good, written_whole, written_refused}

-- regions that differ only where reading does not look: "bit 0 is notify on completion .. the others are ignored in
-- reading", "bytes after the packet are neither read nor written"
pub record Alike (most id : ℕ) (a b : List ℕ) : Type 0 where
  pub lengths : length a ≡ length b
  pub signatures : (i : ℕ) → i < 4 → get_or a i 0 ≡ get_or b i 0
  pub bit_0 : get_or a 4 0 % 2 ≡ get_or b 4 0 % 2
  pub up_to_packet : (i : ℕ) → 8 ≤ i → i < 16 + size_of most a id → get_or a i 0 ≡ get_or b i 0

pub record SameAnswers (most id : ℕ) (a b : List ℕ) : Type 0 where
  pub packets : packet_of most a id ≡ packet_of most b id
  pub numbers : refusal_of most a id ≡ refusal_of most b id
  pub sizes : size_of most a id ≡ size_of most b id
  pub flags : notify_of most a id ≡ notify_of most b id

-- bit 0 of a word is bit 0 of its lowest byte
low_bit : (s : List ℕ) → word_at low_first s 4 % 2 ≡ get_or s 4 0 % 2
unfolding word_at
low_bit s = omega arith

module _ {most id : ℕ} {a b : List ℕ} (same : Alike most id a b) where
  signatures_same : word_at low_first a 0 ≡ word_at low_first b 0
  signatures_same = word_same low_first a b 0 0 (λ k h. same.signatures (0 + k) (omega arith))

  lengths_same : word_at low_first a 8 ≡ word_at low_first b 8
  lengths_same = word_same low_first a b 8 8 (λ k h. same.up_to_packet (8 + k) (omega arith) (omega arith))

  commands_same : word_at low_first a 12 ≡ word_at low_first b 12
  commands_same = word_same low_first a b 12 12 (λ k h. same.up_to_packet (12 + k) (omega arith) (omega arith))

  numbers_same : refusal_of most a id ≡ refusal_of most b id
  unfolding refusal_of
  numbers_same = rw (same.lengths, signatures_same, lengths_same, commands_same)

  sizes_same : size_of most a id ≡ size_of most b id
  unfolding size_of
  sizes_same = rw (numbers_same, lengths_same)

  flags_same : notify_of most a id ≡ notify_of most b id
  unfolding notify_of
  flags_same = rw (numbers_same, low_bit a, low_bit b, same.bit_0)

  abbrev size : ℕ
  size = size_of most a id

  packets_same : packet_of most a id ≡ packet_of most b id
  packets_same =
      ext_get_or 0 (part_of a size) (part_of b size)
      (simp (length-take, length-drop) (ap (λ (n : ℕ). min size (n - 16)) same.lengths))
      (λ i h.
      let k : i < size = omega (arith, simp length-take at h) in
      rw (
        get_or-take size (drop 16 a) i 0 k,
        get_or-take size
            (drop 16 b) i 0 k,
        get_or-drop 16 a i 0,
        get_or-drop 16 b i 0,
      )
      (same.up_to_packet (16 + i) (omega arith) (omega arith)))
      ∙ ap (part_of b) sizes_same

  -- two regions that differ only there give the same answers
  pub ignored : SameAnswers most id a b
  ignored = record { packets = packets_same; numbers = numbers_same; sizes = sizes_same; flags = flags_same }

module _ (most id : ℕ) (a b : List ℕ) (lengths : length a ≡ length b) where
  -- "the others are ignored in reading"
  pub flags_ignored :
      ((i : ℕ) → i < 4 → get_or a i 0 ≡ get_or b i 0)
      → get_or a 4 0 % 2 ≡ get_or b 4 0 % 2
      → ((i : ℕ) → 8 ≤ i → get_or a i 0 ≡ get_or b i 0)
      → SameAnswers most id a b
  flags_ignored front bit behind =
      ignored (record { lengths = lengths; signatures = front; bit_0 = bit; up_to_packet = λ i h k. behind i h })

  -- "bytes after the packet are neither read .."
  pub behind_not_read : ((i : ℕ) → i < 16 + size_of most a id → get_or a i 0 ≡ get_or b i 0) → SameAnswers most id a b
  behind_not_read front =
      ignored
      (record {
        lengths = lengths;
        signatures = λ i h. front i (omega arith);
        bit_0 = ap (λ (n : ℕ). n % 2) (front 4 (omega arith));
        up_to_packet = λ i h k. front i k;
      })

-- ".. nor written", refused or not
module _ (most : ℕ) (region : List ℕ) (id : ℕ) (notify : Bool) (packet : List ℕ) where
  abbrev number : ℕ
  number = write_refusal most (length region) id (length packet)

  abbrev front : List ℕ
  front = region_of id notify packet

  either : (P : List ℕ → Type 0) → P region
      → (Good most (length region) id (length packet) → P (fronted region front))
      → P (written_of most region id notify packet)
  either P kept whole =
      by_cases (dec_lt 0 number)
      (λ (h : 0 < number). rw (written_refused region packet id notify most (omega arith)) kept)
      (λ (h : 0 < number → ⊥).
      let e : number ≡ 0 = omega arith in
      rw (written_whole region packet id notify most e) (whole (good most (length region) id (length packet) e)))

  front_size : length front ≡ 16 + length packet
  unfolding region_of word_bytes
  front_size = omega arith

  pub behind_not_written : drop (16 + length packet) (written_of most region id notify packet)
      ≡ drop (16 + length packet) region
  unfolding fronted
  behind_not_written =
      either (λ r. drop (16 + length packet) r ≡ drop (16 + length packet) region) refl
      (λ w.
      drop_at front (drop (length front) region) (16 + length packet) front_size
      ∙ ap (λ (n : ℕ). drop n region) front_size)

  pub length_stays : length (written_of most region id notify packet) ≡ length region
  unfolding fronted
  length_stays =
      either (λ r. length r ≡ length region) refl
      (λ w. let n = front_size in simp (length-append, length-drop) (omega arith))
