-- Headers: one stands in one run wherever a pointer may point, says what it was written for, and written bytes read
-- back.
-- Assumes nothing.
use mathlib.Core.Path.{◌≡◌, refl, ap, sym, ◌∙◌}
use mathlib.Core.List.{List, ◌++◌, append_assoc}
use Prim.Native.Nat.{ℕ, ◌+◌, ◌-◌, ◌*◌, ◌/◌, ◌%◌, ◌^◌, ◌≤◌, ◌<◌}
use native.Mathlib.Nat.{zero-add}
use native.Mathlib.Omega.{arith}
use lib.ListN.{length, take, drop, replicate, length-append, length-drop, length-replicate, get_or-append}
use lib.Seq.{get_or-drop, take_at, drop_at}
use Rattle.octets.specs.Words.{high_first, word_at, word_bytes}
use Rattle.octets.proofs.Words.{word-length, word_same, word_back}
use Rattle.ring.specs.Layout.{header_at, padding_field, type_field, mctp_type, whole_of, size_of, packet_of}
use Rattle.ring.specs.Layout.{padding_for}
use Rattle.ring.specs.Layout.{whole_for, header_for, ring_bytes}
use Rattle.ring.specs.Round.{round_from}

-- a header's four bytes don't run over the ring's end
pub header_straight : (ring : List ℕ) (p : ℕ) → p + 4 ≤ length ring
    → word_at high_first ring p ≡ header_at (round_from p ring)
unfolding round_from
header_straight ring p h =
    word_same high_first ring (round_from p ring) p 0
    (λ (k : ℕ) (below : k < 4).
    rw (zero-add k)
    (sym
    (get_or-append (drop p ring) (take p ring) 0 k (omega (arith, length-drop p ring))
    ∙ get_or-drop p ring k 0)))

-- the fields of a header that was put together
fields : (k pad : ℕ) → pad < 4
    → ((k * 1024 + pad * 256 + 4) / 1024 ≡ k) × ((k * 1024 + pad * 256 + 4) / 256 % 4 ≡ pad)
    × ((k * 1024 + pad * 256 + 4) % 16 ≡ 4)
fields k pad h = (omega arith, omega arith, omega arith)

-- a written header says what it was written for
module _ (n : ℕ) where
  pub header_padding : padding_field (header_for n) ≡ padding_for n
  unfolding header_for
  header_padding = (fields (whole_for n / 4 - 1) (padding_for n) (omega arith)).1

  pub header_type : type_field (header_for n) ≡ mctp_type
  unfolding header_for
  header_type = (fields (whole_for n / 4 - 1) (padding_for n) (omega arith)).2

  pub header_whole : whole_of (header_for n) ≡ whole_for n
  unfolding header_for
  header_whole = ap (λ (k : ℕ). (k + 1) * 4) (fields (whole_for n / 4 - 1) (padding_for n) (omega arith)).0
      ∙ omega arith

  pub header_size : size_of (header_for n) ≡ n
  header_size = omega (arith, header_whole, header_padding)

  -- and has 32 bits, for any packet that a carrier takes
  pub header_fits : n ≤ 250 → header_for n < 2 ^ 32
  unfolding header_for
  header_fits h = omega arith

-- written bytes read back, whatever stands behind them
module _ (packet : List ℕ) where
  abbrev word : List ℕ
  word = word_bytes high_first (header_for (length packet))

  abbrev padding : List ℕ
  padding = replicate (padding_for (length packet)) 0

  module _ (rest : List ℕ) where
    bytes_split : ring_bytes packet ++ rest ≡ word ++ (packet ++ (padding ++ rest))
    unfolding ring_bytes
    bytes_split =
        append_assoc word (packet ++ padding) rest
        ∙ ap (λ (s : List ℕ). word ++ s) (append_assoc packet padding rest)

    pub header_back : length packet ≤ 250 → header_at (ring_bytes packet ++ rest) ≡ header_for (length packet)
    header_back h =
        ap header_at bytes_split
        ∙ word_back high_first (header_for (length packet)) (packet ++ (padding ++ rest))
        (header_fits (length packet) h)

    pub packet_back : length packet ≤ 250 → packet_of (ring_bytes packet ++ rest) ≡ packet
    unfolding packet_of
    packet_back h =
        ap (λ (n : ℕ). take n (drop 4 (ring_bytes packet ++ rest)))
        (ap size_of (header_back h) ∙ header_size (length packet))
        ∙ ap (λ (s : List ℕ). take (length packet) (drop 4 s)) bytes_split
        ∙ ap (take (length packet))
        (drop_at word (packet ++ (padding ++ rest)) 4 (word-length high_first (header_for (length packet))))
        ∙ take_at packet (padding ++ rest) (length packet) refl

  pub bytes-length : length (ring_bytes packet) ≡ whole_for (length packet)
  unfolding ring_bytes
  bytes-length =
      length-append word (packet ++ padding)
      ∙ omega (
        arith,
        word-length high_first (header_for (length packet)),
        length-append packet padding,
        length-replicate {A = ℕ} (padding_for (length packet)) 0,
      )
