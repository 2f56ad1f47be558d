-- A region written out from the tables (document 01, "PCC region"; DSP0292, Figure 3), written and read by
-- computation, so that reading and writing are not only right by each other.
-- Assumes nothing.
use mathlib.Core.Path.{◌≡◌, refl}
use mathlib.Core.Bool.{true, false}
use mathlib.Core.List.{List, [], ◌∷◌}
use Prim.Native.Nat.{ℕ}
use lib.ListN.{replicate, take}
use Rattle.octets.specs.Bytes.{laid, fronted}
use Rattle.octets.specs.Words.{low_first, word_at, word_bytes}
use Rattle.pcc.specs.Layout.{region_of}
use Rattle.pcc.specs.Reading.{refusal_of, size_of, packet_of, notify_of}
use Rattle.pcc.specs.Writing.{write_refusal, written_of}

-- the packet of document 01's good frame
abbrev pub literal_packet : List ℕ
literal_packet = 0x01 ∷ 0x09 ∷ 0x0A ∷ 0xC8 ∷ 0x00 ∷ []

-- for id 3 with notify, in a region of 84 bytes whose other bytes are all set
unfoldable pub literal_region : List ℕ
literal_region =
    0x03 ∷ 0x43 ∷ 0x43 ∷ 0x50
    ∷ 0x01 ∷ 0x00 ∷ 0x00 ∷ 0x00
    ∷ 0x09 ∷ 0x00 ∷ 0x00 ∷ 0x00
    ∷ 0x4D ∷ 0x43 ∷ 0x54 ∷ 0x50
    ∷ 0x01 ∷ 0x09 ∷ 0x0A ∷ 0xC8 ∷ 0x00
    ∷ replicate 63 0xFF

-- the same with another length
unfoldable pub lengthened : ℕ → List ℕ
lengthened n = laid literal_region 8 (word_bytes low_first n)

pub literal_number : refusal_of 64 literal_region 3 ≡ 0
unfolding refusal_of word_at literal_region
literal_number = refl

pub literal_packet_lem : packet_of 64 literal_region 3 ≡ literal_packet
unfolding size_of refusal_of word_at literal_region
literal_packet_lem = refl

pub literal_notify : notify_of 64 literal_region 3 ≡ true
unfolding notify_of refusal_of word_at literal_region
literal_notify = refl

pub literal_written : written_of 64 (replicate 84 0xFF) 3 true literal_packet ≡ literal_region
unfolding written_of write_refusal fronted region_of word_bytes literal_region
literal_written = refl

-- and without notify: "the others are .. 0 in writing"
pub literal_quiet : written_of 64 (replicate 84 0xFF) 3 false literal_packet ≡ laid literal_region 4 (0x00 ∷ [])
unfolding laid written_of write_refusal fronted region_of word_bytes literal_region
literal_quiet = refl

-- "lengths 8, 9, 72, 73 in PCC"
pub length_8 : refusal_of 64 (lengthened 8) 3 ≡ 3
unfolding laid refusal_of word_at word_bytes literal_region lengthened
length_8 = refl

pub length_9 : refusal_of 64 (lengthened 9) 3 ≡ 0
unfolding laid refusal_of word_at word_bytes literal_region lengthened
length_9 = refl

pub length_72 : refusal_of 64 (lengthened 72) 3 ≡ 0
unfolding laid refusal_of word_at word_bytes literal_region lengthened
length_72 = refl

pub length_73 : refusal_of 64 (lengthened 73) 3 ≡ 3
unfolding laid refusal_of word_at word_bytes literal_region lengthened
length_73 = refl

-- "region under 84"
pub region_83 : refusal_of 64 (take 83 literal_region) 3 ≡ 2
unfolding refusal_of literal_region
region_83 = refl

-- the limits of the other checks: "id over 255", and a packet's size
pub record Limits : Type 0 where
  pub read_255 : refusal_of 64 (laid literal_region 0 (0xFF ∷ [])) 255 ≡ 0
  pub write_255 : write_refusal 64 84 255 5 ≡ 0
  pub packet_68 : write_refusal 64 84 3 68 ≡ 0
  pub packet_69 : write_refusal 64 85 3 69 ≡ 3

pub limits : Limits
unfolding laid refusal_of write_refusal word_at literal_region
limits = record { read_255 = refl; write_255 = refl; packet_68 = refl; packet_69 = refl }
