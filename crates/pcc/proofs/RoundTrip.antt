-- The round trip: a written region read under its id; and a good region for every packet.
-- Assumes nothing.
use mathlib.Core.Path.{◌≡◌, refl}
use mathlib.Core.Bool.{Bool, true, false}
use mathlib.Core.List.{List, ◌++◌}
use Prim.Native.Nat.{ℕ, ◌+◌, ◌-◌, ◌%◌, ◌^◌, ◌≤◌, ◌<◌, max}
use native.Mathlib.Omega.{arith}
use lib.Dec.{eqb, lit<}
use lib.ListN.{length, drop, replicate, length-append, length-drop, length-replicate}
use lib.Seq.{take-append_seam}
use Rattle.octets.specs.Bytes.{fronted}
use Rattle.octets.specs.Words.{low_first, word_at, word_bytes}
use Rattle.octets.proofs.Checks.{tests}
use Rattle.octets.proofs.Words.{word_back}
use Rattle.mctp.specs.Packet.{body_right, size_right}
use Rattle.pcc.specs.Layout.{signature_of, flags_of, length_of, command, region_of, region_for}
use Rattle.pcc.specs.Reading.{refusal_of, size_of, part_of, packet_of, notify_of}
use Rattle.pcc.specs.Writing.{write_refusal, written_of}
use Rattle.pcc.proofs.Readings.{Good, good_number, good_size}
use Rattle.pcc.proofs.Writings as writing

flags_below : (b : Bool) → flags_of b < 2 ^ 32
flags_below true = lit< tt
flags_below false = lit< tt

flags_bit : (b : Bool) → eqb (flags_of b % 2) 1 ≡ b
flags_bit true = refl
flags_bit false = refl

-- a region that starts with a packet's front
module _ (id : ℕ) (notify : Bool) (packet rest : List ℕ) where
  abbrev region : List ℕ
  region = region_of id notify packet ++ rest

  all : length region ≡ 16 + length packet + length rest
  unfolding region_of word_bytes
  all = simp length-append (omega arith)

  word_0 : id ≤ 255 → word_at low_first region 0 ≡ signature_of id
  unfolding region_of word_bytes word_at
  word_0 h = word_back low_first (signature_of id) rest (omega arith)

  word_4 : word_at low_first region 4 ≡ flags_of notify
  unfolding region_of word_bytes word_at
  word_4 = word_back low_first (flags_of notify) rest (flags_below notify)

  word_8 : length packet ≤ 250 → word_at low_first region 8 ≡ length_of (length packet)
  unfolding region_of word_bytes word_at
  word_8 h = word_back low_first (length_of (length packet)) rest (omega arith)

  word_12 : word_at low_first region 12 ≡ command
  unfolding region_of word_bytes word_at
  word_12 = refl

  part_16 : part_of region (length packet) ≡ packet
  unfolding region_of word_bytes
  part_16 = take-append_seam packet rest

  module _ (most : ℕ) (w : writing.Good most (16 + length packet + length rest) id (length packet)) where
    pub front_good : Good most region id
    front_good = omega (arith, all, word_0 w.subspace, word_12, word_8 (omega arith))

    pub front_number : refusal_of most region id ≡ 0
    front_number = good_number most region id front_good

    pub front_packet : packet_of most region id ≡ packet
    front_packet =
        let size : size_of most region id ≡ length packet =
        omega (arith, good_size most region id front_number, word_8 (omega arith)) in
        rw size part_16

    pub front_notify : notify_of most region id ≡ notify
    unfolding notify_of
    front_notify = rw (front_number, word_4) (flags_bit notify)

-- what is written reads back the same, under the same id
module _ (most : ℕ) (region : List ℕ) (id : ℕ) (notify : Bool) (packet : List ℕ)
    (allowed : write_refusal most (length region) id (length packet) ≡ 0) where
  rest : List ℕ
  rest = drop (length (region_of id notify packet)) region

  whole : written_of most region id notify packet ≡ region_of id notify packet ++ rest
  unfolding fronted rest
  whole = writing.written_whole region packet id notify most allowed

  room : writing.Good most (16 + length packet + length rest) id (length packet)
  unfolding region_of word_bytes rest
  room = let w = writing.good most (length region) id (length packet) allowed in simp length-drop (omega arith)

  pub back_number : refusal_of most (written_of most region id notify packet) id ≡ 0
  back_number = rw whole (front_number id notify packet rest most room)

  pub back_packet : packet_of most (written_of most region id notify packet) id ≡ packet
  back_packet = rw whole (front_packet id notify packet rest most room)

  pub back_notify : notify_of most (written_of most region id notify packet) id ≡ notify
  back_notify = rw whole (front_notify id notify packet rest most room)

-- "Every packet of 5 to 68 bytes has a good arrival on each path", here of the least region that holds it
module _ (most id : ℕ) (notify : Bool) (packet : List ℕ) (body : body_right most ≡ true) (subspace : id ≤ 255)
    (sized : size_right most (length packet) ≡ true) where
  abbrev zeros : List ℕ
  zeros = replicate (84 - (16 + length packet)) 0

  fitting : writing.Good most (16 + length packet + length zeros) id (length packet)
  fitting = simp length-replicate (omega (arith, tests))

  pub every_length : length (region_for id notify packet) ≡ max 84 (16 + length packet)
  unfolding region_for
  every_length = omega (arith, simp length-replicate at (all id notify packet zeros))

  pub every_number : refusal_of most (region_for id notify packet) id ≡ 0
  unfolding region_for
  every_number = front_number id notify packet zeros most fitting

  pub every_packet : packet_of most (region_for id notify packet) id ≡ packet
  unfolding region_for
  every_packet = front_packet id notify packet zeros most fitting

  pub every_notify : notify_of most (region_for id notify packet) id ≡ notify
  unfolding region_for
  every_notify = front_notify id notify packet zeros most fitting
