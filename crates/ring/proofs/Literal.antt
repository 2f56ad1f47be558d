-- Images written out from Table 6 of 003, against the definitions: writer and reader can't be wrong alike.
-- Assumes nothing.
use mathlib.Core.Path.{◌≡◌, refl}
use mathlib.Core.Bool.{true}
use mathlib.Core.List.{List, [], ◌∷◌, ◌++◌, map}
use Prim.Native.Nat.{ℕ}
use lib.ListN.{replicate}
use Rattle.octets.specs.Bytes.{fronted}
use Rattle.octets.specs.Words.{word_at, word_bytes}
use Rattle.mmbi.specs.declared.interface.Flags.{Flags}
use Rattle.mmbi.specs.Interface.{flags_of, normal_runtime, asked_by_host, asked_by_controller, state_of}
use Rattle.mmbi.specs.Interface.{may_read, may_write}
use Rattle.mmbi.proofs.States.{sixteen}
use Rattle.ring.specs.Numbers.{filled_of, room_of, next_of}
use Rattle.ring.specs.Layout.{packet_of, header_for, ring_bytes}
use Rattle.ring.specs.Reading as reading
use Rattle.ring.specs.Runs.{Kept, wrote, write_all, queued, read_all, drained}
use Rattle.ring.specs.Round.{round_from, stored}
use Rattle.ring.specs.Writing as writing

-- the packet 01 09 0A C8 00
abbrev pub packet : List ℕ
packet = 1 ∷ 9 ∷ 10 ∷ 200 ∷ 0 ∷ []

-- its image: 12 bytes are PKT_LEN 2, three of them padding, so 2 * 4 + 3 = 0B in byte 2, and MCTP's type in byte 3
abbrev pub image : List ℕ
image = 0 ∷ 0 ∷ 11 ∷ 4 ∷ 1 ∷ 9 ∷ 10 ∷ 200 ∷ 0 ∷ 0 ∷ 0 ∷ 0 ∷ []

pub image_bytes : ring_bytes packet ≡ image
unfolding ring_bytes header_for word_bytes
image_bytes = refl

-- a ring of 128 bytes EE with the image from byte 120 on, over the end
abbrev pub written : List ℕ
written = 0 ∷ 0 ∷ 0 ∷ 0 ∷ replicate 116 238 ++ (0 ∷ 0 ∷ 11 ∷ 4 ∷ 1 ∷ 9 ∷ 10 ∷ 200 ∷ [])

pub image_written : (writing.entered_of 64 128 128 true 120 120 5 ≡ writing.entered 4)
    × (writing.written_of 64 (replicate 128 238) 128 true 120 120 packet ≡ written)
unfolding writing.entered_of filled_of room_of next_of round_from stored fronted ring_bytes header_for word_bytes
image_written = (refl, refl)

pub image_read : (reading.found_of 64 written 128 true 120 4 68 ≡ reading.packet 5 4)
    × (reading.output_of 64 written 128 true 120 4 (replicate 68 170) ≡ packet ++ replicate 63 170)
unfolding reading.found_of reading.judged filled_of next_of round_from fronted packet_of word_at
image_read = (refl, refl)

-- the same packet of another maker: reserved bits set (F4), padding AA BB CC
abbrev foreign : List ℕ
foreign = 0 ∷ 0 ∷ 11 ∷ 244 ∷ 1 ∷ 9 ∷ 10 ∷ 200 ∷ 0 ∷ 170 ∷ 187 ∷ 204 ∷ replicate 116 238

pub foreign_read : (reading.found_of 64 foreign 128 true 0 12 68 ≡ reading.packet 5 12)
    × (reading.output_of 64 foreign 128 true 0 12 (replicate 68 170) ≡ packet ++ replicate 63 170)
unfolding reading.found_of reading.judged filled_of next_of round_from fronted packet_of word_at
foreign_read = (refl, refl)

-- PKT_LEN 0 is the header alone: with no padding 3 or 14, and the pointer moves on by four; with padding that it can't
-- hold, 13
pub header_alone : reading.found_of 64 (0 ∷ 0 ∷ 0 ∷ 4 ∷ replicate 124 238) 128 true 0 12 68 ≡ reading.skipped 3 4
unfolding reading.found_of reading.judged filled_of next_of round_from word_at
header_alone = refl

pub other_alone : reading.found_of 64 (0 ∷ 0 ∷ 0 ∷ 5 ∷ replicate 124 238) 128 true 0 12 68 ≡ reading.skipped 14 4
unfolding reading.found_of reading.judged filled_of next_of round_from word_at
other_alone = refl

pub padding_alone : reading.found_of 64 (0 ∷ 0 ∷ 1 ∷ 4 ∷ replicate 124 238) 128 true 0 12 68 ≡ reading.refused 13
unfolding reading.found_of reading.judged filled_of next_of round_from word_at
padding_alone = refl

-- in each of the sixteen flag states, from 0000 to 1111: read in 1010, 1011 and 1110, written in 1010
pub read_by_state :
    map (λ (f : Flags). reading.found_of 64 written 128 (may_read (state_of f)) 120 4 68) sixteen
    ≡ replicate 10 (reading.refused 11)
    ++ (reading.packet 5 4
    ∷ reading.packet 5 4
    ∷ reading.refused 11
    ∷ reading.refused 11
    ∷ reading.packet 5 4
    ∷ reading.refused 11
    ∷ [])
unfolding state_of reading.found_of reading.judged filled_of next_of round_from word_at
read_by_state = refl

pub written_by_state :
    map (λ (f : Flags). writing.entered_of 64 128 128 (may_write (state_of f)) 120 4 5) sixteen
    ≡ replicate 10 (writing.refused 11) ++ (writing.entered 16 ∷ replicate 5 (writing.refused 11))
unfolding state_of writing.entered_of filled_of room_of next_of
written_by_state = refl

-- three packets queued in a ring of bytes EE from byte 100 on, the third over the end
abbrev small : ℕ → List ℕ
small n = 1 ∷ 9 ∷ 10 ∷ 200 ∷ n ∷ []

abbrev small_image : ℕ → List ℕ
small_image n = 0 ∷ 0 ∷ 11 ∷ 4 ∷ 1 ∷ 9 ∷ 10 ∷ 200 ∷ n ∷ 0 ∷ 0 ∷ 0 ∷ []

abbrev pub three : List (List ℕ)
three = small 1 ∷ small 2 ∷ small 3 ∷ []

abbrev pub three_kept : Kept
three_kept =
    record {
      ring =
          1 ∷ 9 ∷ 10 ∷ 200 ∷ 3 ∷ 0 ∷ 0 ∷ 0 ∷ replicate 92 238
          ++ (small_image 1 ++ (small_image 2 ++ (0 ∷ 0 ∷ 11 ∷ 4 ∷ [])));
      write = 8;
    }

pub three_queued : queued 64 128 (replicate 128 238) 100 three ≡ three_kept
unfolding state_of write_all wrote writing.entered_of filled_of room_of next_of round_from stored fronted ring_bytes
    header_for
    word_bytes
three_queued = refl

-- read back while the host asks for a reset, and while the controller does; one in normal runtime, one while the host
-- asks, and none once the reset is acknowledged (1111)
pub three_read :
    map (λ (states : List Flags). read_all 64 128 three_kept.ring (replicate 68 170) 8 states 100)
    (replicate 3 asked_by_host
    ∷ replicate 3 asked_by_controller
    ∷ (normal_runtime ∷ asked_by_host ∷ flags_of true true true true ∷ [])
    ∷ [])
    ≡ three ∷ three ∷ (small 1 ∷ small 2 ∷ []) ∷ []
unfolding state_of read_all reading.found_of reading.judged filled_of next_of round_from fronted packet_of word_at
three_read = refl

-- a fourth that comes then isn't written
pub three_stay :
    map (λ (f : Flags). write_all 64 128 f 100 three_kept (small 4 ∷ [])) (asked_by_host ∷ asked_by_controller ∷ [])
    ≡ three_kept ∷ three_kept ∷ []
unfolding state_of write_all wrote writing.entered_of
three_stay = refl

-- a packet of another kind (type 5, a header alone) before one of MCTP, in a ring of bytes EE: draining passes over it,
-- and stops where nothing more is filled; in 1111 it takes nothing
abbrev mixed : List ℕ
mixed = 0 ∷ 0 ∷ 0 ∷ 5 ∷ 0 ∷ 0 ∷ 11 ∷ 4 ∷ 1 ∷ 9 ∷ 10 ∷ 200 ∷ 0 ∷ 0 ∷ 0 ∷ 0 ∷ replicate 112 238

pub mixed_drained :
    map (λ (flags : Flags). drained 64 128 mixed (replicate 68 170) flags 16 128 0)
    (normal_runtime ∷ flags_of true true true true ∷ [])
    ≡ record { packets = packet ∷ []; read = 16 } ∷ record { packets = []; read = 0 } ∷ []
unfolding state_of drained reading.found_of reading.judged filled_of next_of round_from fronted packet_of word_at
mixed_drained = refl
