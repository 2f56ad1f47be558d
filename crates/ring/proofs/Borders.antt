-- Each number on both sides of its check's border, and what is left where there is one: a list of inputs, and what each
-- gives, since a definition and its code could be wrong alike.
-- Assumes nothing.
use mathlib.Core.Path.{◌≡◌, refl}
use mathlib.Core.Bool.{true, false}
use mathlib.Core.List.{List, [], ◌∷◌, ◌++◌, map}
use Prim.Native.Nat.{ℕ}
use lib.ListN.{replicate}
use Rattle.octets.specs.Bytes.{fronted}
use Rattle.octets.specs.Words.{word_at}
use Rattle.mctp.specs.declared.refusal.Refusal.TheVariants.{BadPacket, OtherKind, Size, Room}
use Rattle.std.specs.Prelude.{Ok, Err}
use Rattle.ring.specs.declared.reading.Found.TheVariants.{Packet, Empty, Skipped}
use Rattle.ring.specs.Answers.{found_in, entered_in}
use Rattle.ring.specs.Numbers.{filled_of, room_of, next_of}
use Rattle.ring.specs.Layout.{packet_of}
use Rattle.ring.specs.Reading as reading
use Rattle.ring.specs.Round.{round_from}
use Rattle.ring.specs.Writing as writing

-- a ring that starts with a packet of 5, in 12 bytes, and then has n more
abbrev packed : ℕ → List ℕ
packed n = 0 ∷ 0 ∷ 11 ∷ 4 ∷ 1 ∷ 9 ∷ 10 ∷ 200 ∷ 0 ∷ 0 ∷ 0 ∷ 0 ∷ replicate n 238

abbrev got : reading.Found
got = reading.packet 5 12

-- "1 (length outside the rule, or not that of the lent ring)": 124, 127, 129, 132 and 256 bytes lent for 128; 124, 130
-- and 65,540 bytes lent and configured; a largest body of 63 and of 247
pub read_lent : map (λ (n : ℕ). reading.found_of 64 (packed n) 128 true 0 12 68) (112 ∷ 115 ∷ 116 ∷ 117 ∷ 120 ∷ 244
    ∷ [])
    ≡ reading.refused 1 ∷ reading.refused 1 ∷ got ∷ replicate 3 (reading.refused 1)
unfolding reading.found_of reading.judged filled_of next_of round_from word_at
read_lent = refl

pub read_lengths :
    reading.found_of 64 (packed 112) 124 true 0 12 68
    ∷ reading.found_of 64 (packed 118) 130 true 0 12 68
    ∷ reading.found_of 64 (packed 120) 132 true 0 12 68
    ∷ reading.found_of 64 (packed 65524) 65536 true 0 12 68
    ∷ reading.found_of 64 (packed 65528) 65540 true 0 12 68
    ∷ []
    ≡ reading.refused 1 ∷ reading.refused 1 ∷ got ∷ got ∷ reading.refused 1 ∷ []
unfolding reading.found_of reading.judged filled_of next_of round_from word_at
read_lengths = refl

pub read_mosts : map (λ (most : ℕ). reading.found_of most (packed 116) 128 true 0 12 300) (63 ∷ 64 ∷ 246 ∷ 247 ∷ [])
    ≡ reading.refused 1 ∷ got ∷ got ∷ reading.refused 1 ∷ []
unfolding reading.found_of reading.judged filled_of next_of round_from word_at
read_mosts = refl

-- "2 (output under 68)", and under 250 where the largest body is 246
pub read_outputs :
    map (reading.found_of 64 (packed 116) 128 true 0 12) (0 ∷ 67 ∷ 68 ∷ 69 ∷ [])
    ++ map (reading.found_of 246 (packed 116) 128 true 0 12) (68 ∷ 249 ∷ 250 ∷ [])
    ≡ (reading.refused 2 ∷ reading.refused 2 ∷ got ∷ got ∷ []) ++ (reading.refused 2 ∷ reading.refused 2 ∷ got ∷ [])
unfolding reading.found_of reading.judged filled_of next_of round_from word_at
read_outputs = refl

-- "12 (either pointer not a multiple of 4, or not below the length)": first the read pointer, then the write pointer
pub read_pointers :
    map (λ (read : ℕ). reading.found_of 64 (packed 116) 128 true read 16 68)
    (0 ∷ 1 ∷ 2 ∷ 3 ∷ 13 ∷ 14 ∷ 15 ∷ 127 ∷ 128 ∷ 132 ∷ 256 ∷ [])
    ++ map (λ (write : ℕ). reading.found_of 64 (packed 116) 128 true 0 write 68)
    (12 ∷ 13 ∷ 14 ∷ 15 ∷ 16 ∷ 124 ∷ 125 ∷ 126 ∷ 127 ∷ 128 ∷ 132 ∷ 140 ∷ [])
    ≡ (got ∷ replicate 10 (reading.refused 12))
    ++ (got ∷ replicate 3 (reading.refused 12) ++ (got ∷ got ∷ replicate 6 (reading.refused 12)))
unfolding reading.found_of reading.judged filled_of next_of round_from word_at
read_pointers = refl

-- "13 (header or whole packet longer than filled, or the header's length too small for the header and padding it
-- counts)": filled 4, 8, 12 and 16; then PKT_LEN 0 with 0 to 3 bytes of padding; then a length that the second byte,
-- the first and all three make too large
pub read_wholes : map (λ (write : ℕ). reading.found_of 64 (packed 116) 128 true 0 write 68) (4 ∷ 8 ∷ 12 ∷ 16 ∷ [])
    ≡ reading.refused 13 ∷ reading.refused 13 ∷ got ∷ got ∷ []
unfolding reading.found_of reading.judged filled_of next_of round_from word_at
read_wholes = refl

pub read_headers :
    map (λ (s : List ℕ). reading.found_of 64 (s ++ replicate 124 238) 128 true 0 124 68)
    ((0 ∷ 0 ∷ 0 ∷ 4 ∷ [])
    ∷ (0 ∷ 0 ∷ 1 ∷ 4 ∷ [])
    ∷ (0 ∷ 0 ∷ 2 ∷ 4 ∷ [])
    ∷ (0 ∷ 0 ∷ 3 ∷ 4 ∷ [])
    ∷ (0 ∷ 1 ∷ 11 ∷ 4 ∷ [])
    ∷ (1 ∷ 0 ∷ 11 ∷ 4 ∷ [])
    ∷ (255 ∷ 255 ∷ 255 ∷ 4 ∷ [])
    ∷ [])
    ≡ reading.skipped 3 4 ∷ replicate 6 (reading.refused 13)
unfolding reading.found_of reading.judged filled_of next_of round_from word_at
read_headers = refl

-- every answer but a packet leaves the output: 1, 11, 12, EMPTY, 13, 14, 3, and 2; a packet changes its front
pub read_leaves :
    reading.output_of 64 (packed 116) 132 true 0 12 (replicate 68 170)
    ∷ reading.output_of 64 (packed 116) 128 false 0 12 (replicate 68 170)
    ∷ reading.output_of 64 (packed 116) 128 true 0 14 (replicate 68 170)
    ∷ reading.output_of 64 (packed 116) 128 true 0 0 (replicate 68 170)
    ∷ reading.output_of 64 (packed 116) 128 true 0 8 (replicate 68 170)
    ∷ reading.output_of 64 (0 ∷ 0 ∷ 11 ∷ 5 ∷ replicate 124 238) 128 true 0 12 (replicate 68 170)
    ∷ reading.output_of 64 (0 ∷ 0 ∷ 7 ∷ 4 ∷ replicate 124 238) 128 true 0 12 (replicate 68 170)
    ∷ reading.output_of 64 (packed 116) 128 true 0 12 (replicate 67 170)
    ∷ reading.output_of 64 (packed 116) 128 true 0 12 (replicate 68 170)
    ∷ []
    ≡ replicate 7 (replicate 68 170)
    ++ (replicate 67 170 ∷ (1 ∷ 9 ∷ 10 ∷ 200 ∷ 0 ∷ replicate 63 170) ∷ [])
unfolding reading.found_of reading.judged filled_of next_of round_from fronted packet_of word_at
read_leaves = refl

-- "Writing: 1, 3, 11, 12, 2 (needs more than room)": 1, by the bytes lent for 128, and by the largest body
pub write_lent : map (λ (n : ℕ). writing.entered_of 64 n 128 true 0 0 5) (0 ∷ 124 ∷ 127 ∷ 128 ∷ 129 ∷ 132 ∷ 256 ∷ [])
    ≡ replicate 3 (writing.refused 1) ++ (writing.entered 12 ∷ replicate 3 (writing.refused 1))
unfolding writing.entered_of filled_of room_of next_of
write_lent = refl

pub write_mosts : map (λ (most : ℕ). writing.entered_of most 128 128 true 0 0 5) (63 ∷ 64 ∷ 246 ∷ 247 ∷ [])
    ≡ writing.refused 1 ∷ writing.entered 12 ∷ writing.entered 12 ∷ writing.refused 1 ∷ []
unfolding writing.entered_of filled_of room_of next_of
write_mosts = refl

-- 12: the read pointer, and the write pointer
pub write_pointers :
    map (λ (read : ℕ). writing.entered_of 64 128 128 true read 16 5)
    (16 ∷ 1 ∷ 2 ∷ 3 ∷ 13 ∷ 14 ∷ 15 ∷ 127 ∷ 128 ∷ 132 ∷ [])
    ++ map (λ (write : ℕ). writing.entered_of 64 128 128 true 0 write 5)
    (0 ∷ 4 ∷ 13 ∷ 14 ∷ 15 ∷ 126 ∷ 127 ∷ 128 ∷ 132 ∷ [])
    ≡ (writing.entered 28 ∷ replicate 9 (writing.refused 12))
    ++ (writing.entered 12 ∷ writing.entered 16 ∷ replicate 7 (writing.refused 12))
unfolding writing.entered_of filled_of room_of next_of
write_pointers = refl

-- 2: a packet of 68, which takes up 72, with room for 68, 72 and 76; and in a ring of 132 bytes that is nearly full
pub write_rooms :
    map (λ (read : ℕ). writing.entered_of 64 128 128 true read 0 68) (72 ∷ 76 ∷ 80 ∷ [])
    ++ map (λ (read : ℕ). writing.entered_of 64 132 132 true read 128 5) (4 ∷ 8 ∷ 12 ∷ 16 ∷ [])
    ≡ (writing.refused 2 ∷ writing.entered 72 ∷ writing.entered 72 ∷ [])
    ++ (writing.refused 2 ∷ writing.refused 2 ∷ writing.entered 8 ∷ writing.entered 8 ∷ [])
unfolding writing.entered_of filled_of room_of next_of
write_rooms = refl

-- a refusal leaves the ring: 1, 3, 11, 12, 2
pub write_leaves :
    writing.written_of 64 (replicate 128 238) 132 true 0 0 (replicate 5 1)
    ∷ writing.written_of 64 (replicate 128 238) 128 true 0 0 (replicate 4 1)
    ∷ writing.written_of 64 (replicate 128 238) 128 false 0 0 (replicate 5 1)
    ∷ writing.written_of 64 (replicate 128 238) 128 true 0 14 (replicate 5 1)
    ∷ writing.written_of 64 (replicate 128 238) 128 true 12 0 (replicate 5 1)
    ∷ []
    ≡ replicate 5 (replicate 128 238)
unfolding writing.entered_of filled_of room_of next_of
write_leaves = refl

-- the calls' answers in document 01's numbers: no value is another one's
pub answers_found :
    map found_in
    (Ok (Packet 5 12)
    ∷ Ok Empty
    ∷ Ok (Skipped OtherKind 12)
    ∷ Ok (Skipped Size 8)
    ∷ Err BadPacket
    ∷ [])
    ≡ got ∷ reading.empty ∷ reading.skipped 14 12 ∷ reading.skipped 3 8 ∷ reading.refused 13 ∷ []
answers_found = refl

pub answers_entered : map entered_in (Ok 12 ∷ Err Room ∷ [])
    ≡ writing.entered 12 ∷ writing.refused 2 ∷ []
answers_entered = refl
