-- What stands beside each number: a refused region has no part and notify clear, a refused write leaves the region;
-- since a definition and its code could be wrong alike.
-- Assumes nothing.
use mathlib.Core.Path.{◌≡◌, refl}
use mathlib.Core.Bool.{Bool, true, false}
use mathlib.Core.List.{List, [], ◌∷◌, ◌++◌, map}
use Prim.Native.Nat.{ℕ}
use lib.ListN.{length, take, set, replicate}
use Rattle.octets.specs.Bytes.{laid, fronted}
use Rattle.octets.specs.Words.{word_at, word_bytes}
use Rattle.mctp.specs.declared.refusal.Refusal.TheVariants.{Room, Command}
use Rattle.std.proofs.Common.{Ok, Err}
use Rattle.pcc.specs.Answers.{number_read, size_read, notify_read, number_written}
use Rattle.pcc.specs.Layout.{region_of}
use Rattle.pcc.specs.Reading.{refusal_of, size_of, part_of, packet_of, notify_of}
use Rattle.pcc.specs.Writing.{write_refusal, written_of}
use Rattle.pcc.proofs.Literal.{literal_region, literal_packet, lengthened}

-- what reading gives: the number, the size, the packet, the flag
record RegionRead : Type 0 where
  number : ℕ
  size : ℕ
  packet : List ℕ
  notify : Bool

abbrev read_as : ℕ → List ℕ → ℕ → RegionRead
read_as most region id =
    record {
      number = refusal_of most region id;
      size = size_of most region id;
      packet = packet_of most region id;
      notify = notify_of most region id;
    }

abbrev none : ℕ → RegionRead
none n = record { number = n; size = 0; packet = []; notify = false }

abbrev whole : RegionRead
whole = record { number = 0; size = 5; packet = literal_packet; notify = true }

-- 1: a largest body of 63 and of 247, ids from 256 on, though 259 ends like 3
pub refused_setups :
    map (λ (most : ℕ). read_as most literal_region 3) (63 ∷ 64 ∷ 246 ∷ 247 ∷ [])
    ++ map (read_as 64 literal_region) (256 ∷ 259 ∷ 65539 ∷ [])
    ≡ none 1 ∷ whole ∷ whole ∷ none 1 ∷ replicate 3 (none 1)
unfolding refusal_of size_of notify_of word_at literal_region
refused_setups = refl

-- 2: the region cut to no byte, to its packet's end, to 83; longer ones are good
pub refused_regions :
    map (λ (n : ℕ). read_as 64 (take n literal_region) 3) (0 ∷ 21 ∷ 83 ∷ 84 ∷ [])
    ++ (read_as 64 (literal_region ++ replicate 100 0) 3 ∷ [])
    ≡ none 2 ∷ none 2 ∷ none 2 ∷ whole ∷ whole ∷ []
unfolding refusal_of size_of notify_of word_at literal_region
refused_regions = refl

-- 9: each byte of the signature, and another id; 5: each byte of the command
pub refused_words :
    map (λ (i : ℕ). read_as 64 (set literal_region i 0) 3) (0 ∷ 1 ∷ 2 ∷ 3 ∷ 12 ∷ 13 ∷ 14 ∷ 15 ∷ [])
    ++ map (read_as 64 literal_region) (0 ∷ 2 ∷ 4 ∷ 255 ∷ [])
    ≡ replicate 4 (none 9) ++ replicate 4 (none 5) ++ replicate 4 (none 9)
unfolding refusal_of size_of notify_of word_at literal_region
refused_words = refl

-- 3: lengths of 0, 8, 73, and such whose higher bytes are set (265, 65,545 and 16,777,225 end like 9)
pub refused_lengths :
    map (λ (n : ℕ). read_as 64 (lengthened n) 3) (0 ∷ 4 ∷ 8 ∷ 73 ∷ 265 ∷ 65545 ∷ 16777225 ∷ 0xFFFFFFFF ∷ [])
    ≡ replicate 8 (none 3)
unfolding laid refusal_of size_of notify_of word_at word_bytes literal_region lengthened
refused_lengths = refl

-- 3, where the largest body is 246: a length of 73 in a region of 84 bytes, which is one too short, and of 85; lengths
-- of 254 and 255 in one of 300
pub refused_unheld :
    refusal_of 246 (lengthened 73) 3
    ∷ refusal_of 246 (lengthened 73 ++ (0 ∷ [])) 3
    ∷ refusal_of 246 (lengthened 254 ++ replicate 216 0) 3
    ∷ refusal_of 246 (lengthened 255 ++ replicate 216 0) 3
    ∷ []
    ≡ 3 ∷ 0 ∷ 0 ∷ 3 ∷ []
unfolding laid refusal_of word_at word_bytes literal_region lengthened
refused_unheld = refl

-- notify is bit 0 alone, by all four bytes of its word
pub notify_bit : map (λ (w : List ℕ). notify_of 64 (laid literal_region 4 w) 3)
    ((0 ∷ 0 ∷ 0 ∷ 0 ∷ []) ∷ (1 ∷ 0 ∷ 0 ∷ 0 ∷ []) ∷ (254 ∷ 255 ∷ 255 ∷ 255 ∷ []) ∷ (255 ∷ 0 ∷ 0 ∷ 0 ∷ [])
    ∷ (0 ∷ 1 ∷ 1 ∷ 1 ∷ []) ∷ [])
    ≡ false ∷ true ∷ false ∷ true ∷ false ∷ []
unfolding laid notify_of refusal_of word_at literal_region
notify_bit = refl

-- `part` alone asks no check: so many bytes from 16 on, as far as the region goes
pub parts :
    part_of literal_region 5 ∷ part_of literal_region 0 ∷ part_of (take 18 literal_region) 5
    ∷ part_of (take 16 literal_region) 5 ∷ part_of [] 5 ∷ []
    ≡ literal_packet ∷ [] ∷ (1 ∷ 9 ∷ []) ∷ [] ∷ [] ∷ []
unfolding literal_region
parts = refl

-- what writing gives, with notify: the number, the region
record RegionWritten : Type 0 where
  number : ℕ
  region : List ℕ

abbrev wrote_as : ℕ → ℕ → ℕ → List ℕ → RegionWritten
wrote_as most room id packet =
    record {
      number = write_refusal most room id (length packet);
      region = written_of most (replicate room 0xFF) id true packet;
    }

abbrev left : ℕ → ℕ → RegionWritten
left n room = record { number = n; region = replicate room 0xFF }

abbrev sent : ℕ → RegionWritten
sent rest = record { number = 0; region = literal_region ++ replicate rest 0xFF }

-- 1: the largest body, the id; 3: packets of 0, 4 and 69 bytes; 2: a region of 0, 21 and 83 bytes
pub unwritten :
    map (λ (most : ℕ). wrote_as most 84 3 literal_packet) (63 ∷ 64 ∷ 246 ∷ 247 ∷ [])
    ++ map (λ (id : ℕ). wrote_as 64 84 id literal_packet) (256 ∷ 259 ∷ [])
    ++ map (λ (n : ℕ). wrote_as 64 100 3 (replicate n 1)) (0 ∷ 4 ∷ 69 ∷ [])
    ++ map (λ (room : ℕ). wrote_as 64 room 3 literal_packet) (0 ∷ 21 ∷ 83 ∷ 84 ∷ 85 ∷ [])
    ≡ (left 1 84 ∷ sent 0 ∷ sent 0 ∷ left 1 84 ∷ [])
    ++ replicate 2 (left 1 84)
    ++ replicate 3 (left 3 100)
    ++ (left 2 0 ∷ left 2 21 ∷ left 2 83 ∷ sent 0 ∷ sent 1 ∷ [])
unfolding write_refusal written_of fronted region_of word_bytes literal_region
unwritten = refl

-- where the largest body is 246: packets of 69 bytes in 84 and 85, of 250 and 251 in 266 and 267
pub unwritten_long :
    write_refusal 246 84 3 69
    ∷ write_refusal 246 85 3 69
    ∷ write_refusal 246 265 3 250
    ∷ write_refusal 246 266 3 250
    ∷ write_refusal 246 267 3 251
    ∷ []
    ≡ 2 ∷ 0 ∷ 2 ∷ 0 ∷ 3 ∷ []
unfolding write_refusal
unwritten_long = refl

-- the calls' answers in document 01's numbers: no value is another one's
pub answers_read :
    map number_read (Ok (record { size = 5; notify = true }) ∷ Err Command ∷ [])
    ++ map size_read (Ok (record { size = 5; notify = true }) ∷ Err Command ∷ [])
    ≡ 0 ∷ 5 ∷ 5 ∷ 0 ∷ []
answers_read = refl

pub answers_notify :
    map notify_read
    (Ok (record { size = 5; notify = true }) ∷ Ok (record { size = 5; notify = false }) ∷ Err Command ∷ [])
    ≡ true ∷ false ∷ false ∷ []
answers_notify = refl

pub answers_written : map number_written (Ok tt ∷ Err Room ∷ []) ≡ 0 ∷ 2 ∷ []
answers_written = refl
