-- The words of a window written out from Tables 3 and 4 of 003, since reader and writer could be wrong alike.
-- Assumes nothing.
use mathlib.Core.Path.{◌≡◌, refl}
use mathlib.Core.Bool.{Bool, true, false}
use mathlib.Core.List.{List, [], ◌∷◌, ◌++◌, map}
use Prim.Native.Nat.{ℕ}
use lib.ListN.{take, drop, replicate}
use Rattle.octets.specs.Bytes.{laid}
use Rattle.octets.specs.Words.{word_at, word_bytes}
use Rattle.mmbi.specs.declared.change.Act.TheVariants.{SetUp, ClearUp, SetReset, ClearReset, ClearBoth}
use Rattle.mmbi.specs.declared.change.Change.{Change}
use Rattle.mmbi.specs.declared.change.Change.TheVariants.{Nothing, Host, Controller}
use Rattle.mmbi.specs.declared.word.Word.{Word}
use Rattle.mmbi.specs.Changes.{changed_word}
use Rattle.mmbi.specs.Interface.{flags_of}
use Rattle.mmbi.specs.Words.{word_of, number_of}
use Rattle.descriptor.specs.declared.configuration.Configuration.{Configuration}
use Rattle.descriptor.specs.declared.configuration.Area.TheVariants.{B2h, H2b, Ros, Rws}
use Rattle.descriptor.specs.Configuration.{inside, clear, allowed}
use Rattle.descriptor.proofs.Literal.{descriptor_image, ros_image, window_image, image_configuration}
use Rattle.window.specs.declared.word.Pointer.{Pointer}
use Rattle.window.specs.declared.word.Pointer.TheVariants.{H2bWrite, B2hRead, B2hWrite, H2bRead}
use Rattle.window.specs.declared.word.Interface.{Interface}
use Rattle.window.specs.Places.{refusal_of, place_in, area_of}
use Rattle.window.specs.Words.{cleared, word_where, interface_in, store_refusal, stored, stored_pointer}
use Rattle.window.specs.Words.{stored_flags}

-- 1 in a window one byte too short; nothing lies there then
pub image_setup : map (λ (n : ℕ). refusal_of n image_configuration) (339 ∷ 340 ∷ []) ≡ 1 ∷ 0 ∷ []
unfolding refusal_of allowed inside clear
image_setup = refl

pub image_nowhere : place_in 339 image_configuration H2b ≡ record { offset = 0; length = 0 }
unfolding place_in allowed inside clear
image_nowhere = refl

-- where the four areas lie, and what stands in the structures
pub image_places : map (place_in 340 image_configuration) (B2h ∷ H2b ∷ Ros ∷ Rws ∷ [])
    ≡ record { offset = 80; length = 128 }
    ∷ record { offset = 208; length = 132 }
    ∷ record { offset = 64; length = 8 }
    ∷ record { offset = 72; length = 8 }
    ∷ []
unfolding place_in allowed inside clear
image_places = refl

pub image_parts : map (area_of window_image image_configuration) (B2h ∷ H2b ∷ Ros ∷ Rws ∷ [])
    ≡ replicate 128 0
    ∷ replicate 132 0
    ∷ (0 ∷ 0 ∷ 0 ∷ 18 ∷ 0 ∷ 0 ∷ 0 ∷ 9 ∷ [])
    ∷ (0 ∷ 0 ∷ 0 ∷ 34 ∷ 0 ∷ 0 ∷ 0 ∷ 5 ∷ [])
    ∷ []
unfolding area_of place_in allowed inside clear
image_parts = refl

-- both words of Host_RWS and of Host_ROS
pub image_words :
    interface_in window_image image_configuration
    ≡ record {
      flags = flags_of true false true false;
      b2h = record { read = 4; write = 16 };
      h2b = record { read = 8; write = 32 };
      host_ready = true;
      controller_ready = true;
    }
unfolding interface_in word_where cleared word_of allowed inside clear word_at
image_words = refl

-- H2B_WP moved on to 36: H_UP stays (00 00 00 26)
pub image_stored : stored_pointer window_image image_configuration H2bWrite 36
    ≡ descriptor_image ++ (ros_image ++ (0 ∷ 0 ∷ 0 ∷ 38 ∷ 0 ∷ 0 ∷ 0 ∷ 5 ∷ []) ++ replicate 260 0)
unfolding stored_pointer stored store_refusal word_where cleared word_of number_of allowed inside clear word_at
    word_bytes laid
image_stored = refl

-- The window with other words: of Host_ROS B2H_WP and H2B_RP, of Host_RWS H2B_WP and B2H_RP
abbrev with_words : List ℕ → List ℕ → List ℕ → List ℕ → List ℕ
with_words b2hWrite h2bRead h2bWrite b2hRead =
    descriptor_image ++ (b2hWrite ++ (h2bRead ++ (h2bWrite ++ (b2hRead ++ replicate 260 0))))

abbrev bit0 : ℕ → List ℕ
bit0 n = 0 ∷ 0 ∷ 0 ∷ n ∷ []

-- what the words give where these bits are set and every pointer is 0
abbrev flagged : Bool → Bool → Bool → Bool → Bool → Bool → Interface
flagged bUp bRst hUp hRst hRdy bRdy =
    record {
      flags = flags_of bUp bRst hUp hRst;
      b2h = record { read = 0; write = 0 };
      h2b = record { read = 0; write = 0 };
      host_ready = hRdy;
      controller_ready = bRdy;
    }

-- each flag alone: B_UP, B_RST, B_RDY, H_UP, H_RST, H_RDY; then the two reserved bits, which say nothing
pub each_flag :
    map (λ (s : List ℕ). interface_in s image_configuration)
    (with_words (bit0 2) (bit0 0) (bit0 0) (bit0 0)
    ∷ with_words (bit0 1) (bit0 0) (bit0 0) (bit0 0)
    ∷ with_words (bit0 0) (bit0 1) (bit0 0) (bit0 0)
    ∷ with_words (bit0 0) (bit0 0) (bit0 2) (bit0 0)
    ∷ with_words (bit0 0) (bit0 0) (bit0 1) (bit0 0)
    ∷ with_words (bit0 0) (bit0 0) (bit0 0) (bit0 1)
    ∷ with_words (bit0 0) (bit0 2) (bit0 0) (bit0 2)
    ∷ [])
    ≡ flagged true false false false false false
    ∷ flagged false true false false false false
    ∷ flagged false false false false false true
    ∷ flagged false false true false false false
    ∷ flagged false false false true false false
    ∷ flagged false false false false true false
    ∷ flagged false false false false false false
    ∷ []
unfolding interface_in word_where cleared word_of allowed inside clear word_at
each_flag = refl

-- pointers of four bytes, no two alike: 01020304, 05060708, 090A0B0C, 0D0E0F10
pub four_pointers :
    interface_in
    (with_words (1 ∷ 2 ∷ 3 ∷ 4 ∷ []) (5 ∷ 6 ∷ 7 ∷ 8 ∷ []) (9 ∷ 10 ∷ 11 ∷ 12 ∷ [])
    (13 ∷ 14 ∷ 15 ∷ 16 ∷ [])) image_configuration
    ≡ record {
      flags = flags_of false false false false;
      b2h = record { read = 219025168; write = 16909060 };
      h2b = record { read = 84281096; write = 151653132 };
      host_ready = false;
      controller_ready = false;
    }
unfolding interface_in word_where cleared word_of allowed inside clear word_at
four_pointers = refl

-- a window of bytes EE with room for larger pointers: Host_ROS at 64, Host_RWS at 72, B2H of 1,024 bytes, H2B of 2,048
abbrev wide : Configuration
wide =
    record {
      b2h = record { offset = 80; length = 1024 };
      h2b = record { offset = 1104; length = 2048 };
      ros = 64;
      rws = 72;
    }

abbrev bare : List ℕ
bare = replicate 3152 238

-- the two structures once a word is stored
abbrev structures : Pointer → Word → List ℕ
structures p w = take 16 (drop 64 (stored bare wide p w))

abbrev kept : ℕ → List ℕ
kept n = replicate n 238

-- pointer 772 (0304) with each flag alone, in each word: bit 1 beside a read pointer is reserved, so 0
pub each_store :
    map (λ (w : Word). structures B2hWrite w ++ structures H2bRead w ++ structures H2bWrite w ++ structures B2hRead w)
    (record { pointer = 772; bit1 = true; bit0 = false } ∷ record { pointer = 772; bit1 = false; bit0 = true } ∷ [])
    ≡ ((0 ∷ 0 ∷ 3 ∷ 6 ∷ kept 12) ++ (kept 4 ++ (0 ∷ 0 ∷ 3 ∷ 4 ∷ kept 8)) ++ (kept 8 ++ (0 ∷ 0 ∷ 3 ∷ 6 ∷ kept 4))
    ++ (kept 12 ++ (0 ∷ 0 ∷ 3 ∷ 4 ∷ [])))
    ∷ ((0 ∷ 0 ∷ 3 ∷ 5 ∷ kept 12) ++ (kept 4 ++ (0 ∷ 0 ∷ 3 ∷ 5 ∷ kept 8)) ++ (kept 8 ++ (0 ∷ 0 ∷ 3 ∷ 5 ∷ kept 4))
    ++ (kept 12 ++ (0 ∷ 0 ∷ 3 ∷ 5 ∷ [])))
    ∷ []
unfolding stored store_refusal cleared number_of allowed inside clear word_bytes laid
each_store = refl

-- 12 at each ring's own length, by the words in the order of Host_RWS and Host_ROS, and for what is no multiple of 4
abbrev answers : ℕ → List ℕ
answers at = map (λ (p : Pointer). store_refusal 3152 wide p at) (H2bWrite ∷ B2hRead ∷ B2hWrite ∷ H2bRead ∷ [])

pub each_limit :
    map answers (1020 ∷ 1022 ∷ 1024 ∷ 2044 ∷ 2048 ∷ [])
    ≡ (0 ∷ 0 ∷ 0 ∷ 0 ∷ [])
    ∷ (12 ∷ 12 ∷ 12 ∷ 12 ∷ [])
    ∷ (0 ∷ 12 ∷ 12 ∷ 0 ∷ [])
    ∷ (0 ∷ 12 ∷ 12 ∷ 0 ∷ [])
    ∷ (12 ∷ 12 ∷ 12 ∷ 12 ∷ [])
    ∷ []
unfolding store_refusal allowed inside clear
each_limit = refl

-- 1 comes before 12: a window one byte too short, and a pointer that no ring has
pub setup_first : store_refusal 3151 wide H2bWrite 2 ≡ 1
unfolding store_refusal allowed inside clear
setup_first = refl

-- B2H_RP moved on to 8 where its word is 00 00 00 07: H_RDY stays, the reserved bit doesn't
pub reserved_cleared : take 16
    (drop 64 (stored_pointer (with_words (bit0 0) (bit0 0) (bit0 0) (bit0 7)) image_configuration B2hRead 8))
    ≡ replicate 15 0 ++ (9 ∷ [])
unfolding stored_pointer stored store_refusal word_where cleared word_of number_of allowed inside clear word_at
    word_bytes laid
reserved_cleared = refl

-- every pointer past its ring: B2H_WP F1020304, H2B_RP 05060708, H2B_WP 890A0B0C, B2H_RP 0D0E0F10. B_UP and H_RST are
-- set, or B_RST and H_UP, and the reserved bits of the second words, which no change of flags clears
abbrev broken : ℕ → ℕ → List ℕ
broken b2hWrite h2bWrite =
    with_words (241 ∷ 2 ∷ 3 ∷ b2hWrite ∷ []) (5 ∷ 6 ∷ 7 ∷ 11 ∷ []) (137 ∷ 10 ∷ 11 ∷ h2bWrite ∷ [])
    (13 ∷ 14 ∷ 15 ∷ 18 ∷ [])

-- nothing, and each change that the handshake makes
abbrev steps : List Change
steps =
    Nothing ∷ Host SetReset ∷ Host SetUp ∷ Host ClearBoth ∷ Controller SetReset ∷ Controller ClearUp
    ∷ Controller ClearReset ∷ Controller SetUp ∷ []

abbrev after_each : List ℕ → List (List ℕ)
after_each s = map (λ (change : Change). take 16 (drop 64 (stored_flags s image_configuration change))) steps

-- Host_ROS and then Host_RWS after each, where B_UP and H_RST are set: at most one byte is another
pub each_step_up : after_each (broken 6 13)
    ≡ (241 ∷ 2 ∷ 3 ∷ 6 ∷ 5 ∷ 6 ∷ 7 ∷ 11 ∷ 137 ∷ 10 ∷ 11 ∷ 13 ∷ 13 ∷ 14 ∷ 15 ∷ 18 ∷ [])
    ∷ (241 ∷ 2 ∷ 3 ∷ 6 ∷ 5 ∷ 6 ∷ 7 ∷ 11 ∷ 137 ∷ 10 ∷ 11 ∷ 13 ∷ 13 ∷ 14 ∷ 15 ∷ 18 ∷ [])
    ∷ (241 ∷ 2 ∷ 3 ∷ 6 ∷ 5 ∷ 6 ∷ 7 ∷ 11 ∷ 137 ∷ 10 ∷ 11 ∷ 15 ∷ 13 ∷ 14 ∷ 15 ∷ 18 ∷ [])
    ∷ (241 ∷ 2 ∷ 3 ∷ 6 ∷ 5 ∷ 6 ∷ 7 ∷ 11 ∷ 137 ∷ 10 ∷ 11 ∷ 12 ∷ 13 ∷ 14 ∷ 15 ∷ 18 ∷ [])
    ∷ (241 ∷ 2 ∷ 3 ∷ 7 ∷ 5 ∷ 6 ∷ 7 ∷ 11 ∷ 137 ∷ 10 ∷ 11 ∷ 13 ∷ 13 ∷ 14 ∷ 15 ∷ 18 ∷ [])
    ∷ (241 ∷ 2 ∷ 3 ∷ 4 ∷ 5 ∷ 6 ∷ 7 ∷ 11 ∷ 137 ∷ 10 ∷ 11 ∷ 13 ∷ 13 ∷ 14 ∷ 15 ∷ 18 ∷ [])
    ∷ (241 ∷ 2 ∷ 3 ∷ 6 ∷ 5 ∷ 6 ∷ 7 ∷ 11 ∷ 137 ∷ 10 ∷ 11 ∷ 13 ∷ 13 ∷ 14 ∷ 15 ∷ 18 ∷ [])
    ∷ (241 ∷ 2 ∷ 3 ∷ 6 ∷ 5 ∷ 6 ∷ 7 ∷ 11 ∷ 137 ∷ 10 ∷ 11 ∷ 13 ∷ 13 ∷ 14 ∷ 15 ∷ 18 ∷ [])
    ∷ []
unfolding stored_flags changed_word word_where cleared word_of number_of allowed inside clear word_at word_bytes laid
each_step_up = refl

-- and where B_RST and H_UP are
pub each_step_reset : after_each (broken 5 14)
    ≡ (241 ∷ 2 ∷ 3 ∷ 5 ∷ 5 ∷ 6 ∷ 7 ∷ 11 ∷ 137 ∷ 10 ∷ 11 ∷ 14 ∷ 13 ∷ 14 ∷ 15 ∷ 18 ∷ [])
    ∷ (241 ∷ 2 ∷ 3 ∷ 5 ∷ 5 ∷ 6 ∷ 7 ∷ 11 ∷ 137 ∷ 10 ∷ 11 ∷ 15 ∷ 13 ∷ 14 ∷ 15 ∷ 18 ∷ [])
    ∷ (241 ∷ 2 ∷ 3 ∷ 5 ∷ 5 ∷ 6 ∷ 7 ∷ 11 ∷ 137 ∷ 10 ∷ 11 ∷ 14 ∷ 13 ∷ 14 ∷ 15 ∷ 18 ∷ [])
    ∷ (241 ∷ 2 ∷ 3 ∷ 5 ∷ 5 ∷ 6 ∷ 7 ∷ 11 ∷ 137 ∷ 10 ∷ 11 ∷ 12 ∷ 13 ∷ 14 ∷ 15 ∷ 18 ∷ [])
    ∷ (241 ∷ 2 ∷ 3 ∷ 5 ∷ 5 ∷ 6 ∷ 7 ∷ 11 ∷ 137 ∷ 10 ∷ 11 ∷ 14 ∷ 13 ∷ 14 ∷ 15 ∷ 18 ∷ [])
    ∷ (241 ∷ 2 ∷ 3 ∷ 5 ∷ 5 ∷ 6 ∷ 7 ∷ 11 ∷ 137 ∷ 10 ∷ 11 ∷ 14 ∷ 13 ∷ 14 ∷ 15 ∷ 18 ∷ [])
    ∷ (241 ∷ 2 ∷ 3 ∷ 4 ∷ 5 ∷ 6 ∷ 7 ∷ 11 ∷ 137 ∷ 10 ∷ 11 ∷ 14 ∷ 13 ∷ 14 ∷ 15 ∷ 18 ∷ [])
    ∷ (241 ∷ 2 ∷ 3 ∷ 7 ∷ 5 ∷ 6 ∷ 7 ∷ 11 ∷ 137 ∷ 10 ∷ 11 ∷ 14 ∷ 13 ∷ 14 ∷ 15 ∷ 18 ∷ [])
    ∷ []
unfolding stored_flags changed_word word_where cleared word_of number_of allowed inside clear word_at word_bytes laid
each_step_reset = refl

-- where such a pointer is refused with 12, the flags beside it are not; in a window one byte too short they are, with 1
pub broken_answers :
    store_refusal 340 image_configuration B2hWrite 0xF1020304
    ∷ store_refusal 340 image_configuration H2bWrite 0x890A0B0C
    ∷ refusal_of 340 image_configuration
    ∷ refusal_of 339 image_configuration
    ∷ []
    ≡ 12 ∷ 12 ∷ 0 ∷ 1 ∷ []
unfolding store_refusal refusal_of allowed inside clear
broken_answers = refl

-- and there every byte stays
pub short_stays : map (λ (change : Change). stored_flags (take 339 (broken 6 13)) image_configuration change) steps
    ≡ replicate 8 (take 339 (broken 6 13))
unfolding stored_flags allowed inside clear
short_stays = refl

-- both structures in one place, as document 01 lets them lie: the host's H_RST is B_RST too
abbrev overlapping : Configuration
overlapping = record { b2h = image_configuration.b2h; h2b = image_configuration.h2b; ros = 64; rws = 64 }

pub overlapping_flags :
    map (λ (change : Change). (interface_in (stored_flags (broken 6 13) overlapping change) overlapping).flags)
    (Nothing ∷ Host SetReset ∷ [])
    ≡ flags_of true false true false ∷ flags_of true true true true ∷ []
unfolding stored_flags changed_word word_where cleared word_of number_of interface_in allowed inside clear word_at
    word_bytes
    laid
overlapping_flags = refl
