-- A window written out from Tables 1 to 4 of 003, since a definition and its code could be wrong alike.
-- Assumes nothing.
use mathlib.Core.Path.{◌≡◌, refl}
use mathlib.Core.Bool.{true}
use mathlib.Core.List.{List, [], ◌∷◌, ◌++◌, map}
use Prim.Native.Nat.{ℕ, ◌-◌, ◌*◌, ◌^◌, ◌≤◌}
use lib.Dec.{lit≤}
use lib.ListN.{take, set, replicate}
use Rattle.octets.specs.Words.{word_at}
use Rattle.descriptor.specs.declared.configuration.Configuration.{Configuration}
use Rattle.descriptor.specs.Places.{end_of, lies_in}
use Rattle.descriptor.specs.Configuration.{structure_at, inside, clear, allowed}
use Rattle.descriptor.specs.Reading.{signature_right, configuration_in, Described, found, refused, described_of}

-- The descriptor: `#MMBI$`, version 1, for OS use; B2H at 8 · 0x0A = 80 with 128 bytes, H2B at 8 · 0x1A = 208 with
-- 132 bytes; type 1; Host_ROS at 8 · 8 = 64, Host_RWS at 8 · 9 = 72
abbrev pub descriptor_image : List ℕ
descriptor_image =
    35 ∷ 77 ∷ 77 ∷ 66 ∷ 73 ∷ 36 ∷ 1 ∷ 1
    ∷ 0 ∷ 0 ∷ 0 ∷ 10 ∷ 0 ∷ 0 ∷ 0 ∷ 26
    ∷ 0 ∷ 0 ∷ 0 ∷ 128 ∷ 0 ∷ 0 ∷ 0 ∷ 132
    ∷ 1 ∷ 0 ∷ 0 ∷ 0 ∷ 0 ∷ 0 ∷ 0 ∷ 0
    ∷ 0 ∷ 0 ∷ 0 ∷ 8 ∷ 0 ∷ 0 ∷ 0 ∷ 9
    ∷ replicate 24 0

-- Host_ROS: B2H_WP 16 with B_UP (00 00 00 12), H2B_RP 8 with B_RDY (00 00 00 09)
abbrev pub ros_image : List ℕ
ros_image = 0 ∷ 0 ∷ 0 ∷ 18 ∷ 0 ∷ 0 ∷ 0 ∷ 9 ∷ []

-- Host_RWS: H2B_WP 32 with H_UP (00 00 00 22), B2H_RP 4 with H_RDY (00 00 00 05)
abbrev rws_image : List ℕ
rws_image = 0 ∷ 0 ∷ 0 ∷ 34 ∷ 0 ∷ 0 ∷ 0 ∷ 5 ∷ []

-- a window of 340 bytes, which the second ring ends
abbrev pub window_image : List ℕ
window_image = descriptor_image ++ (ros_image ++ (rws_image ++ replicate 260 0))

abbrev pub image_configuration : Configuration
image_configuration =
    record {
      b2h = record { offset = 80; length = 128 };
      h2b = record { offset = 208; length = 132 };
      ros = 64;
      rws = 72;
    }

-- document 01's number of what reading gives
abbrev number : Described → ℕ
number (found c) = 0
number (refused n) = n

abbrev pub numbered : List ℕ → ℕ
numbered s = number (described_of s)

-- the whole descriptor image with its configuration
pub image_found : described_of window_image ≡ found image_configuration
unfolding described_of signature_right configuration_in allowed inside clear word_at
image_found = refl

-- "Base 2^29 − 1 is byte 4,294,967,288; with 65,536 added it passes 32 bits."
pub far_byte : (2 ^ 29 - 1) * 8 ≡ 4294967288
far_byte = refl

pub far_passes : 2 ^ 32 ≤ end_of (record { offset = 4294967288; length = 65536 })
far_passes = lit≤ tt

-- a structure of 8 bytes there ends with a window of 4 GiB, and so lies in it
pub far_structure : lies_in (2 ^ 32) (structure_at 4294967288) ≡ true
far_structure = refl

-- Another, with no two places alike and every reserved bit set: version byte F1, byte 7 FE, the high three bits of each
-- base, type byte F1, FF in bytes 25 to 31 and from 40 on. B2H at 8 · 0x102 = 2,064 with the length whose four bytes
-- are given, H2B at 8 · 0x41 = 520 with 0x508 = 1,288 bytes, Host_ROS right behind it at 8 · 0xE2 = 1,808, Host_RWS
-- right before B2H at 8 · 0x101 = 2,056.
abbrev lengthened : ℕ → ℕ → ℕ → ℕ → List ℕ
lengthened a b c d =
    35 ∷ 77 ∷ 77 ∷ 66 ∷ 73 ∷ 36 ∷ 0xF1 ∷ 0xFE
    ∷ 0xE0 ∷ 0 ∷ 1 ∷ 2 ∷ 0xE0 ∷ 0 ∷ 0 ∷ 0x41
    ∷ a ∷ b ∷ c ∷ d ∷ 0 ∷ 0 ∷ 5 ∷ 8
    ∷ 0xF1 ∷ 255 ∷ 255 ∷ 255 ∷ 255 ∷ 255 ∷ 255 ∷ 255
    ∷ 0xE0 ∷ 0 ∷ 0 ∷ 0xE2 ∷ 0xE0 ∷ 0 ∷ 1 ∷ 1
    ∷ replicate 24 255

abbrev given : ℕ → Configuration
given n =
    record {
      b2h = record { offset = 2064; length = n };
      h2b = record { offset = 520; length = 1288 };
      ros = 1808;
      rws = 2056;
    }

-- a window of 2,324 bytes, which a ring of 260 (00 00 01 04) ends
pub reserved-set : described_of (lengthened 0 0 1 4 ++ replicate 2260 0) ≡ found (given 260)
unfolding described_of signature_right configuration_in allowed inside clear word_at
reserved-set = refl

pub one_byte_short : numbered (lengthened 0 0 1 4 ++ replicate 2259 0) ≡ 10
unfolding described_of signature_right configuration_in allowed inside clear word_at
one_byte_short = refl

-- lengths at the borders, each in a window that holds such a ring: 128 (00 00 00 80) is the least, 65,536 (00 01 00 00)
-- the most
pub length_128 : described_of (lengthened 0 0 0 128 ++ replicate 2128 0) ≡ found (given 128)
unfolding described_of signature_right configuration_in allowed inside clear word_at
length_128 = refl

pub length_65536 : described_of (lengthened 0 1 0 0 ++ replicate 67536 0) ≡ found (given 65536)
unfolding described_of signature_right configuration_in allowed inside clear word_at
length_65536 = refl

-- 10: 124, 126, 65,540, and 130, which is no multiple of 4; 131,200 (00 02 00 80) is refused where 128 is accepted
pub lengths_refused :
    map numbered
    ((lengthened 0 0 0 124 ++ replicate 2128 0)
    ∷ (lengthened 0 0 0 126 ++ replicate 2128 0)
    ∷ (lengthened 0 1 0 4 ++ replicate 67540 0)
    ∷ (lengthened 0 0 0 130 ++ replicate 2130 0)
    ∷ (lengthened 0 2 0 128 ++ replicate 2128 0)
    ∷ [])
    ≡ replicate 5 10
unfolding described_of signature_right configuration_in allowed inside clear word_at
lengths_refused = refl

-- All four bytes of each field, by the bytes' numbers but for the high three bits of a base: 8 · 0x1F020304,
-- 8 · 0x05060708, 0x090A0B0C, 0x0D0E0F10, 8 · 0x11121314, 8 · 0x15161718.
pub fields :
    configuration_in
    (replicate 8 0
    ++ (0xFF ∷ 2 ∷ 3 ∷ 4 ∷ 0xE5 ∷ 6 ∷ 7 ∷ 8
    ∷ 9 ∷ 10 ∷ 11 ∷ 12 ∷ 13 ∷ 14 ∷ 15 ∷ 16
    ∷ replicate 8 0)
    ++ (0x31 ∷ 0x12 ∷ 0x13 ∷ 0x14 ∷ 0x55 ∷ 0x16 ∷ 0x17 ∷ 0x18 ∷ []))
    ≡ record {
      b2h = record { offset = 4161804320; length = 151653132 };
      h2b = record { offset = 674248768; length = 219025168 };
      ros = 2291177632;
      rws = 2830153920;
    }
unfolding configuration_in word_at
fields = refl

-- "9 for the signature or a window too short to hold the descriptor": each letter wrong, then 63 bytes, then a window
-- of zeros
pub nine :
    map numbered
    (map (λ (i : ℕ). set window_image i 0) (0 ∷ 1 ∷ 2 ∷ 3 ∷ 4 ∷ 5 ∷ []) ++ (take 63 window_image ∷ replicate 340 0
    ∷ []))
    ≡ replicate 8 9
unfolding described_of signature_right configuration_in allowed inside clear word_at
nine = refl

-- 10: versions 0, 2 and 9, and so the types; the high four bits of each are reserved
pub ten :
    map numbered
    (map (set window_image 6) (0 ∷ 2 ∷ 9 ∷ 0x10 ∷ []) ++ map (set window_image 24) (0 ∷ 2 ∷ 9 ∷ 0x10 ∷ []))
    ≡ replicate 8 10
unfolding described_of signature_right configuration_in allowed inside clear word_at
ten = refl
