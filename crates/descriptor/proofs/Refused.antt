-- 9 or 10: windows with one thing wrong each, and the number that it gets, since a definition and its code could be
-- wrong alike.
-- Assumes nothing.
use mathlib.Core.Path.{◌≡◌, refl}
use mathlib.Core.List.{List, [], ◌∷◌, ◌++◌, map}
use Prim.Native.Nat.{ℕ}
use lib.ListN.{take, set, replicate}
use Rattle.octets.specs.Words.{word_at}
use Rattle.mctp.specs.declared.refusal.Refusal.TheVariants.{Signature, Descriptor}
use Rattle.std.specs.Prelude.{Ok, Err}
use Rattle.descriptor.specs.Configuration.{inside, clear, allowed}
use Rattle.descriptor.specs.Reading.{signature_right, configuration_in, found, refused, described_in, described_of}
use Rattle.descriptor.proofs.Literal.{window_image, image_configuration, numbered}

-- "9 for .. a window too short to hold the descriptor, else 10": up to 63 bytes, and from 64 on, where the rings are
-- cut
pub window_sizes :
    map (λ (n : ℕ). numbered (take n window_image)) (0 ∷ 5 ∷ 6 ∷ 40 ∷ 63 ∷ [])
    ++ map (λ (n : ℕ). numbered (take n window_image)) (64 ∷ 65 ∷ 127 ∷ 128 ∷ 339 ∷ 340 ∷ [])
    ≡ replicate 5 9 ++ (replicate 5 10 ++ (0 ∷ []))
unfolding described_of signature_right configuration_in allowed inside clear word_at
window_sizes = refl

-- "9 for the signature": each letter one further on, and each with its high bit set
pub letters :
    map numbered
    (set window_image 0 0x24
    ∷ set window_image 1 0x4E
    ∷ set window_image 2 0x4E
    ∷ set window_image 3 0x43
    ∷ set window_image 4 0x4A
    ∷ set window_image 5 0x25
    ∷ set window_image 0 0xA3
    ∷ set window_image 1 0xCD
    ∷ set window_image 2 0xCD
    ∷ set window_image 3 0xC2
    ∷ set window_image 4 0xC9
    ∷ set window_image 5 0xA4
    ∷ [])
    ≡ replicate 12 9
unfolding described_of signature_right configuration_in allowed inside clear word_at
letters = refl

-- the image in a window of 1,340 bytes, with Host_ROS at 8 · 43 = 344 and Host_RWS at 8 · 44 = 352; by other bases of
-- B2H, H2B, Host_ROS and Host_RWS, in units of 8 bytes
abbrev based_at : ℕ → ℕ → ℕ → ℕ → List ℕ
based_at b h o w = set (set (set (set (window_image ++ replicate 1000 0) 11 b) 15 h) 35 o) 39 w

-- 10: over each other; B2H and then H2B over the descriptor, over Host_ROS, over Host_RWS; each area past the window's
-- end
pub ten_by_place :
    map numbered
    (based_at 10 26 43 44
    ∷ based_at 25 26 43 44
    ∷ based_at 7 26 43 44
    ∷ based_at 26 7 43 44
    ∷ based_at 10 26 11 44
    ∷ based_at 10 26 30 44
    ∷ based_at 10 26 43 11
    ∷ based_at 10 26 43 30
    ∷ based_at 160 26 43 44
    ∷ based_at 10 160 43 44
    ∷ based_at 10 26 167 44
    ∷ based_at 10 26 43 167
    ∷ [])
    ≡ 0 ∷ replicate 11 10
unfolding described_of signature_right configuration_in allowed inside clear word_at
ten_by_place = refl

-- 10: lengths of 124 and 130 bytes, B2H's and then H2B's; and those of the image with a higher byte set
pub ten_by_length :
    map (λ (n : ℕ). numbered (set (based_at 10 30 60 61) 19 n)) (128 ∷ 124 ∷ 130 ∷ [])
    ++ map (λ (n : ℕ). numbered (set (based_at 10 30 60 61) 23 n)) (132 ∷ 124 ∷ 130 ∷ [])
    ++ map (λ (i : ℕ). numbered (set (based_at 10 30 60 61) i 1)) (16 ∷ 17 ∷ 20 ∷ 21 ∷ [])
    ≡ (0 ∷ 10 ∷ 10 ∷ []) ++ (0 ∷ 10 ∷ 10 ∷ []) ++ replicate 4 10
unfolding described_of signature_right configuration_in allowed inside clear word_at
ten_by_length = refl

-- the call's answers in document 01's numbers
pub answers_described :
    map described_in (Ok image_configuration ∷ Err Signature ∷ Err Descriptor ∷ [])
    ≡ found image_configuration ∷ refused 9 ∷ refused 10 ∷ []
answers_described = refl
