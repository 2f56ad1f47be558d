-- What stands beside each number: where the configuration is refused there is no place, no byte, no pointer and no
-- flag, and where a store is refused the window stays; since a definition and its code could be wrong alike.
-- Assumes nothing.
use mathlib.Core.Path.{◌≡◌, refl}
use mathlib.Core.Bool.{true, false}
use mathlib.Core.List.{List, [], ◌∷◌, ◌++◌, map}
use Prim.Native.Nat.{ℕ}
use lib.ListN.{take, replicate}
use Rattle.mmbi.specs.declared.word.Word.{Word}
use Rattle.mmbi.specs.Interface.{flags_of}
use Rattle.mmbi.specs.Words.{word_of}
use Rattle.octets.specs.Words.{word_at}
use Rattle.descriptor.specs.declared.configuration.Configuration.{Configuration}
use Rattle.descriptor.specs.declared.configuration.Area.{Area}
use Rattle.descriptor.specs.declared.configuration.Area.TheVariants.{B2h, H2b, Ros, Rws}
use Rattle.descriptor.specs.Configuration.{inside, clear, allowed}
use Rattle.descriptor.proofs.Literal.{window_image, image_configuration}
use Rattle.window.specs.declared.word.Pointer.{Pointer}
use Rattle.window.specs.declared.word.Pointer.TheVariants.{H2bWrite, B2hRead, B2hWrite, H2bRead}
use Rattle.window.specs.Places.{refusal_of, place_in, area_of}
use Rattle.window.specs.Words.{cleared, word_where, interface_in, store_refusal, stored, stored_pointer}

-- the image's window one byte too short: all its words have pointers and flags
abbrev cut : List ℕ
cut = take 339 window_image

-- the image's configuration with H2B one base before, over the other ring; the window is whole
abbrev crossed : Configuration
crossed =
    record { b2h = image_configuration.b2h; h2b = record { offset = 200; length = 132 }; ros = 64; rws = 72 }

abbrev areas : List Area
areas = B2h ∷ H2b ∷ Ros ∷ Rws ∷ []

abbrev pointers : List Pointer
pointers = H2bWrite ∷ B2hRead ∷ B2hWrite ∷ H2bRead ∷ []

-- 1: windows of 0, 64, 339 bytes, and a configuration that no window can have
pub refused_windows :
    map (λ (n : ℕ). refusal_of n image_configuration) (0 ∷ 64 ∷ 339 ∷ 340 ∷ 4096 ∷ [])
    ++ map (λ (n : ℕ). refusal_of n crossed) (340 ∷ 4096 ∷ [])
    ≡ 1 ∷ 1 ∷ 1 ∷ 0 ∷ 0 ∷ 1 ∷ 1 ∷ []
unfolding refusal_of allowed inside clear
refused_windows = refl

pub refused_places : map (place_in 339 image_configuration) areas ++ map (place_in 340 crossed) areas
    ≡ replicate 8 (record { offset = 0; length = 0 })
unfolding place_in allowed inside clear
refused_places = refl

pub refused_areas : map (area_of cut image_configuration) areas ++ map (area_of window_image crossed) areas
    ≡ replicate 8 []
unfolding area_of place_in allowed inside clear
refused_areas = refl

pub refused_words :
    interface_in cut image_configuration ∷ interface_in window_image crossed ∷ []
    ≡ replicate 2
    (record {
      flags = flags_of false false false false;
      b2h = record { read = 0; write = 0 };
      h2b = record { read = 0; write = 0 };
      host_ready = false;
      controller_ready = false;
    })
unfolding interface_in word_where cleared word_of allowed inside clear word_at
refused_words = refl

-- 1 in a short window and by the other configuration, 12 for pointers that are no multiple of 4 or not below the ring's
-- length (B2H's 128, H2B's 132), by each word
pub refused_stores :
    map (λ (p : Pointer). store_refusal 339 image_configuration p 0) pointers
    ++ map (λ (p : Pointer). store_refusal 340 crossed p 0) pointers
    ++ map (λ (p : Pointer). store_refusal 340 image_configuration p 14) pointers
    ++ map (λ (p : Pointer). store_refusal 340 image_configuration p 128) pointers
    ++ map (λ (p : Pointer). store_refusal 340 image_configuration p 132) pointers
    ≡ replicate 8 1 ++ replicate 4 12 ++ (0 ∷ 12 ∷ 12 ∷ 0 ∷ []) ++ replicate 4 12
unfolding store_refusal allowed inside clear
refused_stores = refl

-- and the window stays, whether a word or a pointer alone was to be stored
abbrev full : ℕ → Word
full n = record { pointer = n; bit1 = true; bit0 = true }

pub unstored :
    map (λ (p : Pointer). stored cut image_configuration p (full 36)) pointers
    ++ map (λ (p : Pointer). stored_pointer cut image_configuration p 36) pointers
    ≡ replicate 8 cut
unfolding stored_pointer stored store_refusal allowed inside clear
unstored = refl

pub unstored_pointers :
    map (λ (p : Pointer). stored window_image image_configuration p (full 14)) pointers
    ++ map (λ (p : Pointer). stored window_image image_configuration p (full 132)) pointers
    ++ map (λ (p : Pointer). stored_pointer window_image image_configuration p 14) pointers
    ++ map (λ (p : Pointer). stored_pointer window_image image_configuration p 132) pointers
    ≡ replicate 16 window_image
unfolding stored_pointer stored store_refusal allowed inside clear
unstored_pointers = refl
