-- Two checks of reading that fail, and which wins, since a definition and its code could be swapped alike.
-- Assumes nothing.
use mathlib.Core.Path.{◌≡◌, refl}
use mathlib.Core.List.{List, [], ◌∷◌, ◌++◌, map}
use Prim.Native.Nat.{ℕ}
use lib.ListN.{take, set, replicate}
use Rattle.octets.specs.Words.{word_at}
use Rattle.descriptor.specs.Configuration.{inside, clear, allowed}
use Rattle.descriptor.specs.Reading.{signature_right, configuration_in, described_of}
use Rattle.descriptor.proofs.Literal.{window_image, numbered}

-- 10 each: version 0, type 0, and a B2H ring of 124 bytes
abbrev wrong : List (List ℕ)
wrong = set window_image 6 0 ∷ set window_image 24 0 ∷ set window_image 19 124 ∷ []

pub ten : map numbered wrong ≡ replicate 3 10
unfolding described_of signature_right configuration_in allowed inside clear word_at
ten = refl

-- 9 comes before 10: the same with 63 bytes, and with a wrong letter
pub nine_first :
    map numbered (map (take 63) wrong ++ map (λ (s : List ℕ). set s 0 0) wrong) ≡ replicate 6 9
unfolding described_of signature_right configuration_in allowed inside clear word_at
nine_first = refl
