-- Which lengths and which pointers are right, on both sides of each border: the tests of 1 and of 12, since a
-- definition and its code could be wrong alike.
-- Assumes nothing.
use mathlib.Core.Path.{◌≡◌, refl}
use mathlib.Core.Bool.{true, false}
use mathlib.Core.List.{[], ◌∷◌, ◌++◌, map}
use lib.ListN.{replicate}
use Rattle.mmbi.specs.Pointers.{length_right, pointer_right}

-- "each ring length is a multiple of 4 from 128 to 65,536 (house rule)"
pub length_borders :
    map length_right (0 ∷ 64 ∷ 124 ∷ 127 ∷ 129 ∷ 130 ∷ 131 ∷ 65534 ∷ 65538 ∷ 65540 ∷ 131200 ∷ 4294967296 ∷ [])
    ++ map length_right (128 ∷ 132 ∷ 1000 ∷ 65532 ∷ 65536 ∷ [])
    ≡ replicate 12 false ++ replicate 5 true
length_borders = refl

-- "Pointers are byte offsets, multiples of 4" and below the length: into a ring of 128 bytes, and of 65,536
pub pointer_borders :
    map (pointer_right 128) (1 ∷ 2 ∷ 3 ∷ 13 ∷ 14 ∷ 15 ∷ 126 ∷ 127 ∷ 128 ∷ 132 ∷ 256 ∷ 4294967296 ∷ [])
    ++ map (pointer_right 128) (0 ∷ 4 ∷ 12 ∷ 120 ∷ 124 ∷ [])
    ++ map (pointer_right 65536) (128 ∷ 65532 ∷ 65534 ∷ 65536 ∷ [])
    ≡ replicate 12 false ++ replicate 5 true ++ (true ∷ true ∷ false ∷ false ∷ [])
pointer_borders = refl
