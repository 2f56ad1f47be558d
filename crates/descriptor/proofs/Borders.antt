-- Configurations in a window of 4,096 bytes that are right, and with one thing wrong each, since a definition and its
-- code could be wrong alike.
-- Assumes nothing.
use mathlib.Core.Path.{◌≡◌, refl}
use mathlib.Core.Bool.{true, false}
use mathlib.Core.List.{[], ◌∷◌, map}
use Prim.Native.Nat.{ℕ}
use Rattle.descriptor.specs.declared.configuration.Configuration.{Configuration}
use Rattle.descriptor.specs.Configuration.{inside, clear, allowed}

-- by its four bases: B2H with 260 bytes, H2B with 1,288, Host_ROS, Host_RWS
abbrev based : ℕ → ℕ → ℕ → ℕ → Configuration
based b h o w =
    record { b2h = record { offset = b; length = 260 }; h2b = record { offset = h; length = 1288 }; ros = o; rws = w }

-- by the lengths of its two rings
abbrev sized : ℕ → ℕ → Configuration
sized m n =
    record {
      b2h = record { offset = 2064; length = m };
      h2b = record { offset = 520; length = n };
      ros = 1808;
      rws = 2056;
    }

-- rings right behind the descriptor, a ring right behind the other, a ring at the last base that fits, structures at
-- the window's end, structures over each other and over the descriptor
pub right :
    map (allowed 4096)
    (based 64 520 1808 2056
    ∷ based 2064 64 1808 2056
    ∷ based 1808 520 72 80
    ∷ based 3832 520 1808 2056
    ∷ based 2064 520 4088 4088
    ∷ based 2064 520 0 8
    ∷ [])
    ≡ true ∷ true ∷ true ∷ true ∷ true ∷ true ∷ []
unfolding allowed inside clear
right = refl

-- "lie in the lent window": B2H, H2B, Host_ROS, Host_RWS past its end
pub past_the_end :
    map (allowed 4096)
    (based 3840 520 1808 2056
    ∷ based 2064 2816 1808 2056
    ∷ based 2064 520 4096 2056
    ∷ based 2064 520 1808 4096
    ∷ [])
    ≡ false ∷ false ∷ false ∷ false ∷ []
unfolding allowed inside clear
past_the_end = refl

-- "the two rings overlap neither each other nor any of the other three": the rings, then each with the descriptor, with
-- Host_ROS and with Host_RWS
pub overlapping :
    map (allowed 4096)
    (based 1800 520 72 80
    ∷ based 56 520 1808 2056
    ∷ based 2064 56 1808 2056
    ∷ based 2064 520 2320 2056
    ∷ based 2064 520 1800 2056
    ∷ based 2064 520 1808 2320
    ∷ based 2064 520 1808 1800
    ∷ [])
    ≡ false ∷ false ∷ false ∷ false ∷ false ∷ false ∷ false ∷ []
unfolding allowed inside clear
overlapping = refl

-- "each ring length is a multiple of 4 from 128": B2H's, then H2B's
pub lengths :
    map (allowed 4096) (sized 128 128 ∷ sized 124 128 ∷ sized 130 128 ∷ sized 128 124 ∷ sized 128 130 ∷ [])
    ≡ true ∷ false ∷ false ∷ false ∷ false ∷ []
unfolding allowed inside clear
lengths = refl

-- "bases in 8-byte units": each base 4 bytes further on
pub off_units :
    map (allowed 4096)
    (based 2068 520 1808 2056
    ∷ based 2064 516 1808 2056
    ∷ based 2064 520 1812 2056
    ∷ based 2064 520 1808 2052
    ∷ [])
    ≡ false ∷ false ∷ false ∷ false ∷ []
unfolding allowed inside clear
off_units = refl
