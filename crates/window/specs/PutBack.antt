-- A window once an area that was lent out of it is back.
-- Assumes nothing.
use Rattle.std.specs.Prelude.{◌≡◌, ℕ, List, take, drop}
use Rattle.octets.specs.Bytes.{laid}
use Rattle.descriptor.specs.Configuration.{area_place}
use Rattle.descriptor.specs.Places.{end_of}
use Rattle.descriptor.specs.declared.configuration.Configuration.{Configuration}
use Rattle.descriptor.specs.declared.configuration.Area.{Area}
use Rattle.window.specs.Places.{area_of}
use Rattle.window.specs.Words.{interface_in}

-- with these bytes
abbrev pub put_back : List ℕ → Configuration → Area → List ℕ → List ℕ
put_back s c area bytes = laid s (area_place c area).offset bytes

-- a ring with other bytes, and the window else as it was: all before and behind it, so the descriptor, both structures
-- and the other ring
pub record RingChanged (s : List ℕ) (c : Configuration) (ring : Area) (bytes : List ℕ) : Type 0 where
  pub before : take (area_place c ring).offset (put_back s c ring bytes) ≡ take (area_place c ring).offset s
  pub behind : drop (end_of (area_place c ring)) (put_back s c ring bytes) ≡ drop (end_of (area_place c ring)) s
  pub descriptor : take 64 (put_back s c ring bytes) ≡ take 64 s
  pub others : (other : Area) → (other ≡ ring → ⊥) → area_of (put_back s c ring bytes) c other ≡ area_of s c other
  pub words : interface_in (put_back s c ring bytes) c ≡ interface_in s c
  pub itself : area_of (put_back s c ring bytes) c ring ≡ bytes
