-- A header and the borders of the EIDs and sizes written out, since a definition and its code could be wrong alike.
-- Assumes nothing.
use mathlib.Core.Path.{◌≡◌, refl}
use mathlib.Core.Bool.{true, false}
use mathlib.Core.List.{List, [], ◌∷◌, map}
use Prim.Native.Nat.{ℕ}
use Rattle.mctp.specs.Eid.{null_eid, broadcast_eid, reserved_eid, endpoint_eid}
use Rattle.mctp.specs.Packet.{version_of, size_right, body_right}
use Rattle.mctp.specs.Key.{key_of, header_of, flags_for, header_bytes}

-- `F1 09 0A BD`: BD is 1011 1101, so start and not end, sequence 11, tag owner, tag 101; F is reserved
pub header : header_of (0xF1 ∷ 9 ∷ 10 ∷ 0xBD ∷ 0x7E ∷ [])
    ≡ record {
      version = 1;
      start = true;
      end = false;
      sequence = 3;
      key = record { destination = record { 0 = 9 }; source = record { 0 = 10 }; owner = true; tag = 5 };
    }
unfolding header_of key_of
header = refl

-- `02 FF 08 56`: 56 is 0101 0110
pub header_too : header_of (2 ∷ 0xFF ∷ 8 ∷ 0x56 ∷ [])
    ≡ record {
      version = 2;
      start = false;
      end = true;
      sequence = 1;
      key = record { destination = record { 0 = 255 }; source = record { 0 = 8 }; owner = false; tag = 6 };
    }
unfolding header_of key_of
header_too = refl

-- the first as bytes: the reserved bits are clear
pub header_written : header_bytes
    (record {
      version = 1;
      start = true;
      end = false;
      sequence = 3;
      key = record { destination = record { 0 = 9 }; source = record { 0 = 10 }; owner = true; tag = 5 };
    })
    ≡ 0x01 ∷ 9 ∷ 10 ∷ 0xBD ∷ []
unfolding header_bytes flags_for
header_written = refl

-- the second with numbers that are too large for their fields
pub header_written_too : header_bytes
    (record {
      version = 18;
      start = false;
      end = true;
      sequence = 5;
      key = record { destination = record { 0 = 255 }; source = record { 0 = 8 }; owner = false; tag = 14 };
    })
    ≡ 2 ∷ 0xFF ∷ 8 ∷ 0x56 ∷ []
unfolding header_bytes flags_for
header_written_too = refl

-- "low four bits version, 1": 0, 1, 2, 9 and 15, the last two of them with reserved bits
pub versions : map (λ (b : ℕ). version_of (b ∷ [])) (0 ∷ 1 ∷ 2 ∷ 0x39 ∷ 0xFF ∷ []) ≡ 0 ∷ 1 ∷ 2 ∷ 9 ∷ 15 ∷ []
versions = refl

-- "EID 0 is null, 255 is broadcast, 1 to 7 are reserved", on both sides of each border
abbrev borders : List ℕ
borders = 0 ∷ 1 ∷ 7 ∷ 8 ∷ 254 ∷ 255 ∷ []

pub null_borders : map null_eid borders ≡ true ∷ false ∷ false ∷ false ∷ false ∷ false ∷ []
null_borders = refl

pub reserved_borders : map reserved_eid borders ≡ false ∷ true ∷ true ∷ false ∷ false ∷ false ∷ []
reserved_borders = refl

pub broadcast_borders : map broadcast_eid borders ≡ false ∷ false ∷ false ∷ false ∷ false ∷ true ∷ []
broadcast_borders = refl

-- "own EID (0 or 8 to 254)"
pub endpoint_borders : map endpoint_eid borders ≡ true ∷ false ∷ false ∷ true ∷ true ∷ false ∷ []
endpoint_borders = refl

-- "5 to 68 in all"
pub size_borders : map (size_right 64) (4 ∷ 5 ∷ 68 ∷ 69 ∷ []) ≡ false ∷ true ∷ true ∷ false ∷ []
size_borders = refl

pub most_borders : map body_right (63 ∷ 64 ∷ 246 ∷ 247 ∷ []) ≡ false ∷ true ∷ true ∷ false ∷ []
most_borders = refl
