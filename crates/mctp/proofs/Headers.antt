-- A header's bytes: there are four, and every field of a header whose numbers fit reads back.
-- Assumes nothing.
use mathlib.Core.Path.{◌≡◌, refl, ap, ◌∙◌}
use mathlib.Core.Bool.{Bool, true, false}
use mathlib.Core.List.{List, ◌++◌}
use Prim.Native.Nat.{ℕ, ◌/◌, ◌%◌, ◌≤◌, ◌<◌}
use native.Mathlib.Omega.{arith}
use lib.Dec.{lit≤, eqb}
use lib.ListN.{length}
use Rattle.mctp.specs.declared.packet.Header.{Header}
use Rattle.mctp.specs.Key.{bit, flags_for, header_bytes, key_of, header_of}

pub bit_high : (b : Bool) → bit b ≤ 1
bit_high true = lit≤ tt
bit_high false = lit≤ tt

bit_back : (b : Bool) → eqb (bit b) 1 ≡ b
bit_back true = refl
bit_back false = refl

pub header-length : (h : Header) → length (header_bytes h) ≡ 4
unfolding header_bytes
header-length h = refl

-- the header's numbers fit their fields
pub record Fits (h : Header) : Type 0 where
  pub version : h.version < 16
  pub sequence : h.sequence < 4
  pub tag : h.key.tag < 8

module _ (h : Header) (fits : Fits h) where
  -- each field of byte 3
  start_field : flags_for h / 128 % 2 ≡ bit h.start
  unfolding flags_for
  start_field = omega (arith, bit_high h.start, bit_high h.end, bit_high h.key.owner)

  end_field : flags_for h / 64 % 2 ≡ bit h.end
  unfolding flags_for
  end_field = omega (arith, bit_high h.start, bit_high h.end, bit_high h.key.owner)

  sequence_field : flags_for h / 16 % 4 ≡ h.sequence
  unfolding flags_for
  sequence_field = omega (arith, fits.sequence, bit_high h.start, bit_high h.end, bit_high h.key.owner)

  owner_field : flags_for h / 8 % 2 ≡ bit h.key.owner
  unfolding flags_for
  owner_field = omega (arith, bit_high h.start, bit_high h.end, bit_high h.key.owner)

  tag_field : flags_for h % 8 ≡ h.key.tag
  unfolding flags_for
  tag_field = omega (arith, fits.tag, bit_high h.start, bit_high h.end, bit_high h.key.owner)

  version_field : h.version % 16 % 16 ≡ h.version
  version_field = omega (arith, fits.version)

  flag_back : (n : ℕ) (b : Bool) → n ≡ bit b → eqb n 1 ≡ b
  flag_back n b e = ap (λ (k : ℕ). eqb k 1) e ∙ bit_back b

  pub header_back : (body : List ℕ) → header_of (header_bytes h ++ body) ≡ h
  unfolding header_of key_of header_bytes
  header_back body = λ i.
      record {
        version = version_field i;
        start = flag_back (flags_for h / 128 % 2) h.start start_field i;
        end = flag_back (flags_for h / 64 % 2) h.end end_field i;
        sequence = sequence_field i;
        key = record {
          destination = h.key.destination;
          source = h.key.source;
          owner = flag_back (flags_for h / 8 % 2) h.key.owner owner_field i;
          tag = tag_field i;
        };
      }
