-- The descriptor at the window's front (003, Tables 1 and 2), and which ones are accepted (document 01). Fields are
-- big endian (003, 4.2).
-- Assumes nothing.
use Rattle.std.specs.Prelude.{ℕ, ◌*◌, ◌%◌, Bool, ◌&&◌, List, [], ◌∷◌, Result, Ok, Err, eqb, leb, length, get_or}
use Rattle.octets.specs.Checks.{Check, ◌unless◌, first_failing}
use Rattle.octets.specs.Words.{high_first, word_at}
use Rattle.mctp.specs.Refusals.{number_of}
use Rattle.mctp.specs.declared.refusal.Refusal.{Refusal}
use Rattle.descriptor.specs.Configuration.{allowed}
use Rattle.descriptor.specs.declared.configuration.Configuration.{Configuration}

-- "signature `#MMBI$`", in ASCII 23 4D 4D 42 49 24
unfoldable pub signature_right : List ℕ → Bool
signature_right s =
    eqb (get_or s 0 0) 35
    && eqb (get_or s 1 0) 77
    && eqb (get_or s 2 0) 77
    && eqb (get_or s 3 0) 66
    && eqb (get_or s 4 0) 73
    && eqb (get_or s 5 0) 36

-- "version 1 in the low bits of byte 6"; Table 1: "[7:4] Reserved"
abbrev pub version_right : List ℕ → Bool
version_right s = eqb (get_or s 6 0 % 16) 1

-- "buffer type 1 in the low bits of byte 24"; Table 1: "[7:4] Reserved"
abbrev pub type_right : List ℕ → Bool
type_right s = eqb (get_or s 24 0 % 16) 1

-- "bases in 8-byte units in bits 28..0"; "[31:29] – Reserved"
abbrev pub base_at : List ℕ → ℕ → ℕ
base_at s at = word_at high_first s at % 536870912 * 8

-- Table 1: "8:11 .. B2H_BA", "12:15 .. H2B_BA", "16:19 B2H Buffer Length", "20:23 H2B Buffer Length" ("lengths in
-- bytes"); Table 2, from byte 32 on: "0:3 .. H_ROS_P", "4:7 .. H_RWS_P"
unfoldable pub configuration_in : List ℕ → Configuration
configuration_in s =
    record {
      b2h = record { offset = base_at s 8; length = word_at high_first s 16 };
      h2b = record { offset = base_at s 12; length = word_at high_first s 20 };
      ros = base_at s 32;
      rws = base_at s 36;
    }

-- what reading gives, in document 01's numbers: the configuration, or a refusal
pub data Described : Type 0 where
  found : Configuration → Described
  refused : ℕ → Described

-- each case of the answer, with its number or its value
abbrev pub described_in : Result Configuration Refusal → Described
described_in (Ok c) = found c
described_in (Err why) = refused (number_of why)

-- "Otherwise 9 for the signature or a window too short to hold the descriptor, else 10."
abbrev pub read_order : List ℕ → List (Check Described)
read_order s =
    refused 9 unless (leb 64 (length s) && signature_right s)
    ∷ refused 10 unless (version_right s && type_right s && allowed (length s) (configuration_in s))
    ∷ []

-- the first refusal, or the configuration
unfoldable pub described_of : List ℕ → Described
described_of s = first_failing (read_order s) (found (configuration_in s))
