-- Reserved bits are ignored: windows that differ there alone get the same answer.
-- Assumes nothing.
use mathlib.Core.Path.{◌≡◌}
use mathlib.Core.List.{List, [], ◌∷◌, ◌++◌}
use Prim.Native.Nat.{ℕ, ◌+◌, ◌%◌}
use native.Mathlib.Omega.{arith}
use lib.ListN.{length, get_or, replicate}
use Rattle.octets.specs.Bytes.{Below}
use Rattle.octets.specs.Words.{high_first, word_at}
use Rattle.descriptor.specs.Reading.{signature_right, base_at, configuration_in, described_of}

-- How much of each byte is looked at, as a divisor: 256 for all of it, 16 for the low four bits (version, buffer
-- type), 32 for the low five (a base's bits 28..24), 1 for nothing ("Reserved", OS use, interrupts, and all that
-- follows the descriptor)
abbrev pub looked : List ℕ
looked =
    replicate 6 256 ++ (16 ∷ 1 ∷ [])
    ++ (32 ∷ replicate 3 256)
    ++ (32 ∷ replicate 3 256)
    ++ replicate 8 256
    ++ (16 ∷ replicate 7 1)
    ++ (32 ∷ replicate 3 256)
    ++ (32 ∷ replicate 3 256)

-- windows that differ only where reading does not look
pub record Alike (a b : List ℕ) : Type 0 where
  pub lengths : length a ≡ length b
  pub bytes : Below 256 a
  pub bytes_too : Below 256 b
  pub same : (i : ℕ) → get_or a i 0 % get_or looked i 1 ≡ get_or b i 0 % get_or looked i 1

module _ (a b : List ℕ) (w : Alike a b) where
  -- a byte that is looked at whole
  whole : (i : ℕ) → get_or a i 0 % 256 ≡ get_or b i 0 % 256 → get_or a i 0 ≡ get_or b i 0
  whole i e = omega (arith, w.bytes i, w.bytes_too i)

  word : (at : ℕ) → get_or a at 0 % 256 ≡ get_or b at 0 % 256 → get_or a (at + 1) 0 % 256 ≡ get_or b (at + 1) 0 % 256
      → get_or a (at + 2) 0 % 256 ≡ get_or b (at + 2) 0 % 256 → get_or a (at + 3) 0 % 256 ≡ get_or b (at + 3) 0 % 256
      → word_at high_first a at ≡ word_at high_first b at
  unfolding word_at
  word at e0 e1 e2 e3 = rw (whole at e0, whole (at + 1) e1, whole (at + 2) e2, whole (at + 3) e3)

  base : (at : ℕ) → get_or a at 0 % 32 ≡ get_or b at 0 % 32 → get_or a (at + 1) 0 % 256 ≡ get_or b (at + 1) 0 % 256
      → get_or a (at + 2) 0 % 256 ≡ get_or b (at + 2) 0 % 256 → get_or a (at + 3) 0 % 256 ≡ get_or b (at + 3) 0 % 256
      → base_at a at ≡ base_at b at
  unfolding word_at
  base at e0 e1 e2 e3 = rw (whole (at + 1) e1, whole (at + 2) e2, whole (at + 3) e3) (omega arith)

  configurations : configuration_in a ≡ configuration_in b
  unfolding configuration_in
  configurations =
      let e = w.same in
      rw (
        base 8 (e 8) (e 9) (e 10) (e 11),
        base 12 (e 12) (e 13) (e 14) (e 15),
        word 16 (e 16) (e 17) (e 18) (e 19),
        word 20 (e 20) (e 21) (e 22) (e 23),
        base 32 (e 32) (e 33) (e 34) (e 35),
        base 36 (e 36) (e 37) (e 38) (e 39),
      )

  signatures : signature_right a ≡ signature_right b
  unfolding signature_right
  signatures =
      let e = w.same in
      rw (whole 0 (e 0), whole 1 (e 1), whole 2 (e 2), whole 3 (e 3), whole 4 (e 4), whole 5 (e 5))

  pub reserved_ignored : described_of a ≡ described_of b
  unfolding described_of
  reserved_ignored =
      let version : get_or a 6 0 % 16 ≡ get_or b 6 0 % 16 = w.same 6 in
      let kind : get_or a 24 0 % 16 ≡ get_or b 24 0 % 16 = w.same 24 in
      rw (w.lengths, signatures, version, kind, configurations)
