-- The SMBus frame, byte by byte (document 01, "SMBus frame"; DSP0237 6.3, Table 1).
-- Assumes nothing.
use Rattle.std.specs.Prelude.{ℕ, ◌+◌, ◌*◌, List, [], ◌∷◌, ◌++◌, length}
use Rattle.pec.specs.Remainder.{pec_of}

-- "Byte 0: destination address in bits 7..1, bit 0 is 0. Byte 1: 0x0F. Byte 2: count, the bytes after it up to but not
-- including the PEC, so 5 + body, 6 to 69. Byte 3: source address in bits 7..1, bit 0 is 1."
unfoldable pub head_of : ℕ → ℕ → List ℕ → List ℕ
head_of destination source packet = destination * 2 ∷ 15 ∷ (1 + length packet) ∷ (source * 2 + 1) ∷ []

-- all that the PEC covers: the head, "Then the packet"
unfoldable pub covered_of : ℕ → ℕ → List ℕ → List ℕ
covered_of destination source packet = head_of destination source packet ++ packet

-- "then the PEC. .. The PEC is the remainder of all bytes before it"
unfoldable pub frame_of : ℕ → ℕ → List ℕ → List ℕ
frame_of destination source packet =
    covered_of destination source packet ++ (pec_of (covered_of destination source packet) ∷ [])
