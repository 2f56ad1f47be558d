-- The layout of a frame: it is made of bytes, and what is good is what it makes, of a packet that has a packet's size.
-- Assumes nothing.
use mathlib.Core.Path.{◌≡◌, ap, ◌∙◌}
use mathlib.Core.List.{List, [], ◌∷◌, ◌++◌}
use Prim.Native.Nat.{ℕ, zero, suc, ◌+◌, ◌-◌, ◌*◌, ◌/◌, ◌≤◌, ◌<◌}
use native.Mathlib.Omega.{arith}
use lib.ListN.{length, get_or, take, length-take, length-drop}
use lib.Seq.{take-add}
use Rattle.octets.specs.Bytes.{Below}
use Rattle.octets.proofs.Below.{below-nil, below-cons, below-append}
use Rattle.octets.proofs.Words.{four}
use Rattle.pec.specs.Remainder.{pec_of}
use Rattle.pec.proofs.Checks.{front_last}
use Rattle.pec.proofs.Fold.{pec_byte}
use Rattle.smbus.specs.Layout.{head_of, covered_of, frame_of}
use Rattle.smbus.specs.Reading.{end_of, before_end, part_of}
use Rattle.smbus.proofs.Readings.{Good}

-- A frame is made of bytes where its packet is and both addresses are up to 127,
module _ (destination source : ℕ) (packet : List ℕ) (to : destination ≤ 127) (by : source ≤ 127)
    (long : length packet ≤ 250) where
  head_bytes : Below 256 (head_of destination source packet)
  unfolding head_of
  head_bytes zero = omega arith
  head_bytes (suc zero) = omega arith
  head_bytes (suc (suc zero)) = omega arith
  head_bytes (suc (suc (suc zero))) = omega arith
  head_bytes (suc (suc (suc (suc i)))) = omega arith

  abbrev covered : List ℕ
  covered = covered_of destination source packet

  -- with any byte where the PEC stands,
  pub ended_bytes : (end : ℕ) → end < 256 → Below 256 packet → Below 256 (covered ++ (end ∷ []))
  unfolding covered_of
  ended_bytes end h b =
      below-append covered (end ∷ []) (below-append (head_of destination source packet) packet head_bytes b)
      (below-cons end [] h below-nil)

  -- and with the PEC itself.
  pub frame_bytes : Below 256 packet → Below 256 (frame_of destination source packet)
  unfolding frame_of
  frame_bytes = ended_bytes (pec_of covered) (pec_byte covered)

-- What a good frame gives.
module _ (most : ℕ) (frame : List ℕ) (own : ℕ) (g : Good most frame own) where
  abbrev sender : ℕ
  sender = get_or frame 3 0 / 2

  pub part_length : 5 + length (part_of frame) ≡ length frame
  unfolding part_of
  part_length = simp (length-take, length-drop) (omega arith)

  -- a packet of a packet's size,
  pub part_short : 5 ≤ length (part_of frame)
  part_short = omega (arith, part_length)

  pub part_long : length (part_of frame) ≤ 4 + most
  part_long = omega (arith, part_length)

  before_end_lem : before_end frame ≡ covered_of own sender (part_of frame)
  unfolding before_end part_of covered_of head_of
  before_end_lem =
      let n : length frame - 1 ≡ 4 + (length frame - 5) = omega arith in
      let destination : get_or frame 0 0 ≡ own * 2 = omega arith in
      let command : get_or frame 1 0 ≡ 15 = g.command in
      let count : get_or frame 2 0 ≡ 1 + length (part_of frame) = omega (arith, part_length) in
      let source : get_or frame 3 0 ≡ sender * 2 + 1 = omega arith in
      ap (λ (k : ℕ). take k frame) n
      ∙ take-add 4 (length frame - 5) frame
      ∙ ap (λ (l : List ℕ). l ++ part_of frame)
      (four frame (omega arith) ∙ (λ i. destination i ∷ command i ∷ count i ∷ source i ∷ []))

  -- and it is the frame of that packet, to `own` from its sender
  pub good_frame : frame ≡ frame_of own sender (part_of frame)
  unfolding frame_of end_of before_end
  good_frame =
      front_last frame (omega arith)
      ∙ ap (λ (b : ℕ). before_end frame ++ (b ∷ [])) g.checked
      ∙ ap (λ (l : List ℕ). l ++ (pec_of l ∷ [])) before_end_lem
