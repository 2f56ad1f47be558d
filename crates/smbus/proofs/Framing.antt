-- The frame as it is laid into an output: the head, the packet in two pieces, and the PEC of these three.
-- Assumes nothing.
use mathlib.Core.Path.{◌≡◌, refl, sym, ap, ◌∙◌}
use mathlib.Core.List.{List, [], ◌∷◌, ◌++◌, append_assoc}
use Prim.Native.Nat.{ℕ, ◌+◌, ◌*◌, ◌≤◌}
use native.Mathlib.Omega.{arith}
use lib.ListN.{length, set, length-append}
use Rattle.octets.specs.Bytes.{laid, fronted}
use Rattle.octets.proofs.Laid.{laid-append, laid-length, laid_front}
use Rattle.pec.specs.Remainder.{pec_of}
use Rattle.smbus.specs.Layout.{head_of, covered_of, frame_of}

-- a packet in two pieces
module _ (destination source : ℕ) (header body : List ℕ) where
  -- the head, by their lengths
  abbrev pub head_apart : List ℕ
  head_apart = destination * 2 ∷ 15 ∷ (1 + (length header + length body)) ∷ (source * 2 + 1) ∷ []

  head_same : head_apart ++ (header ++ body) ≡ covered_of destination source (header ++ body)
  unfolding covered_of head_of
  head_same =
      ap (λ (n : ℕ). (destination * 2 ∷ 15 ∷ (1 + n) ∷ (source * 2 + 1) ∷ []) ++ (header ++ body))
      (sym (length-append header body))

  -- what the PEC covers, as three pieces
  pub covered_apart : head_apart ++ header ++ body ≡ covered_of destination source (header ++ body)
  covered_apart = append_assoc head_apart header body ∙ head_same

  -- the three pieces laid one after the other
  pub covered_laid : (out : List ℕ) → laid (laid (laid out 0 head_apart) 4 header) (4 + length header) body
      ≡ laid out 0 (covered_of destination source (header ++ body))
  covered_laid out =
      sym (laid-append (laid out 0 head_apart) 4 header body) ∙ sym (laid-append out 0 head_apart (header ++ body))
      ∙ ap (laid out 0) head_same

module _ (destination source : ℕ) (packet : List ℕ) where
  abbrev covered : List ℕ
  covered = covered_of destination source packet

  pub covered-length : length covered ≡ 4 + length packet
  unfolding covered_of head_of
  covered-length = omega arith

  -- "A frame .. is 4 longer than its count."
  pub frame-length : length (frame_of destination source packet) ≡ 5 + length packet
  unfolding frame_of
  frame-length = rw (length-append covered (pec_of covered ∷ [])) (omega (arith, covered-length))

  module _ (out : List ℕ) (room : 5 + length packet ≤ length out) where
    -- the PEC behind them
    pub frame_laid : set (laid out 0 covered) (4 + length packet) (pec_of covered)
        ≡ fronted out (frame_of destination source packet)
    unfolding laid frame_of
    frame_laid =
        let end : 4 + length packet ≡ 0 + length covered = omega (arith, covered-length) in
        ap (λ (n : ℕ). set (laid out 0 covered) n (pec_of covered)) end
        ∙ sym (laid-append out 0 covered (pec_of covered ∷ []))
        ∙ laid_front out (frame_of destination source packet) (omega (arith, frame-length))

-- The three pieces laid, and the PEC of them stored behind: nothing but the front changes.
module _ (destination source : ℕ) (out header body : List ℕ)
    (room : 5 + (length header + length body) ≤ length out) where
  abbrev copied : List ℕ
  copied = laid (laid (laid out 0 (head_apart destination source header body)) 4 header) (4 + length header) body

  pub copied-length : length copied ≡ length out
  copied-length = simp laid-length refl

  pub filled : set copied (4 + (length header + length body))
      (pec_of (head_apart destination source header body ++ header ++ body))
      ≡ fronted out (frame_of destination source (header ++ body))
  filled =
      let packet = header ++ body in
      let size : length packet ≡ length header + length body = length-append header body in
      rw (covered_laid destination source header body out, covered_apart destination source header body, sym size)
      (frame_laid destination source packet out (omega (arith, size)))
