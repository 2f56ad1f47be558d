-- Which changes lie within a window: the premise of the window rule is met, by every change of one byte among others.
-- Assumes nothing.
use mathlib.Core.Path.{◌≡◌, sym, ap, ◌∙◌}
use mathlib.Core.List.{List, ◌∷◌, ◌++◌}
use Prim.Native.Nat.{ℕ, ◌+◌, ◌-◌, ◌≤◌}
use native.Mathlib.Omega.{arith}
use lib.ListN.{length, get_or, take, drop, length-append}
use lib.Seq.{get_or-take, get_or-drop, take-append_seam, drop-append-add, get_or-append_seam}
use Rattle.pec.specs.Wire.{bits_of, wire, Change, WindowChange}
use Rattle.pec.proofs.WireBits.{wire-append}

-- Other bytes whose wire bits are the same up to a place, and again so many behind it.
pub change_of : (width from : ℕ) (s t : List ℕ) → length s ≡ length t
    → take from (wire s) ≡ take from (wire t) → drop (from + width) (wire s) ≡ drop (from + width) (wire t)
    → (s ≡ t → ⊥) → Change width s t
change_of width from s t lengths front back differs =
    let end = from + width in
    let behind : (j : ℕ) → get_or (wire s) (end + j) 0 ≡ get_or (wire t) (end + j) 0 =
    λ j. sym (get_or-drop end (wire s) j 0) ∙ ap (λ (xs : List ℕ). get_or xs j 0) back ∙ get_or-drop end (wire t) j 0 in
    record {
      lengths = lengths;
      from = from;
      before = λ i h.
          sym (get_or-take from (wire s) i 0 h) ∙ ap (λ (xs : List ℕ). get_or xs i 0) front
          ∙ get_or-take from (wire t) i 0 h;
      after = λ i h. let at : i ≡ end + (i - end) = omega arith in rw at (behind (i - end));
      differs = differs;
    }

-- What lies within some neighbouring bits lies within more of them,
wider : (m n : ℕ) (s t : List ℕ) → m ≤ n → Change m s t → Change n s t
wider m n s t h c =
    record {
      lengths = c.lengths;
      from = c.from;
      before = c.before;
      after = λ i k. c.after i (omega arith);
      differs = c.differs;
    }

-- and no change within eight is left out of the rule's premise.
pub within_eight : (s t : List ℕ) → Change 8 s t → WindowChange s t
within_eight s t c = wider 8 _ s t (omega arith) c

module _ (s t : List ℕ) (a : ℕ) where
  front_bits : take (length (wire s)) (wire (s ++ a ∷ t)) ≡ wire s
  front_bits = ap (take (length (wire s))) (wire-append s (a ∷ t)) ∙ take-append_seam (wire s) (wire (a ∷ t))

  rest_bits : drop (length (wire s) + 8) (wire (s ++ a ∷ t)) ≡ wire t
  unfolding wire bits_of
  rest_bits = ap (drop (length (wire s) + 8)) (wire-append s (a ∷ t)) ∙ drop-append-add (wire s) (wire (a ∷ t)) 8

-- One byte made another, wherever it stands and whichever of its bits change.
pub byte_changed : (s t : List ℕ) (a b : ℕ) → (a ≡ b → ⊥) → Change 8 (s ++ a ∷ t) (s ++ b ∷ t)
byte_changed s t a b other =
    change_of 8 (length (wire s)) (s ++ a ∷ t) (s ++ b ∷ t)
    (length-append s (a ∷ t) ∙ sym (length-append s (b ∷ t)))
    (front_bits s t a ∙ sym (front_bits s t b))
    (rest_bits s t a ∙ sym (rest_bits s t b))
    (λ e. other
    (sym (get_or-append_seam s a t 0) ∙ ap (λ (l : List ℕ). get_or l (length s) 0) e ∙ get_or-append_seam s b t 0))
