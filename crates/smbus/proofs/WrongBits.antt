-- Wrong bits in a good frame: changed within eight neighbouring wire bits, or in an odd number of them, it is refused.
-- Assumes nothing.
use mathlib.Core.Path.{◌≡◌}
use mathlib.Core.List.{List}
use Prim.Native.Nat.{ℕ}
use native.Mathlib.Omega.{arith}
use lib.Dec.{T}
use Rattle.octets.specs.Bytes.{Below}
use Rattle.pec.specs.Wire.{WindowChange, OddChange}
use Rattle.pec.proofs.Checks.{Checked, checked_of}
use Rattle.pec.proofs.Odd.{odd}
use Rattle.pec.proofs.Tests.{all_bytes, all_bytes_lem}
use Rattle.pec.proofs.Window.{window}
use Rattle.smbus.specs.Reading.{end_of, before_end, refusal_of}
use Rattle.smbus.proofs.Literal.{literal_frame, literal_good}
use Rattle.smbus.proofs.Readings.{Good, good}

-- What a rule says of a kind of change: a good frame so changed is refused, by some number, at every address and every
-- largest body.
abbrev pub AlwaysRefused : (List ℕ → List ℕ → Type 0) → Type 0
AlwaysRefused Kind =
    (frame changed : List ℕ) → Below 256 frame → Below 256 changed → Kind frame changed
    → (most own : ℕ) → refusal_of most frame own ≡ 0
    → (most' own' : ℕ) → refusal_of most' changed own' ≡ 0 → ⊥

good_checked : (most : ℕ) (frame : List ℕ) (own : ℕ) → refusal_of most frame own ≡ 0 → Checked frame
unfolding end_of before_end
good_checked most frame own e =
    let g : Good most frame own = good most frame own e in
    checked_of frame (omega (arith, g.short)) g.checked

-- A change that leaves no checked list checked is of such a kind.
always_refused : (Kind : List ℕ → List ℕ → Type 0)
    → ((s t : List ℕ) → Below 256 s → Below 256 t → Checked s → Kind s t → Checked t → ⊥)
    → AlwaysRefused Kind
always_refused Kind rule frame changed b c k most own e most' own' f =
    rule frame changed b c (good_checked most frame own e) k (good_checked most' changed own' f)

-- "A good SMBus frame with one or more bits changed, all within eight neighbouring bits in wire order, is refused."
pub window_refused : AlwaysRefused WindowChange
window_refused = always_refused WindowChange window

-- "a good SMBus frame of any permitted length with one, three, or any other odd number of bits changed, anywhere, the
-- PEC included, is refused" (document 02, #113)
pub odd_refused : AlwaysRefused OddChange
odd_refused = always_refused OddChange odd

-- Document 01's frame so changed.
pub literal_refused : (Kind : List ℕ → List ℕ → Type 0) → AlwaysRefused Kind
    → (changed : List ℕ) → T (all_bytes changed) → Kind literal_frame changed
    → (own : ℕ) → refusal_of 64 changed own ≡ 0 → ⊥
literal_refused Kind rule changed t k own =
    rule literal_frame changed (all_bytes_lem literal_frame tt) (all_bytes_lem changed t) k 64 32 literal_good 64 own
