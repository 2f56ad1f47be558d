-- A ring cut out of a window by a configuration that was read from it: its length is one that the ring calls take, and
-- what they write there leaves the rest of the window.
-- Assumes nothing.
use mathlib.Core.Path.{◌≡◌, refl, ◌∙◌}
use mathlib.Core.Bool.{Bool, true}
use mathlib.Core.List.{List}
use Prim.Native.Nat.{ℕ}
use borrow.Author.Tests.{eq-eqb}
use lib.ListN.{length}
use Rattle.descriptor.specs.declared.configuration.Configuration.{Configuration}
use Rattle.descriptor.specs.declared.configuration.Area.{Area}
use Rattle.descriptor.specs.Configuration.{area_place, is_ring}
use Rattle.descriptor.specs.Reading.{found, described_of}
use Rattle.descriptor.proofs.Readings.{found_allowed}
use Rattle.window.specs.Places.{area_of}
use Rattle.window.specs.PutBack.{RingChanged}
use Rattle.window.proofs.Areas.{found_ring_cut}
use Rattle.window.proofs.PutBack.{put_back_lem}
use Rattle.ring.specs.Numbers.{set_up_right}
use Rattle.ring.specs.Writing as putting
use Rattle.ring.proofs.RoundTrip.{written-length}

pub cut_ring_right : (window : List ℕ) (c : Configuration) (area : Area) → is_ring area ≡ true
    → described_of window ≡ found c
    → set_up_right 64 (area_place c area).length (length (area_of window c area)) ≡ true
cut_ring_right window c area is e =
    let cut = found_ring_cut window c area is e in
    rw (cut.1, cut.0, eq-eqb (area_place c area).length _ refl)

-- the window once a ring that was lent out of it, and written to, is back
module _ (window : List ℕ) (c : Configuration) (area : Area) (is : is_ring area ≡ true)
    (e : described_of window ≡ found c)
    (configured : ℕ) (running : Bool) (read write : ℕ) (p : List ℕ) where
  abbrev ring : List ℕ
  ring = putting.written_of 64 (area_of window c area) configured running read write p

  fits : length ring ≡ (area_place c area).length
  fits = written-length 64 (area_of window c area) configured running read write p
      ∙ (found_ring_cut window c area is e).0

  pub write_stays : RingChanged window c area ring
  write_stays = put_back_lem window c area ring is (found_allowed window c e) fits
