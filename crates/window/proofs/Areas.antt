-- What lies in a window: every place that is handed out fits, a ring has its length, and what is refused is empty.
-- Assumes nothing.
use mathlib.Core.Path.{◌≡◌, refl}
use mathlib.Core.Bool.{Bool, true, false, false≢true}
use mathlib.Core.List.{List, []}
use Prim.Native.Nat.{ℕ, ◌≤◌}
use native.Mathlib.Omega.{arith}
use lib.ListN.{length}
use Rattle.octets.specs.Choice.{pick}
use Rattle.octets.proofs.Parts.{part_length}
use Rattle.mmbi.specs.Pointers.{length_right}
use Rattle.descriptor.specs.declared.configuration.Configuration.{Configuration}
use Rattle.descriptor.specs.declared.configuration.Area.{Area}
use Rattle.descriptor.specs.declared.configuration.Area.TheVariants.{B2h, H2b, Ros, Rws}
use Rattle.descriptor.specs.Places.{end_of}
use Rattle.descriptor.specs.Configuration.{area_place, is_ring, allowed}
use Rattle.descriptor.specs.Reading.{found, described_of}
use Rattle.window.specs.Places.{place_in, area_of}
use Rattle.descriptor.proofs.Configurations.{Allowed, allowed_facts}
use Rattle.descriptor.proofs.Readings.{found_allowed}

-- every area of an allowed configuration lies in the window
pub area_fits : (window : ℕ) (c : Configuration) (area : Area) → Allowed window c → end_of (area_place c area) ≤ window
area_fits window c B2h a = a.b2h
area_fits window c H2b a = a.h2b
area_fits window c Ros a = a.ros
area_fits window c Rws a = a.rws

-- and so does every place that is handed out
pub place_fits : (window : ℕ) (c : Configuration) (area : Area) → end_of (place_in window c area) ≤ window
unfolding place_in
place_fits window c area = fits (allowed window c) refl
  where
    fits : (b : Bool) → allowed window c ≡ b
        → end_of (pick b (area_place c area) (record { offset = 0; length = 0 })) ≤ window
    fits true e = area_fits window c area (allowed_facts window c e)
    fits false e = omega arith

-- an area has the length of its place
pub area_length : (s : List ℕ) (c : Configuration) (area : Area) → allowed (length s) c ≡ true
    → length (area_of s c area) ≡ (area_place c area).length
unfolding area_of place_in
area_length s c area e =
    rw e (part_length s (area_place c area).offset (area_place c area).length
    (area_fits (length s) c area (allowed_facts (length s) c e)))

-- what is refused is empty
pub area_refused : (s : List ℕ) (c : Configuration) (area : Area) → allowed (length s) c ≡ false → area_of s c area ≡ []
unfolding area_of place_in
area_refused s c area e = rw e

-- "each ring length is a multiple of 4 from 128 to 65,536"
pub ring_right_lem : (window : ℕ) (c : Configuration) (area : Area) → is_ring area ≡ true → Allowed window c
    → length_right (area_place c area).length ≡ true
ring_right_lem window c B2h e a = a.b2h_right
ring_right_lem window c H2b e a = a.h2b_right
ring_right_lem window c Ros e a = absurd (false≢true e)
ring_right_lem window c Rws e a = absurd (false≢true e)

-- a ring cut out by an allowed configuration has its length, and that length is right
pub ring_cut : (s : List ℕ) (c : Configuration) (area : Area) → is_ring area ≡ true → allowed (length s) c ≡ true
    → (length (area_of s c area) ≡ (area_place c area).length) × (length_right (area_place c area).length ≡ true)
ring_cut s c area r e = (area_length s c area e, ring_right_lem (length s) c area r (allowed_facts (length s) c e))

-- a ring cut out by a configuration that reading has found in this window
pub found_ring_cut : (s : List ℕ) (c : Configuration) (area : Area) → is_ring area ≡ true → described_of s ≡ found c
    → (length (area_of s c area) ≡ (area_place c area).length) × (length_right (area_place c area).length ≡ true)
found_ring_cut s c area r e = ring_cut s c area r (found_allowed s c e)
