-- Configurations: the test on one is a list of facts.
-- Assumes nothing.
use mathlib.Core.Path.{◌≡◌, refl}
use mathlib.Core.Bool.{Bool, true, ◌&&◌}
use mathlib.Core.List.{List, [], ◌∷◌}
use Prim.Native.Nat.{ℕ, zero, suc, ◌+◌, ◌%◌, ◌≤◌}
use borrow.Author.Tests.{leb-true, le-leb, eqb-true}
use lib.Dec.{eqb}
use lib.ListN.{get_or}
use Rattle.octets.proofs.Choice.{both}
use Rattle.mmbi.specs.Pointers.{length_right}
use Rattle.descriptor.specs.declared.place.Place.{Place}
use Rattle.descriptor.specs.declared.configuration.Configuration.{Configuration}
use Rattle.descriptor.specs.Places.{end_of, lies_in, apart}
use Rattle.descriptor.specs.Configuration.{descriptor_place, structure_at, inside, clear, on_units, allowed}
use Rattle.descriptor.proofs.Places.{Apart, apart_fact, apart_holds}

-- what keeps a ring clear of the other three
pub record Clear (c : Configuration) (ring : Place) : Type 0 where
  pub descriptor : Apart ring descriptor_place
  pub ros : Apart ring (structure_at c.ros)
  pub rws : Apart ring (structure_at c.rws)

-- what makes every base one that a descriptor can give
pub record OnUnits (c : Configuration) : Type 0 where
  pub b2h : c.b2h.offset % 8 ≡ 0
  pub h2b : c.h2b.offset % 8 ≡ 0
  pub ros : c.ros % 8 ≡ 0
  pub rws : c.rws % 8 ≡ 0

-- what makes a configuration one that a window of this size can have
pub record Allowed (window : ℕ) (c : Configuration) : Type 0 where
  pub descriptor : 64 ≤ window
  pub b2h : end_of c.b2h ≤ window
  pub h2b : end_of c.h2b ≤ window
  pub ros : c.ros + 8 ≤ window
  pub rws : c.rws + 8 ≤ window
  pub rings : Apart c.b2h c.h2b
  pub b2h_clear : Clear c c.b2h
  pub h2b_clear : Clear c c.h2b
  pub b2h_right : length_right c.b2h.length ≡ true
  pub h2b_right : length_right c.h2b.length ≡ true
  pub units : OnUnits c

-- `t && u && ..`: the test at each place of the list holds
abbrev pub all : Bool → List Bool → Bool
all t [] = t
all t (u ∷ l) = all (t && u) l

pub each : (t : Bool) (l : List Bool) → all t l ≡ true → (i : ℕ) → get_or (t ∷ l) i true ≡ true
each t [] e zero = e
each t [] e (suc i) = refl
each t (u ∷ l) e zero = (both t u (each (t && u) l e 0)).0
each t (u ∷ l) e (suc zero) = (both t u (each (t && u) l e 0)).1
each t (u ∷ l) e (suc (suc i)) = each (t && u) l e (suc i)

clear_facts : (c : Configuration) (ring : Place) → clear c ring ≡ true → Clear c ring
unfolding clear
clear_facts c ring e =
    let ros = structure_at c.ros in
    let rws = structure_at c.rws in
    let t = each (apart ring descriptor_place) (apart ring ros ∷ apart ring rws ∷ []) e in
    record {
      descriptor = apart_fact ring descriptor_place (t 0);
      ros = apart_fact ring ros (t 1);
      rws = apart_fact ring rws (t 2);
    }

clear_holds : (c : Configuration) (ring : Place) → Clear c ring → clear c ring ≡ true
unfolding clear
clear_holds c ring h =
    rw (apart_holds ring descriptor_place h.descriptor, apart_holds ring _ h.ros, apart_holds ring _ h.rws)

units_facts : (c : Configuration) → on_units c ≡ true → OnUnits c
units_facts c e =
    let t = each (eqb (c.b2h.offset % 8) 0)
    (eqb (c.h2b.offset % 8) 0 ∷ eqb (c.ros % 8) 0 ∷ eqb (c.rws % 8) 0 ∷ []) e in
    record {
      b2h = eqb-true _ _ (t 0);
      h2b = eqb-true _ _ (t 1);
      ros = eqb-true _ _ (t 2);
      rws = eqb-true _ _ (t 3);
    }

-- an allowed configuration has every one of the facts
pub allowed_facts : (window : ℕ) (c : Configuration) → allowed window c ≡ true → Allowed window c
unfolding allowed inside
allowed_facts window c e =
    let t = each (inside window c)
    (apart c.b2h c.h2b
    ∷ clear c c.b2h
    ∷ clear c c.h2b
    ∷ length_right c.b2h.length
    ∷ length_right c.h2b.length
    ∷ on_units c
    ∷ []) e in
    let i = each (lies_in window descriptor_place)
    (lies_in window c.b2h
    ∷ lies_in window c.h2b
    ∷ lies_in window (structure_at c.ros)
    ∷ lies_in window (structure_at c.rws)
    ∷ []) (t 0) in
    record {
      descriptor = leb-true _ _ (i 0);
      b2h = leb-true _ _ (i 1);
      h2b = leb-true _ _ (i 2);
      ros = leb-true _ _ (i 3);
      rws = leb-true _ _ (i 4);
      rings = apart_fact c.b2h c.h2b (t 1);
      b2h_clear = clear_facts c c.b2h (t 2);
      h2b_clear = clear_facts c c.h2b (t 3);
      b2h_right = t 4;
      h2b_right = t 5;
      units = units_facts c (t 6);
    }

-- and one that has them all is allowed
pub allowed_holds : (window : ℕ) (c : Configuration) → Allowed window c → allowed window c ≡ true
unfolding allowed inside
allowed_holds window c a =
    rw (
      le-leb 64 window a.descriptor,
      le-leb (end_of c.b2h) window a.b2h,
      le-leb (end_of c.h2b) window a.h2b,
      le-leb (c.ros + 8) window a.ros,
      le-leb (c.rws + 8) window a.rws,
      apart_holds c.b2h c.h2b a.rings,
      clear_holds c c.b2h a.b2h_clear,
      clear_holds c c.h2b a.h2b_clear,
      a.b2h_right,
      a.h2b_right,
      a.units.b2h,
      a.units.h2b,
      a.units.ros,
      a.units.rws,
    )
