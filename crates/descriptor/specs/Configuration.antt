-- A configuration, and which ones a window of a given size can have (document 01, "MMBI descriptor, state and ring").
-- Assumes nothing.
use Rattle.std.specs.Prelude.{ℕ, ◌%◌, Bool, true, false, ◌&&◌, eqb}
use Rattle.mmbi.specs.Pointers.{length_right}
use Rattle.descriptor.specs.Places.{lies_in, apart}
use Rattle.descriptor.specs.declared.place.Place.{Place}
use Rattle.descriptor.specs.declared.configuration.Configuration.{Configuration}
use Rattle.descriptor.specs.declared.configuration.Area.{Area}
use Rattle.descriptor.specs.declared.configuration.Area.TheVariants.{B2h, H2b, Ros, Rws}

-- "The descriptor stands at the window's front."; Table 1 ends at byte 63
abbrev pub descriptor_place : Place
descriptor_place = record { offset = 0; length = 64 }

-- Tables 3 and 4 end at byte 7
abbrev pub structure_at : ℕ → Place
structure_at o = record { offset = o; length = 8 }

-- where each area lies by the configuration alone
abbrev pub area_place : Configuration → Area → Place
area_place c B2h = c.b2h
area_place c H2b = c.h2b
area_place c Ros = structure_at c.ros
area_place c Rws = structure_at c.rws

-- the two rings among the areas
abbrev pub is_ring : Area → Bool
is_ring B2h = true
is_ring H2b = true
is_ring Ros = false
is_ring Rws = false

-- "both rings, both structures and the descriptor lie in the lent window"
unfoldable pub inside : ℕ → Configuration → Bool
inside window c =
    lies_in window descriptor_place
    && lies_in window c.b2h
    && lies_in window c.h2b
    && lies_in window (structure_at c.ros)
    && lies_in window (structure_at c.rws)

-- "the two rings overlap neither each other nor any of the other three": one ring and those three
unfoldable pub clear : Configuration → Place → Bool
clear c ring =
    apart ring descriptor_place
    && apart ring (structure_at c.ros)
    && apart ring (structure_at c.rws)

-- "bases in 8-byte units in bits 28..0": a descriptor can give no other base
abbrev pub on_units : Configuration → Bool
on_units c = eqb (c.b2h.offset % 8) 0 && eqb (c.h2b.offset % 8) 0 && eqb (c.ros % 8) 0 && eqb (c.rws % 8) 0

-- "Accepted exactly if": the part of the list that is about places, up to "each ring length ..". A configuration may
-- also be stored state, so its bases are looked at too: it is allowed exactly if some descriptor gives it.
unfoldable pub allowed : ℕ → Configuration → Bool
allowed window c =
    inside window c
    && apart c.b2h c.h2b
    && clear c c.b2h
    && clear c c.h2b
    && length_right c.b2h.length
    && length_right c.h2b.length
    && on_units c
