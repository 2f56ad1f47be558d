-- Where the areas lie in a window by a configuration, which may be any: one that the window can't have is refused with
-- 1.
-- Assumes nothing.
use Rattle.std.specs.Prelude.{ℕ, List, length}
use Rattle.octets.specs.Bytes.{part}
use Rattle.octets.specs.Choice.{pick}
use Rattle.descriptor.specs.Configuration.{area_place, allowed}
use Rattle.descriptor.specs.declared.place.Place.{Place}
use Rattle.descriptor.specs.declared.configuration.Configuration.{Configuration}
use Rattle.descriptor.specs.declared.configuration.Area.{Area}

-- "1 .. setup": the configuration is none that document 01's list lets a window of this size have
unfoldable pub refusal_of : ℕ → Configuration → ℕ
refusal_of window c = pick (allowed window c) 0 1

-- where an area lies; a place of no bytes where refused
unfoldable pub place_in : ℕ → Configuration → Area → Place
place_in window c area = pick (allowed window c) (area_place c area) (record { offset = 0; length = 0 })

-- the area's bytes; none where refused
unfoldable pub area_of : List ℕ → Configuration → Area → List ℕ
area_of s c area = let place = place_in (length s) c area in part s place.offset place.length
