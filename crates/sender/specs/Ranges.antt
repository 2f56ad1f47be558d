-- What may be sent, as inequalities: apart from the tests that a refusal is worked out by (document 02, #101).
-- Assumes nothing.
use Rattle.std.specs.Prelude.{◌≡◌, ◌⊎◌, ℕ, ◌≤◌, ◌<◌}
use Rattle.sender.specs.declared.heading.Heading.{Heading}

-- "a destination (0, 8 to 254 or 255), a source (0 or 8 to 254), tag owner, tag and first sequence number"
pub record InRange (heading : Heading) : Type 0 where
  pub destination : (heading.key.destination.0 ≡ 0) ⊎ (8 ≤ heading.key.destination.0)
  pub source : (heading.key.source.0 ≡ 0) ⊎ ((8 ≤ heading.key.source.0) × (heading.key.source.0 ≤ 254))
  pub tag : heading.key.tag ≤ 7
  pub first : heading.first ≤ 3

-- "a message of 1 to 1,024 bytes": a size that is none
abbrev pub NoMessage : ℕ → Type 0
NoMessage size = (size ≡ 0) ⊎ (1024 < size)
