-- All packets of a message, in order (document 02, #101).
-- Assumes nothing.
use Rattle.std.specs.Prelude.{List, [], ◌∷◌, ℕ, zero, suc, length}
use Rattle.sender.specs.declared.heading.Heading.{Heading}
use Rattle.sender.specs.Cutting.{packets_in, packet_body, packet_at}

-- what f gives to i, i + 1, .., n of them
unfoldable pub along : {A : Type 0} → (ℕ → A) → (i n : ℕ) → List A
along f i zero = []
along f i (suc n) = f i ∷ along f (suc i) n

-- "Fed in order": the packets
abbrev pub all_packets : (most : ℕ) → Heading → (message : List ℕ) → List (List ℕ)
all_packets most heading message = along (packet_at most heading message) 0 (packets_in most (length message))

-- and their bodies
abbrev pub all_bodies : (most : ℕ) (message : List ℕ) → List (List ℕ)
all_bodies most message = along (packet_body most message) 0 (packets_in most (length message))
