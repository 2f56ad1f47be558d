-- The front panel after a list of calls (document 02, #102): the first two tallies from the slots, the last two "from
-- the list of calls since set-up", by the answers that those calls gave in their order.
-- Assumes nothing.
use Rattle.std.specs.Prelude.{ℕ, ◌+◌, ◌≡◌, Bool, true, false, ◌||◌, List, [], ◌∷◌, eqb}
use Rattle.octets.specs.Choice.{pick, within}
use Rattle.slots.specs.declared.state.Receiver.{Receiver}
use Rattle.slots.specs.Tallies.{gathering_in, held_in, stopped}
use Rattle.receiver.specs.Step.{Said, refused, held, done}
use Rattle.messages.specs.Run.{Reply, rules, freed}

-- "packets offered to the message rules": "A packet refused with 3 or 15 to 22 counts as offered ..; 1 and 2 count
-- nothing."
abbrev pub is_offered : Said → Bool
is_offered (refused n) = eqb n 3 || within 15 22 n
is_offered (held slot bytes again) = true
is_offered (done slot length again) = true

-- "and messages done"
abbrev pub is_done : Said → Bool
is_done (refused n) = false
is_done (held slot bytes again) = false
is_done (done slot length again) = true

-- how many calls were answered so; a slot freed is none of them
unfoldable pub how_many : (Said → Bool) → List Reply → ℕ
how_many f [] = 0
how_many f (rules said ∷ answers) = pick (f said) 1 0 + how_many f answers
how_many f (freed number ∷ answers) = how_many f answers

-- "how many slots are gathering and how many bytes they hold": the first two are what the slots say
abbrev pub SlotsTold : Receiver → Type 0
SlotsTold r = (r.tallies.gathering ≡ gathering_in r.slots) × (r.tallies.held ≡ held_in r.slots)

-- what the panel shows of a receiver whose calls since set-up were answered like this. "The last two .. stop at
-- 4,294,967,295."
pub record Shows (r : Receiver) (answers : List Reply) : Type 0 where
  pub slots : SlotsTold r
  pub offered : r.tallies.offered ≡ stopped (how_many is_offered answers)
  pub done : r.tallies.done ≡ stopped (how_many is_done answers)
