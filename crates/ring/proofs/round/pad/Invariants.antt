-- `ring::round::pad` meets its contract. The invariant: so many zeros are stored.
-- Assumes nothing.
use lib.ListN.{length, replicate}
use mathlib.Core.Path.{◌≡◌}
use Rattle.ring.specs.Round.{stored}
use Rattle.ring.proofs.round.pad.Given as goal

abbrev pub invariant-loop-k : goal.invariant-loop-k
invariant-loop-k l = (l.ring ≡ stored l.initial.ring l.at (replicate l.k 0)) × (length l.ring ≡ length l.initial.ring)
