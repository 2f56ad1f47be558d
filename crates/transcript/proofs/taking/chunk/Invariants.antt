-- `transcript::taking::chunk` meets its contract. The loop's invariant: the frames taken so far are its first, and made
-- what is there. The measure is what is left of the input. Assumes nothing.
use mathlib.Core.Path.{◌≡◌}
use Prim.Native.Nat.{◌-◌}
use lib.ListN.{length}
use Rattle.transcript.proofs.Along.{Along}
use Rattle.transcript.proofs.taking.chunk.Given as goal

abbrev pub invariant-loop-output : goal.invariant-loop-output
invariant-loop-output l =
    Along l.initial.state l.initial.memory l.input l.initial.output l.state l.memory l.output l.read l.written
    × (length l.output ≡ length l.initial.output)
    × (length l.memory ≡ length l.initial.memory)

abbrev pub decreases-loop-output : goal.decreases-loop-output
decreases-loop-output l = length l.input - l.read
