-- `bench::Bench::drain` meets its contract. The loop's invariant: what is still to do ends as the whole does.
-- The measure is what is left of the bytes. Assumes nothing.
use Prim.Native.Nat.{◌-◌}
use lib.ListN.{take}
use Rattle.bench.proofs.Drains.{Going}
use Rattle.bench.proofs.Bench.drain.Given as goal

abbrev pub invariant-loop-end : goal.invariant-loop-end
invariant-loop-end l = Going l.initial.self (take l.end l.initial.self.input) l.self l.read

abbrev pub decreases-loop-end : goal.decreases-loop-end
decreases-loop-end l = l.end - l.read
