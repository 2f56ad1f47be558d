-- `octets::copy::lay` meets its contract. The invariant of both loops: what is laid so far is the front of `new`.
-- Assumes nothing.
use lib.ListN.{length, take}
use mathlib.Core.Path.{◌≡◌}
use Rattle.octets.specs.Bytes.{laid}
use Rattle.octets.proofs.copy.lay.Given as goal

abbrev pub invariant-loop-i : goal.invariant-loop-i
invariant-loop-i l = (l.out ≡ laid l.initial.out l.at (take l.i l.new)) × (length l.out ≡ length l.initial.out)

abbrev pub invariant-loop-k : goal.invariant-loop-k
invariant-loop-k l = l.out ≡ laid l.initial.out l.at (take l.k l.new)
