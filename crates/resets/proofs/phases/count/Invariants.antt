-- `resets::phases::count` is safe. The invariant: no more pairs are counted than were asked about.
-- Assumes nothing.
use Prim.Native.Nat.{◌≤◌, ◌+◌, ◌*◌}
use Rattle.resets.proofs.phases.count.Given as goal

abbrev pub invariant-loop-n : goal.invariant-loop-n
invariant-loop-n g l = (l.pairs.all ≤ 16 * l.n) × (l.pairs.waiting ≤ 16 * l.n)

abbrev pub invariant-loop-digits : goal.invariant-loop-digits
invariant-loop-digits g l =
    (l.pairs.all ≤ 16 * l.n + l.digits) × (l.pairs.waiting ≤ 16 * l.n + l.digits) × (l.n ≤ 255)
