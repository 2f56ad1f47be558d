-- `ring::round::copy_in` meets its contract: bytes laid in one run or in two are stored round the ring's end.
-- Assumes nothing.
use mathlib.Core.Path.{ap, ◌∙◌}
use mathlib.Core.List.{List}
use Prim.Native.Nat.{ℕ, ◌-◌}
use native.Mathlib.Omega.{arith}
use lib.ListN.{length, take, drop}
use Rattle.octets.specs.Bytes.{laid}
use Rattle.ring.proofs.Rounds.{stored_straight, stored_round}
use Rattle.ring.proofs.round.copy_in.Goals as goal

pub returns-then-bytes-straight : goal.returns-then-bytes-straight
returns-then-bytes-straight c =
    let a = c.args in
    c.lay.ensures ∙ stored_straight a.ring.now a.at a.bytes.now (omega arith) (omega arith)

pub returns-else-bytes-straight : goal.returns-else-bytes-straight
returns-else-bytes-straight c =
    let a = c.args in
    let straight = length a.ring.now - a.at in
    c.lay-else-bytes-straight-2.ensures
    ∙ ap (λ (s : List ℕ). laid s 0 (take (length a.bytes.now - straight) (drop straight a.bytes.now)))
    c.lay-else-bytes-straight.ensures
    ∙ stored_round a.ring.now a.at a.bytes.now (omega arith) (omega arith) (omega arith)
