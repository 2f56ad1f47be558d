-- `ring::round::copy_out` meets its contract: what stands in one run or in two is the front of the rounded ring.
-- Assumes nothing.
use mathlib.Core.Path.{ap, ◌∙◌}
use mathlib.Core.List.{List}
use Prim.Native.Nat.{ℕ, ◌-◌}
use native.Mathlib.Omega.{arith}
use lib.ListN.{length, take}
use Rattle.octets.specs.Bytes.{laid}
use Rattle.ring.proofs.Rounds.{copied_straight, copied_round}
use Rattle.ring.proofs.round.copy_out.Goals as goal

pub returns-then-n-straight : goal.returns-then-n-straight
returns-then-n-straight c =
    let a = c.args in
    c.lay.ensures
    ∙ copied_straight a.ring.now a.at a.n a.out.now (omega arith) (omega arith)

pub returns-else-n-straight : goal.returns-else-n-straight
returns-else-n-straight c =
    let a = c.args in
    let straight = length a.ring.now - a.at in
    c.lay-else-n-straight-2.ensures
    ∙ ap (λ (s : List ℕ). laid s straight (take (a.n - straight) a.ring.now)) c.lay-else-n-straight.ensures
    ∙ copied_round a.ring.now a.at a.n a.out.now (omega arith) (omega arith) (omega arith) (omega arith)
