-- `ring::round::pad` meets its contract.
-- Assumes nothing.
use mathlib.Core.Path.{◌≡◌, refl, ap, ◌∙◌}
use mathlib.Core.List.{List, []}
use Prim.Native.Nat.{ℕ, ◌+◌}
use native.Mathlib.Omega.{arith}
use lib.ListN.{length, replicate, length-replicate}
use Rattle.octets.specs.Bytes.{laid}
use Rattle.ring.proofs.Rounds.{stored-length, stored_straight, zero_more}
use Rattle.ring.proofs.round.pad.Goals as goal

pub loop-k-init : goal.loop-k-init
unfolding laid
loop-k-init c = (stored_straight c.args.ring.now c.args.at [] (omega arith) (omega arith), refl)

pub loop-k-preserved : goal.loop-k-preserved
loop-k-preserved c =
    let ring = c.args.ring.now in
    let k = c.loop-k.k in
    let zeros : List ℕ = replicate (k + 1) 0 in
    let long : length zeros ≡ k + 1 = length-replicate {A = ℕ} (k + 1) 0 in
    let more =
    zero_more ring c.args.at k (omega arith) (omega arith) c.loop-k.invariant.0
    c.next.ensures c.lay_byte.ensures in
    (more, ap length more ∙ stored-length ring c.args.at zeros (omega arith))
