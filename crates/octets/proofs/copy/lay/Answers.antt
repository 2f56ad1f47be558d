-- `octets::copy::lay` meets its contract: byte after byte, where all fit and where some fall off.
-- Assumes nothing.
use lib.ListN.{length-set}
use mathlib.Core.Path.{refl, sym, ◌∙◌}
use native.Mathlib.Numerals.{add-one}
use native.Mathlib.Omega.{arith}
use Rattle.octets.specs.Bytes.{laid}
use Rattle.octets.proofs.Laid.{laid_past, laid_next, laid_cut}
use Rattle.octets.proofs.copy.lay.Goals as goal

pub returns-else-at-out : goal.returns-else-at-out
returns-else-at-out c = sym (laid_past _ _ _ c.if-at-out.false)

pub loop-i-init : goal.loop-i-init
unfolding laid
loop-i-init c = (refl, refl)

pub loop-i-preserved : goal.loop-i-preserved
loop-i-preserved c =
    let a = c.args in (
      rw (c.loop-i.invariant.0, add-one) (laid_next a.out.now a.at a.new.now c.loop-i.i (omega arith)),
      simp length-set c.loop-i.invariant.1,
    )

pub loop-k-init : goal.loop-k-init
unfolding laid
loop-k-init c = refl

pub loop-k-preserved : goal.loop-k-preserved
unfolding laid
loop-k-preserved c =
    let a = c.args in
    let k = c.loop-k.k in
    c.lay_byte.ensures
    ∙ rw (c.loop-k.invariant, add-one) (laid_next a.out.now a.at a.new.now k (omega arith))

pub returns-after-loop-k : goal.returns-after-loop-k
returns-after-loop-k c =
    let a = c.args in
    c.loop-k.invariant ∙ laid_cut a.out.now a.at a.new.now c.loop-k.k (omega arith)
