-- `records::decimal::lay_decimal` meets its contract. The invariant: the last digits are laid, and those of `rest` are
-- to come.
-- Assumes nothing.
use mathlib.Core.Path.{sym}
use native.Mathlib.Omega.{arith}
use Rattle.octets.proofs.Laid.{laid_past}
use Rattle.records.proofs.Decimals.{decimal_some}
use Rattle.records.proofs.Laying.{laying_none, laying_more, laying_last}
use Rattle.records.proofs.decimal.lay_decimal.Goals as goal

pub loop-place-init : goal.loop-place-init
loop-place-init c =
    let a = c.args in
    (laying_none a.out.now a.at a.n _ c.count_digits-count.ensures.count, omega arith, omega (arith, decimal_some a.n))

pub loop-place-preserved : goal.loop-place-preserved
loop-place-preserved c = (
  rw (c.lay_byte.ensures, c.digit.ensures) (laying_more c.loop-place.invariant.0 (omega arith) (omega arith)),
  omega arith,
  omega arith,
)

pub returns-after-loop-place-clause-output : goal.returns-after-loop-place-clause-output
returns-after-loop-place-clause-output c =
    rw (c.lay_byte-then-at-out.ensures, c.digit-then-at-out.ensures)
    (laying_last c.loop-place.invariant.0 (omega arith) (omega arith))

pub returns-else-at-out-clause-output : goal.returns-else-at-out-clause-output
returns-else-at-out-clause-output c = sym (laid_past _ _ _ c.if-at-out.false)
