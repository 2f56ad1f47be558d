-- `records::line::lay_named` meets its contract.
-- Assumes nothing.
use mathlib.Core.Path.{refl}
use native.Mathlib.Omega.{arith}
use Rattle.records.specs.Decimal.{decimal}
use Rattle.records.specs.Line.{named}
use Rattle.records.proofs.Lines.{Placed-append}
use Rattle.records.proofs.line.lay_named.Goals as goal

pub returns : goal.returns
unfolding named
returns c =
    let a = c.args in
    let digits = c.lay_decimal.ensures in record {
      placed = Placed-append a.word.now (decimal a.n)
          (record { place = refl; stored = c.lay.ensures })
          (record { place = omega arith; stored = digits.output });
      near = omega arith;
    }
