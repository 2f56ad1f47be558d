-- `records::decimal::count_digits` meets its contract.
-- Assumes nothing.
use mathlib.Core.Path.{sym}
use native.Mathlib.Omega.{arith}
use Rattle.records.proofs.Decimals.{count_one, count_power}
use Rattle.records.proofs.decimal.count_digits.Goals as goal

pub returns-then-n-eq0-clause-count : goal.returns-then-n-eq0-clause-count
returns-then-n-eq0-clause-count c = sym (count_one c.args.n (omega arith))

pub returns-else-n-eq0-clause-count : goal.returns-else-n-eq0-clause-count
returns-else-n-eq0-clause-count c =
    count_power c.ilog10.result c.args.n (omega arith) c.ilog10.ensures.power_le c.ilog10.ensures.next_power_gt
