-- `records::line::lay_pair` meets its contract.
-- Assumes nothing.
use mathlib.Core.List.{◌++◌}
use Rattle.records.specs.Line.{named, ending, pair}
use Rattle.records.proofs.Lines.{Placed-append}
use Rattle.records.proofs.line.lay_pair.Goals as goal

pub returns : goal.returns
unfolding pair
returns c =
    let a = c.args in
    let second = named a.second.now a.b in
    Placed-append (named a.first.now a.a) (second ++ ending a.again) c.lay_named-middle.ensures.placed
    (Placed-append second (ending a.again) c.lay_named-end.ensures.placed c.lay_ending.ensures)
