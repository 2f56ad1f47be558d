-- `records::line::put_last_line` meets its contract.
-- Assumes nothing.
use native.Mathlib.Omega.{arith}
use Rattle.records.specs.Line.{last_line}
use Rattle.records.proofs.Lines.{last_size, put_placed, put_no_room}
use borrow.Author.Rules.{rules}
use Rattle.records.proofs.line.put_last_line.Goals as goal

pub returns-then-out-at : goal.returns-then-out-at
returns-then-out-at c =
    let a = c.args in
    let none = put_no_room a.out.now a.at (last_line a.arrivals a.packets) (omega arith) in
    search rules

pub returns-then-pair_size-out : goal.returns-then-pair_size-out
unfolding last_line
returns-then-pair_size-out c =
    let a = c.args in
    let size = last_size a.arrivals a.packets in
    let line = last_line a.arrivals a.packets in
    let placed = put_placed a.out.now a.at line (omega arith) c.lay_pair.ensures in
    search rules

pub returns-else-pair_size-out : goal.returns-else-pair_size-out
returns-else-pair_size-out c =
    let a = c.args in
    let size = last_size a.arrivals a.packets in
    let none = put_no_room a.out.now a.at (last_line a.arrivals a.packets) (omega arith) in
    search rules
