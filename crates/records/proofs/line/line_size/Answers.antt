-- `records::line::line_size` meets its contract.
-- Assumes nothing.
use native.Mathlib.Omega.{arith}
use Rattle.records.proofs.Lines.{done_size, held_size, refused_size}
use Rattle.records.proofs.line.line_size.Goals as goal

pub returns-in-Done : goal.returns-in-Done
returns-in-Done c =
    let pair = rw c.from.ensures at c.pair_size.ensures.size in
    rw c.in-Done.is
    (omega (arith, done_size c.args.number c.in-Done.slot c.in-Done.length c.in-Done.again))

pub returns-in-Held : goal.returns-in-Held
returns-in-Held c =
    let pair = rw c.from-in-Held.ensures at c.pair_size-in-Held.ensures.size in
    rw c.in-Held.is
    (omega (arith, held_size c.args.number c.in-Held.slot c.in-Held.bytes c.in-Held.again))

pub returns-in-Refused : goal.returns-in-Refused
returns-in-Refused c =
    let digits = rw c.from-in-Refused.ensures at c.count_digits.ensures.count in
    rw c.in-Refused.is
    (omega (arith, refused_size c.args.number c.in-Refused.number))
