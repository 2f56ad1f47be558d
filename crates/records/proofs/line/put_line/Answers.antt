-- `records::line::put_line` meets its contract.
-- Assumes nothing.
use Rattle.std.proofs.Common.{rules, length, sym, ◌∙◌, arith}
use borrow.Author.Tests.{leb-true, leb-false}
use Rattle.records.specs.Line.{line_bytes}
use Rattle.records.proofs.Lines.{put_placed, put_no_room}
use Rattle.records.proofs.line.put_line.Goals as goal

pub returns-then-out-at : goal.returns-then-out-at
returns-then-out-at c =
    let a = c.args in
    let none = put_no_room a.out.now a.at (line_bytes a.number a.line) (omega arith) in
    search rules

pub returns-then-fits : goal.returns-then-fits
returns-then-fits c =
    let a = c.args in
    let room = leb-true (length (line_bytes a.number a.line)) _ (sym c.fits.ensures ∙ c.if-fits.true) in
    let placed = put_placed a.out.now a.at (line_bytes a.number a.line) (omega arith) c.lay_line.ensures in
    search rules

pub returns-else-fits : goal.returns-else-fits
returns-else-fits c =
    let a = c.args in
    let room = leb-false (length (line_bytes a.number a.line)) _ (sym c.fits.ensures ∙ c.if-fits.false) in
    let none = put_no_room a.out.now a.at (line_bytes a.number a.line) (omega arith) in
    search rules
