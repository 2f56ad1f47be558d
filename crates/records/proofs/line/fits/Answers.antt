-- `records::line::fits` meets its contract: no line is longer than `LINE_ROOM`.
-- Assumes nothing.
use lib.ListN.{length}
use Rattle.records.specs.Line.{line_bytes}
use mathlib.Core.Path.{sym}
use native.Mathlib.Omega.{arith}
use borrow.Author.Tests.{le-leb}
use Rattle.records.proofs.Lines.{line_most}
use Rattle.records.proofs.line.fits.Goals as goal

pub returns-then-room-ge-LINE_ROOM : goal.returns-then-room-ge-LINE_ROOM
returns-then-room-ge-LINE_ROOM c =
    let a = c.args in
    let most = line_most a.number a.line in
    sym (le-leb (length (line_bytes a.number a.line)) a.room (omega arith))

pub returns : goal.returns
returns c = rw c.line_size.ensures
