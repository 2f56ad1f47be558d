-- `records::line::lay_line` meets its contract: at each arm the number is laid, and then the words of that line.
-- Assumes nothing.
use native.Mathlib.Omega.{arith}
use Prim.Native.Nat.{◌+◌}
use mathlib.Core.Bool.{false}
use mathlib.Core.List.{◌++◌}
use Rattle.records.specs.Decimal.{decimal}
use Rattle.records.specs.Line.{done_slot, length_word, held_slot, bytes_word, refused_word, named, ending, pair}
use Rattle.records.specs.Line.{line_bytes, Placed}
use Rattle.records.proofs.Lines.{Placed-append}
use Rattle.records.proofs.line.lay_line.Goals as goal

pub returns-in-Done : goal.returns-in-Done
unfolding line_bytes
returns-in-Done c =
    let front : Placed c.args.out.now c.args.at (decimal c.args.number)
    (c.args.at + c.lay_decimal.result) c.lay_decimal.new.out =
    record { place = omega arith; stored = c.lay_decimal.ensures.output } in
    rw c.in-Done.is
    (Placed-append (decimal c.args.number)
    (pair done_slot c.in-Done.slot length_word c.in-Done.length c.in-Done.again) front
    (rw c.from.ensures at c.lay_pair.ensures))

pub returns-in-Held : goal.returns-in-Held
unfolding line_bytes
returns-in-Held c =
    let front : Placed c.args.out.now c.args.at (decimal c.args.number)
    (c.args.at + c.lay_decimal.result) c.lay_decimal.new.out =
    record { place = omega arith; stored = c.lay_decimal.ensures.output } in
    rw c.in-Held.is
    (Placed-append (decimal c.args.number)
    (pair held_slot c.in-Held.slot bytes_word c.in-Held.bytes c.in-Held.again) front
    (rw c.from-in-Held.ensures at c.lay_pair-in-Held.ensures))

pub returns-in-Refused : goal.returns-in-Refused
unfolding line_bytes
returns-in-Refused c =
    let front : Placed c.args.out.now c.args.at (decimal c.args.number)
    (c.args.at + c.lay_decimal.result) c.lay_decimal.new.out =
    record { place = omega arith; stored = c.lay_decimal.ensures.output } in
    let word = named refused_word c.in-Refused.number in
    rw c.in-Refused.is
    (Placed-append (decimal c.args.number) (word ++ ending false) front
    (Placed-append word (ending false) (rw c.from-in-Refused.ensures at c.lay_named-end.ensures.placed)
    c.lay_ending.ensures))
