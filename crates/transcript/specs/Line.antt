-- What an arrival's answer is as a line (document 01, "Bench program").
-- Assumes nothing.
use Rattle.receiver.specs.Step as rules
use Rattle.rack.specs.Arrivals as carrier
use Rattle.rack.specs.Answers.{Told, given, nothing}
use Rattle.records.specs.declared.line.Line.{Line}
use Rattle.records.specs.declared.line.Line.TheVariants.{Done, Held, Refused}

abbrev pub line_of_said : rules.Said → Line
line_of_said (rules.refused number) = Refused number
line_of_said (rules.held slot bytes again) = Held slot bytes again
line_of_said (rules.done slot length again) = Done slot length again

-- an arrival without a packet. No frame is EMPTY or skipped (that is the ring's): those rows only make it total.
abbrev pub line_without : carrier.Without → Line
line_without carrier.empty = Refused 0
line_without (carrier.skipped number next) = Refused number
line_without (carrier.refused number) = Refused number

abbrev pub line_of : Told → Line
line_of (given beside said) = line_of_said said
line_of (nothing why) = line_without why
