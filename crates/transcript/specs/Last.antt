-- The last line of a state, and with it the whole transcript of an input.
-- Assumes nothing.
use Rattle.std.specs.Prelude.{ℕ, List, ◌++◌}
use Rattle.records.specs.Line.{last_line}
use Rattle.transcript.specs.declared.state.State.{State}
use Rattle.transcript.specs.State.{start}
use Rattle.transcript.specs.Taking.{run_on}

abbrev pub closing : State → List ℕ
closing s = last_line s.arrivals s.packets

-- all that the bench program writes on an input, from a given memory
unfoldable pub transcript_of : (memory input : List ℕ) → List ℕ
transcript_of m input = (run_on start m input).text ++ closing (run_on start m input).state
