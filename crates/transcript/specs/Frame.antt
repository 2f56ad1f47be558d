-- One frame to one line (document 01, "Bench program"): what it makes of the state and the memory, and its line.
-- Assumes nothing.
use Rattle.std.specs.Prelude.{List, ℕ}
use Rattle.rack.specs.Arrivals.{smbus_brings}
use Rattle.rack.specs.Answers.{AfterArrival, arrived_of}
use Rattle.records.specs.Line.{line_bytes}
use Rattle.transcript.specs.declared.state.State.{State}
use Rattle.transcript.specs.State.{own_address, every_time, one_more, with_packet}
use Rattle.transcript.specs.Line.{line_of}

-- the state and the memory after one frame or several, and the bytes of their lines
pub record Ran : Type 0 where
  pub state : State
  pub memory : List ℕ
  pub text : List ℕ

-- each arrival is counted, and its line has its number
abbrev pub counted : State → AfterArrival → Ran
counted s left =
    record {
      state =
          record {
            receiver = left.receiver;
            arrivals = one_more s.arrivals;
            packets = with_packet left.told s.packets;
          };
      memory = left.memory;
      text = line_bytes (one_more s.arrivals) (line_of left.told);
    }

-- one frame's arrival at our own address
unfoldable pub after_frame : State → (memory frame : List ℕ) → Ran
after_frame s m frame = counted s (arrived_of 64 every_time s.receiver m (smbus_brings 64 frame own_address))
