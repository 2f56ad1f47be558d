-- The frames of an input, run in order, and those of them that a call takes at once: a chunk.
-- Assumes nothing.
use Rattle.std.specs.Prelude.{ℕ, ◌-◌, List, [], ◌∷◌, ◌++◌, leb, length}
use Rattle.octets.specs.Choice.{pick}
use Rattle.records.specs.Record.{records_of}
use Rattle.transcript.specs.declared.state.State.{State}
use Rattle.transcript.specs.Frame.{Ran, after_frame}

-- some bytes in front of a run's
abbrev pub behind_text : List ℕ → Ran → Ran
behind_text text r = record { state = r.state; memory = r.memory; text = text ++ r.text }

-- some frames, each in the state and memory that the one before it left
unfoldable pub run : State → (memory : List ℕ) → List (List ℕ) → Ran
run s m [] = record { state = s; memory = m; text = [] }
run s m (frame ∷ frames) =
    let r = after_frame s m frame in
    behind_text r.text (run r.state r.memory frames)

-- the whole records of some bytes, run
abbrev pub run_on : State → (memory bytes : List ℕ) → Ran
run_on s m bytes = run s m (records_of bytes)

-- the frames that a chunk takes: the first ones, as long as the output has room for the longest line
unfoldable pub chunk_frames : (room : ℕ) → State → (memory : List ℕ) → List (List ℕ) → List (List ℕ)
chunk_frames room s m [] = []
chunk_frames room s m (frame ∷ frames) =
    let r = after_frame s m frame in
    pick (leb 86 room) (frame ∷ chunk_frames (room - length r.text) r.state r.memory frames) []

abbrev pub chunk_run : (room : ℕ) → State → (memory input : List ℕ) → Ran
chunk_run room s m input = run s m (chunk_frames room s m (records_of input))
