-- What the program's functions do between and around the system calls, by the transcript's own definitions.
-- Of a read a contract knows how many bytes came and not which: `came` and `reads` are some lists of bytes.
-- Assumes nothing.
use Rattle.std.specs.Prelude.{ℕ, ◌+◌, ◌≤◌, ◌<◌, ◌≡◌, Bool, true, false, not, ◌&&◌, List, [], ◌++◌}
use Rattle.std.specs.Prelude.{ltb, length, take, drop, Ok, is_ok}
use Rattle.octets.specs.Choice.{pick}
use Rattle.records.specs.Record.{joined, records_of, rest_of}
use Rattle.records.specs.Line.{put}
use Rattle.transcript.specs.State.{start}
use Rattle.transcript.specs.Taking.{behind_text, run_on}
use Rattle.transcript.specs.Last.{closing, transcript_of}
use Rattle.bench.specs.declared.Bench.{Bench}
use Rattle.bench.specs.Sending.{nothing_sent, Sends}
use Rattle.bench.specs.Reads.{came_in, goes_on}

-- the bytes held of the input
abbrev pub held_of : Bench → List ℕ
held_of b = take b.held b.input

-- what a read may change: nothing that is held or kept
pub record Stays (b after : Bench) : Type 0 where
  pub state : after.state ≡ b.state
  pub memory : after.memory ≡ b.memory
  pub sent : after.sent ≡ b.sent
  pub count : after.held ≡ b.held
  pub bytes : held_of after ≡ held_of b
  pub size : length after.input ≡ length b.input

-- some of the whole records of some bytes, from the front on, are taken and their lines sent; `count` bytes they are.
-- What is left goes on where they ended, and none are taken only where none are there.
pub record Takes (b : Bench) (bytes : List ℕ) (count : ℕ) (after : Bench) : Type 0 where
  pub text : List ℕ
  pub runs : run_on b.state b.memory bytes ≡ behind_text text (run_on after.state after.memory (drop count bytes))
  pub reads : length (joined (records_of bytes)) ≡ count + length (joined (records_of (drop count bytes)))
  pub inside : count ≤ length bytes
  pub short : length (rest_of bytes) < 256
  pub stops : count ≡ 0 → records_of bytes ≡ []
  pub sent : Sends b.sent (length text) after.sent
  pub input : after.input ≡ b.input
  pub held : after.held ≡ b.held

-- the whole records of some bytes are taken and their lines sent; `count` bytes they are
pub record Drains (b : Bench) (bytes : List ℕ) (count : ℕ) (after : Bench) : Type 0 where
  pub state : after.state ≡ (run_on b.state b.memory bytes).state
  pub memory : after.memory ≡ (run_on b.state b.memory bytes).memory
  pub read : count ≡ length (joined (records_of bytes))
  pub short : length (rest_of bytes) < 256
  pub sent : Sends b.sent (length (run_on b.state b.memory bytes).text) after.sent
  pub input : after.input ≡ b.input
  pub held : after.held ≡ b.held

-- one turn: what came stands behind the bytes held, their whole records are taken, and the rest is held.
-- More is to come unless a write failed or nothing came.
pub record Turns (b : Bench) (goes : Bool) (after : Bench) : Type 0 where
  pub came : List ℕ
  pub state : after.state ≡ (run_on b.state b.memory (held_of b ++ came)).state
  pub memory : after.memory ≡ (run_on b.state b.memory (held_of b ++ came)).memory
  pub sent : Sends b.sent (length (run_on b.state b.memory (held_of b ++ came)).text) after.sent
  pub rest : held_of after ≡ rest_of (held_of b ++ came)
  pub more : goes ≡ (is_ok after.sent && ltb 0 (length came))

-- the last line is put to the output's front and sent
pub record Finishes (b after : Bench) : Type 0 where
  pub state : after.state ≡ b.state
  pub memory : after.memory ≡ b.memory
  pub output : after.output ≡ put b.output 0 (closing b.state)
  pub line : take (length (closing b.state)) after.output ≡ closing b.state
  pub sent : Sends b.sent (length (closing b.state)) after.sent

-- the transcript, or, where a read failed, its lines without the last one
abbrev pub to_send : (failed : Bool) → (memory input : List ℕ) → List ℕ
to_send failed m input = pick failed (run_on start m input).text (transcript_of m input)

-- the whole run, on all that came, however the reads cut it: the state, the memory and the last line are those of
-- its transcript, and as many bytes were sent as are to send. `failed` says that a read failed.
-- It is over only where the input ended, a call failed or 2^64 - 1 turns passed.
pub record Runs (m : List ℕ) (failed : Bool) (after : Bench) : Type 0 where
  pub reads : List (List ℕ)
  pub state : after.state ≡ (run_on start m (came_in reads)).state
  pub memory : after.memory ≡ (run_on start m (came_in reads)).memory
  pub sent : Sends (Ok nothing_sent) (length (to_send failed m (came_in reads))) after.sent
  pub line : failed ≡ false → take (length (closing after.state)) after.output ≡ closing after.state
  pub over : ((not failed && is_ok after.sent) && goes_on reads) ≡ true
      → length reads ≡ 18446744073709551615
