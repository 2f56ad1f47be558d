-- The two counts of a run: its frames, and those of them that hold a packet.
-- Assumes nothing.
use mathlib.Core.Path.{◌≡◌, refl, ◌∙◌}
use mathlib.Core.Bool.{Bool, true, false}
use mathlib.Core.List.{List, [], ◌∷◌, ◌++◌}
use Prim.Native.Nat.{ℕ, ◌+◌, ◌≤◌, ◌<◌}
use native.Mathlib.Nat.{zero-add}
use native.Mathlib.Omega.{arith}
use borrow.Author.Tests.{lt-ltb}
use lib.Dec.{eqb}
use lib.ListN.{length}
use Rattle.octets.specs.Choice.{pick}
use Rattle.smbus.specs.Reading.{refusal_of}
use Rattle.rack.specs.declared.answer.Beside.{Beside}
use Rattle.rack.specs.Arrivals as carrier
use Rattle.rack.specs.Answers.{arrived_of}
use Rattle.records.specs.Record.{records_of}
use Rattle.records.specs.Line.{last_line}
use Rattle.records.proofs.Walks.{arrivals_in}
use Rattle.transcript.specs.declared.state.State.{State}
use Rattle.transcript.specs.State.{own_address, start, one_more, with_packet}
use Rattle.transcript.specs.Frame.{after_frame}
use Rattle.transcript.specs.Taking.{run, run_on}
use Rattle.transcript.specs.Last.{transcript_of}

-- how many frames hold a packet: "packets is counted by 2's layouts"
unfoldable pub packets_in : List (List ℕ) → ℕ
packets_in [] = 0
packets_in (frame ∷ frames) = pick (eqb (refusal_of 64 frame own_address) 0) 1 0 + packets_in frames

-- a count of 64 bits stops at its last number
pub stops : one_more 18446744073709551615 ≡ 18446744073709551615
unfolding one_more
stops = refl

-- a count that does not stop
more_is : (n : ℕ) → n < 18446744073709551615 → one_more n ≡ n + 1
unfolding one_more
more_is n h = rw (lt-ltb n 18446744073709551615 h)

pub run_arrivals : (s : State) (m : List ℕ) (frames : List (List ℕ))
    → s.arrivals + length frames ≤ 18446744073709551615
    → (run s m frames).state.arrivals ≡ s.arrivals + length frames
unfolding run after_frame
run_arrivals s m [] h = omega arith
run_arrivals s m (f ∷ frames) h =
    let one = more_is s.arrivals (omega arith) in
    run_arrivals (after_frame s m f).state (after_frame s m f).memory frames (omega arith) ∙ omega arith

-- "Packets counts arrivals in which a packet was found": of one frame
found : (s : State) (m p : List ℕ) (beside : Beside) (why : carrier.Without) (good : Bool)
    → s.packets < 18446744073709551615
    → with_packet (arrived_of 64 0 s.receiver m (pick good (carrier.packet p beside) (carrier.none why))).told
    s.packets ≡ s.packets + pick good 1 0
found s m p beside why true h = more_is s.packets h
found s m p beside why false h = omega arith

one_or_none : (good : Bool) → pick good 1 0 ≤ 1
one_or_none true = omega arith
one_or_none false = omega arith

-- and of some frames
pub run_packets_lem : (s : State) (m : List ℕ) (frames : List (List ℕ))
    → s.packets + length frames ≤ 18446744073709551615
    → (run s m frames).state.packets ≡ s.packets + packets_in frames
unfolding run after_frame packets_in carrier.smbus_brings
run_packets_lem s m [] h = omega arith
run_packets_lem s m (f ∷ frames) h =
    let one : (after_frame s m f).state.packets ≡ s.packets + pick (eqb (refusal_of 64 f own_address) 0) 1 0 =
    found s m _ _ _ (eqb (refusal_of 64 f own_address) 0) (omega arith) in
    let most = one_or_none (eqb (refusal_of 64 f own_address) 0) in
    run_packets_lem (after_frame s m f).state (after_frame s m f).memory frames (omega arith) ∙ omega arith

-- the last line tells the whole records, and those of them that hold a packet
pub transcript_counts : (m input : List ℕ) → arrivals_in input ≤ 18446744073709551615
    → transcript_of m input ≡ (run_on start m input).text ++ last_line (arrivals_in input)
    (packets_in (records_of input))
unfolding transcript_of arrivals_in
transcript_counts m input h =
    let frames = records_of input in
    rw (
      run_arrivals start m frames (omega arith),
      run_packets_lem start m frames (omega arith),
      zero-add (length frames),
      zero-add (packets_in frames),
    )
