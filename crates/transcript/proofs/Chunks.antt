-- A chunk of an input: within its bounds, its lines at the output's front, and the rest of the input to come.
-- Assumes nothing.
use mathlib.Core.Path.{◌≡◌, refl, ap, sym, ◌∙◌}
use mathlib.Core.List.{List, [], ◌∷◌, ◌++◌, append_assoc, append-nil}
use Prim.Native.Nat.{ℕ, ◌+◌, ◌≤◌}
use native.Mathlib.Omega.{arith}
use lib.ListN.{length, take, drop, length-append}
use lib.Seq.{take-append_seam}
use Rattle.octets.specs.Bytes.{fronted}
use Rattle.octets.proofs.Laid.{laid_front}
use Rattle.records.specs.Record.{joined, records_of, rest_of}
use Rattle.records.proofs.Walks.{records_split, records_passed, joined-append}
use Rattle.transcript.specs.declared.state.State.{State}
use Rattle.transcript.specs.declared.taking.Taken.{Taken}
use Rattle.transcript.specs.Taking.{behind_text, run, run_on, chunk_frames, chunk_run}
use Rattle.transcript.proofs.Frames.{frames_more, Took, took}
use Rattle.transcript.proofs.Along.{Chunks}
use Rattle.transcript.proofs.Runs.{run-append}

module _ (room : ℕ) (s : State) (m input : List ℕ) where
  abbrev frames : List (List ℕ)
  frames = chunk_frames room s m (records_of input)

  -- the input behind their records
  abbrev later : List ℕ
  later = drop (length (joined frames)) input

  t : Took room s m (records_of input)
  t = took room s m (records_of input)

  whole : input ≡ joined frames ++ (joined t.rest ++ rest_of input)
  whole =
      sym (records_split input)
      ∙ ap (λ (l : List (List ℕ)). joined l ++ rest_of input) t.split
      ∙ ap (λ (l : List ℕ). l ++ rest_of input) (joined-append frames t.rest)
      ∙ append_assoc (joined frames) (joined t.rest) (rest_of input)

  pub chunk_within : length (joined frames) ≤ length input
  chunk_within = omega (arith, ap length whole ∙ length-append (joined frames) (joined t.rest ++ rest_of input))

  passed : take (length (joined frames)) input ≡ joined frames
  passed =
      ap (take (length (joined frames))) whole ∙ take-append_seam (joined frames) (joined t.rest ++ rest_of input)

  -- the frames left are those of the rest of the input
  left_over : records_of input ≡ frames ++ records_of later
  left_over =
      ap records_of (sym (append-nil input))
      ∙ records_passed input [] (length (joined frames)) frames passed
      ∙ ap (λ (l : List ℕ). frames ++ records_of l) (append-nil later)

  -- the rest of the input goes on where the chunk ended
  pub chunk_then : run_on s m input
      ≡ behind_text (run s m frames).text (run_on (run s m frames).state (run s m frames).memory later)
  chunk_then = ap (run s m) left_over ∙ run-append s m frames (records_of later)

  pub chunk_reads : length (joined (records_of input)) ≡ length (joined frames) + length (joined (records_of later))
  chunk_reads =
      ap (λ (l : List (List ℕ)). length (joined l)) left_over
      ∙ ap length (joined-append frames (records_of later))
      ∙ length-append (joined frames) (joined (records_of later))

-- with room for a line, a chunk takes nothing only where no frame is left
pub chunk_stops : (room : ℕ) (s : State) (m : List ℕ) (frames : List (List ℕ)) → 86 ≤ room
    → length (joined (chunk_frames room s m frames)) ≡ 0 → frames ≡ []
unfolding joined
chunk_stops room s m [] h e = refl
chunk_stops room s m (f ∷ frames) h e =
    absurd (omega (arith, ap (λ (l : List (List ℕ)). length (joined l)) (frames_more s m room f frames h)))

-- as the call answers: within its bounds, its lines sent on, and the rest of the input to come
pub record Chunked (s : State) (m input out : List ℕ) (t : Taken) (after written : List ℕ) : Type 0 where
  pub text : List ℕ
  pub front : take t.written written ≡ text
  pub runs : run_on s m input ≡ behind_text text (run_on t.state after (drop t.read input))
  pub reads : length (joined (records_of input)) ≡ t.read + length (joined (records_of (drop t.read input)))
  pub inside : t.read ≤ length input
  pub fits : t.written ≤ length out
  pub stops : t.read ≡ 0 → records_of input ≡ []

pub chunked : {t : Taken} {after written : List ℕ} (s : State) (m input out : List ℕ) → 86 ≤ length out
    → Chunks s m input out t after written
    → Chunked s m input out t after written
unfolding fronted
chunked {t} {after} {written} s m input out room e =
    let text = (chunk_run (length out) s m input).text in
    let read = e.1.1.0 in
    let size = e.1.1.1.0 in
    let fits = (took (length out) s m (records_of input)).fits in
    record {
      text = text;
      front = rw (size, e.1.1.1.1, laid_front out text fits) (take-append_seam text (drop (length text) out));
      runs = rw (e.0, e.1.0, read) (chunk_then (length out) s m input);
      reads = rw read (chunk_reads (length out) s m input);
      inside = omega (arith, chunk_within (length out) s m input);
      fits = omega (arith, fits);
      stops = λ (none : t.read ≡ 0). chunk_stops (length out) s m (records_of input) room (sym read ∙ none);
    }
