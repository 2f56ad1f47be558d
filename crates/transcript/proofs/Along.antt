-- A chunk so far: the frames taken, what they made, and the frames that are to come from the places reached.
-- Assumes nothing.
use mathlib.Core.Path.{◌≡◌, refl, ap, sym, subst, ◌∙◌}
use mathlib.Core.List.{List, [], ◌∷◌, ◌++◌, append_assoc, append-nil}
use Prim.Native.Nat.{ℕ, ◌+◌, ◌-◌, ◌≤◌}
use native.Mathlib.Nat.{sub-zero, zero-add}
use native.Mathlib.Omega.{arith}
use lib.ListN.{length, take, drop, length-append, length-drop}
use lib.Seq.{length-take-le}
use Rattle.octets.specs.Bytes.{laid}
use Rattle.octets.proofs.Laid.{laid-append, laid-length}
use Rattle.records.specs.declared.record.Record.TheVariants.{Whole}
use Rattle.records.specs.Record.{record_at, joined, records_of}
use Rattle.records.specs.Line.{put, place_after}
use Rattle.records.proofs.Records.{Stands, Tells, told}
use Rattle.records.proofs.Walks.{walk_at_whole, joined-append}
use Rattle.records.proofs.Lines.{put_is, after_is}
use Rattle.transcript.specs.declared.state.State.{State}
use Rattle.transcript.specs.declared.taking.Taken.{Taken}
use Rattle.transcript.specs.Frame.{Ran, after_frame}
use Rattle.transcript.specs.Taking.{behind_text, run, chunk_frames, chunk_run}
use Rattle.transcript.proofs.Frames.{line_fits, frames_more}
use Rattle.transcript.proofs.Runs.{run-append}

-- what `chunk` promises
abbrev pub Chunks : State → (m input out : List ℕ) → Taken → (after written : List ℕ) → Type 0
Chunks s m input out t after written =
    (t.state ≡ (chunk_run (length out) s m input).state)
    × ((after ≡ (chunk_run (length out) s m input).memory)
    × ((t.read ≡ length (joined (chunk_frames (length out) s m (records_of input))))
    × ((t.written ≡ length (chunk_run (length out) s m input).text)
    × (written ≡ laid out 0 (chunk_run (length out) s m input).text))))

-- so far, at place `at` of the input and place `behind` of the output
pub record Along (s₀ : State) (m₀ input out₀ : List ℕ) (s : State) (m out : List ℕ) (at behind : ℕ) : Type 0 where
  pub taken : List (List ℕ)
  pub frames : chunk_frames (length out₀) s₀ m₀ (records_of input)
      ≡ taken ++ chunk_frames (length out - behind) s m (records_of (drop at input))
  pub ran : run s₀ m₀ taken ≡ record { state = s; memory = m; text = (run s₀ m₀ taken).text }
  pub read : at ≡ length (joined taken)
  pub written : behind ≡ length (run s₀ m₀ taken).text
  pub output : out ≡ laid out₀ 0 (run s₀ m₀ taken).text
  pub fits : behind ≤ length out

pub along_start : (s : State) (m input out : List ℕ) → Along s m input out s m out 0 0
unfolding run joined laid
along_start s m input out =
    record {
      taken = [];
      frames = rw (sub-zero (length out));
      ran = refl;
      read = refl;
      written = refl;
      output = refl;
      fits = omega arith;
    }

module _ {s₀ : State} {m₀ input out₀ : List ℕ} {s : State} {m out : List ℕ} {at behind : ℕ}
    (a : Along s₀ m₀ input out₀ s m out at behind) where
  -- with no frame to come, what was taken is the chunk
  pub along_done : chunk_frames (length out - behind) s m (records_of (drop at input)) ≡ []
      → Chunks s₀ m₀ input out₀ (record { state = s; read = at; written = behind }) m out
  along_done none =
      let all : chunk_frames (length out₀) s₀ m₀ (records_of input) ≡ a.taken =
      a.frames ∙ ap (λ (l : List (List ℕ)). a.taken ++ l) none ∙ append-nil a.taken in
      rw all (
        sym (ap (λ (r : Ran). r.state) a.ran),
        (sym (ap (λ (r : Ran). r.memory) a.ran), (a.read, (a.written, a.output))),
      )

  -- one record more
  module _ {start size : ℕ} (whole : record_at input at ≡ Whole start size) (room : 86 ≤ length out - behind) where
    pub stands : Stands input at start size
    stands = subst (Tells input at) whole (told input at)

    -- its frame, as the code cuts it out, and what the frame makes
    abbrev frame : List ℕ
    frame = take (start + size - start) (drop start input)

    abbrev one : Ran
    one = after_frame s m frame

    cut : frame ≡ take size (drop start input)
    cut = let e : start + size - start ≡ size = omega arith in rw e

    framed_size : length frame ≡ size
    framed_size = ap length cut ∙ length-take-le size (drop start input) (rw length-drop (omega (arith, stands.ends)))

    line_room : behind + length one.text ≤ length out
    line_room = omega (arith, line_fits s m frame)

    -- the chunk's frames to come are this one, and those behind it
    abbrev later : List (List ℕ)
    later = records_of (drop (start + size) input)

    to_come : chunk_frames (length out - behind) s m (records_of (drop at input))
        ≡ frame ∷ chunk_frames (length out - behind - length one.text) one.state one.memory later
    to_come =
        ap (chunk_frames (length out - behind) s m)
        (walk_at_whole input at start size whole ∙ ap (λ (f : List ℕ). f ∷ later) (sym cut))
        ∙ frames_more s m (length out - behind) frame later room

    -- as the call that takes the frame leaves it
    pub along_more : {s' : State} {m' out' : List ℕ} {behind' : ℕ}
        → (s' ≡ one.state)
        × ((m' ≡ one.memory)
        × ((behind' ≡ place_after out behind one.text) × (out' ≡ put out behind one.text)))
        → (length out' ≡ length out) × Along s₀ m₀ input out₀ s' m' out' (start + size) behind'
    unfolding run joined
    along_more {s'} {m'} {out'} {behind'} e =
        let place = e.1.1.0 ∙ after_is out behind one.text line_room in
        let output = e.1.1.1 ∙ put_is out behind one.text line_room in
        let sized = laid-length out behind one.text in
        let text = (run s₀ m₀ a.taken).text in
        let more : run s₀ m₀ (a.taken ++ (frame ∷ []))
        ≡ record { state = one.state; memory = one.memory; text = text ++ one.text } =
        run-append s₀ m₀ a.taken (frame ∷ [])
        ∙ ap (λ (r : Ran). behind_text text (run r.state r.memory (frame ∷ []))) a.ran
        ∙ rw (append-nil one.text) in
        let left : length out - behind - length one.text
        ≡ length (laid out behind one.text) - (behind + length one.text) = omega (arith, sized) in
        rw (e.0, e.1.0, place, output) (
          sized,
          record {
            taken = a.taken ++ (frame ∷ []);
            frames = a.frames ∙ ap (λ (l : List (List ℕ)). a.taken ++ l) to_come
                ∙ sym (append_assoc a.taken (frame ∷ []) _) ∙ rw left;
            ran = more ∙ rw more;
            read =
                rw (joined-append, length-append, append-nil frame)
                (omega (arith, a.read, framed_size, stands.follows));
            written = rw (more, length-append) (omega (arith, a.written));
            output = rw more (ap (λ (l : List ℕ). laid l behind one.text) a.output
                ∙ ap (λ (n : ℕ). laid (laid out₀ 0 text) n one.text) (a.written ∙ sym (zero-add (length text)))
                ∙ sym (laid-append out₀ 0 text one.text));
            fits = omega (arith, line_room, sized);
          },
        )
