-- The frames that a chunk takes: one by one, the first of all that there are, and their lines within the room.
-- Assumes nothing.
use mathlib.Core.Path.{◌≡◌, refl, ap, sym, ◌∙◌}
use mathlib.Core.List.{List, [], ◌∷◌, ◌++◌}
use mathlib.Core.Logic.{by_cases}
use Prim.Native.Nat.{ℕ, ◌-◌, ◌≤◌, ◌<◌}
use native.Mathlib.Decide.{dec_lt}
use native.Mathlib.Omega.{arith}
use borrow.Author.Tests.{le-leb, lt-leb}
use lib.ListN.{length, length-append}
use Rattle.records.proofs.Lines.{line_most}
use Rattle.transcript.specs.declared.state.State.{State}
use Rattle.transcript.specs.Frame.{after_frame}
use Rattle.transcript.specs.Taking.{run, chunk_frames}

-- a frame's line is no longer than the room that a chunk asks for
pub line_fits : (s : State) (m f : List ℕ) → length (after_frame s m f).text ≤ 86
unfolding after_frame
line_fits s m f = line_most _ _

module _ (s : State) (m : List ℕ) (room : ℕ) where
  pub frames_none : chunk_frames room s m [] ≡ []
  unfolding chunk_frames
  frames_none = refl

  pub frames_full : (frames : List (List ℕ)) → room < 86 → chunk_frames room s m frames ≡ []
  unfolding chunk_frames
  frames_full [] h = refl
  frames_full (f ∷ frames) h = rw (lt-leb 86 room h)

  pub frames_more : (f : List ℕ) (frames : List (List ℕ)) → 86 ≤ room
      → chunk_frames room s m (f ∷ frames)
      ≡ f ∷ chunk_frames (room - length (after_frame s m f).text) (after_frame s m f).state
      (after_frame s m f).memory frames
  unfolding chunk_frames
  frames_more f frames h = rw (le-leb 86 room h)

-- the frames that are left, and the room that the lines of those taken need
pub record Took (room : ℕ) (s : State) (m : List ℕ) (frames : List (List ℕ)) : Type 0 where
  pub rest : List (List ℕ)
  pub split : frames ≡ chunk_frames room s m frames ++ rest
  pub fits : length (run s m (chunk_frames room s m frames)).text ≤ room

took_none : (room : ℕ) (s : State) (m : List ℕ) (frames : List (List ℕ)) → chunk_frames room s m frames ≡ []
    → Took room s m frames
unfolding run
took_none room s m frames e =
    record { rest = frames; split = ap (λ (l : List (List ℕ)). l ++ frames) (sym e); fits = rw e (omega arith) }

pub took : (room : ℕ) (s : State) (m : List ℕ) (frames : List (List ℕ)) → Took room s m frames
unfolding run
took room s m [] = took_none room s m [] (frames_none s m room)
took room s m (f ∷ frames) =
    by_cases (dec_lt room 86)
    (λ (h : room < 86). took_none room s m (f ∷ frames) (frames_full s m room (f ∷ frames) h))
    (λ (h : room < 86 → ⊥).
    let r = after_frame s m f in
    let t = took (room - length r.text) r.state r.memory frames in
    let is = frames_more s m room f frames (omega arith) in
    record {
      rest = t.rest;
      split = ap (λ (l : List (List ℕ)). f ∷ l) t.split ∙ ap (λ (l : List (List ℕ)). l ++ t.rest) (sym is);
      fits = rw (is, length-append) (omega (arith, t.fits, line_fits s m f));
    })
