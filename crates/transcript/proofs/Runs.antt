-- Runs of frames: some frames and then others, and an input that is cut anywhere.
-- Assumes nothing.
use mathlib.Core.Path.{◌≡◌, refl, ap, sym, ◌∙◌}
use mathlib.Core.List.{List, [], ◌∷◌, ◌++◌, append_assoc}
use Prim.Native.Nat.{ℕ}
use Rattle.records.specs.Record.{records_of, rest_of}
use Rattle.records.proofs.Walks.{records-append}
use Rattle.transcript.specs.declared.state.State.{State}
use Rattle.transcript.specs.Frame.{Ran, after_frame}
use Rattle.transcript.specs.Taking.{behind_text, run, run_on}

-- one text in front, and another in front of it
pub behind_both : (a b : List ℕ) (r : Ran) → behind_text a (behind_text b r) ≡ behind_text (a ++ b) r
behind_both a b r =
    let texts = sym (append_assoc a b r.text) in
    λ i. record { state = r.state; memory = r.memory; text = texts i }

-- some frames, and then others
pub run-append : (s : State) (m : List ℕ) (a b : List (List ℕ))
    → run s m (a ++ b) ≡ behind_text (run s m a).text (run (run s m a).state (run s m a).memory b)
unfolding run
run-append s m [] b = refl
run-append s m (f ∷ a) b =
    ap (behind_text (after_frame s m f).text) (run-append (after_frame s m f).state (after_frame s m f).memory a b)
    ∙ behind_both (after_frame s m f).text _ _

-- however the input is cut: the rest of the first piece goes on with the second behind it
pub run_cut : (s : State) (m a b : List ℕ)
    → run_on s m (a ++ b)
    ≡ behind_text (run_on s m a).text (run_on (run_on s m a).state (run_on s m a).memory (rest_of a ++ b))
run_cut s m a b = ap (run s m) (records-append a b) ∙ run-append s m (records_of a) (records_of (rest_of a ++ b))
