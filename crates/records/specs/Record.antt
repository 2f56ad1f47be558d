-- Records, as the bench program reads them (document 01, "Bench program").
-- Assumes nothing.
use Rattle.std.specs.Prelude.{ℕ, zero, suc, ◌+◌, List, [], ◌∷◌, ◌++◌, leb, length, get_or, take, drop}
use Rattle.octets.specs.Choice.{pick}
use Rattle.records.specs.declared.record.Record.{Record}
use Rattle.records.specs.declared.record.Record.TheVariants.{Whole, Cut, End}

-- "each a length byte and that many bytes of one SMBus frame": what stands at place `at` of s, from its length byte on
unfoldable pub record_at : List ℕ → (at : ℕ) → Record
record_at s at =
    pick (leb (length s) at) End
    (pick (leb (at + 1 + get_or s at 0) (length s)) (Whole (at + 1) (get_or s at 0))
    Cut)

-- a frame's record
abbrev pub record_of : List ℕ → List ℕ
record_of frame = length frame ∷ frame

-- the records of some frames, one after the other
unfoldable pub joined : List (List ℕ) → List ℕ
joined [] = []
joined (frame ∷ frames) = record_of frame ++ joined frames

-- what a walk from the front finds: the frames of the whole records, and what is left behind them
pub record Walk : Type 0 where
  pub frames : List (List ℕ)
  pub rest : List ℕ

abbrev pub found : List ℕ → Walk → Walk
found frame w = record { frames = frame ∷ w.frames; rest = w.rest }

-- the walk, of at most so many steps: "A last record cut short ends the run without a line."
unfoldable pub walk : (steps : ℕ) → List ℕ → Walk
walk zero s = record { frames = []; rest = s }
walk (suc steps) [] = record { frames = []; rest = [] }
walk (suc steps) (size ∷ s) =
    pick (leb size (length s)) (found (take size s) (walk steps (drop size s)))
    (record { frames = []; rest = size ∷ s })

-- each record takes a byte at least, so the list's length is steps enough
unfoldable pub records_of : List ℕ → List (List ℕ)
records_of s = (walk (length s) s).frames

-- what is left behind the whole records: nothing, or a record cut short
unfoldable pub rest_of : List ℕ → List ℕ
rest_of s = (walk (length s) s).rest
