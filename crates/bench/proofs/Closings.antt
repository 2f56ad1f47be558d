-- The last line, put to the front of an output that has room for a line.
-- Assumes nothing.
use mathlib.Core.Path.{◌≡◌, ◌∙◌}
use mathlib.Core.List.{List}
use Prim.Native.Nat.{ℕ, ◌≤◌}
use native.Mathlib.Nat.{zero-add}
use native.Mathlib.Omega.{arith}
use lib.ListN.{length, take}
use Rattle.records.specs.Line.{put, place_after}
use Rattle.records.proofs.Lines.{last_line_most, after_is, put_front}
use Rattle.transcript.specs.declared.state.State.{State}
use Rattle.transcript.specs.Last.{closing}

module _ (s : State) (out : List ℕ) (room : 86 ≤ length out) where
  pub closing_fits : length (closing s) ≤ length out
  closing_fits = omega (arith, last_line_most s.arrivals s.packets)

  pub closing_size : place_after out 0 (closing s) ≡ length (closing s)
  closing_size = after_is out 0 (closing s) (omega (arith, closing_fits)) ∙ zero-add (length (closing s))

  pub closing_front : take (length (closing s)) (put out 0 (closing s)) ≡ closing s
  closing_front = rw (← closing_size) (put_front out 0 (closing s) (omega (arith, closing_fits)))
