-- The rules: start, or not start.
-- Assumes nothing.
use mathlib.Core.Path.{◌≡◌, ap}
use mathlib.Core.Bool.{Bool, true, false}
use mathlib.Core.List.{List}
use Prim.Native.Nat.{ℕ}
use Rattle.octets.specs.Choice.{pick}
use Rattle.mctp.specs.declared.packet.Header.{Header}
use Rattle.slots.specs.declared.state.Slot.{Slot}
use Rattle.decision.specs.Rules.{on_start, on_follow, ruled}

module _ (slots : List Slot) (h : Header) (n : ℕ) where
  pub ruled_start : h.start ≡ true → ruled slots h n ≡ on_start slots h n
  unfolding ruled
  ruled_start e = ap (λ (b : Bool). pick b (on_start slots h n) (on_follow slots h n)) e

  pub ruled_follow : h.start ≡ false → ruled slots h n ≡ on_follow slots h n
  unfolding ruled
  ruled_follow e = ap (λ (b : Bool). pick b (on_start slots h n) (on_follow slots h n)) e
