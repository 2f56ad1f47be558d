-- From normal runtime, with one end or both asking and the ends stepping in turn, normal runtime comes back after
-- exactly the stated number of steps.
-- Assumes nothing.
use mathlib.Core.Path.{◌≡◌, refl}
use mathlib.Core.List.{List, [], ◌∷◌, map}
use Prim.Native.Nat.{ℕ}
use Rattle.mmbi.proofs.States.{digits}
use Rattle.handshake.specs.Back.{Asker, host_asks, controller_asks, both_ask, asking, in_turn, steps_back, stated_steps}
use Rattle.handshake.specs.Back.{trace, ComesBack}
use Rattle.handshake.specs.Runs.{End, the_host, the_controller, running}
use Rattle.handshake.specs.Steps.{host_step, controller_step}

pub back_in_turn : (asker : Asker) (first : End) → ComesBack asker first
unfolding steps_back trace host_step controller_step
back_in_turn host_asks the_host = record { counted = refl; acked = refl; cleared = refl }
back_in_turn host_asks the_controller = record { counted = refl; acked = refl; cleared = refl }
back_in_turn controller_asks the_host = record { counted = refl; acked = refl; cleared = refl }
back_in_turn controller_asks the_controller = record { counted = refl; acked = refl; cleared = refl }
back_in_turn both_ask the_host = record { counted = refl; acked = refl; cleared = refl }
back_in_turn both_ask the_controller = record { counted = refl; acked = refl; cleared = refl }

-- the flags after each step, as the digits of Table 5: 1011 or 1110, 1111, 0111, 0100, 0000, 1000, 1010
abbrev seen : Asker → End → List ℕ
seen asker first = map digits (trace (in_turn first (stated_steps asker first)) (asking asker))

pub traces :
    (seen host_asks the_host ≡ 11 ∷ 15 ∷ 15 ∷ 7 ∷ 7 ∷ 4 ∷ 4 ∷ 0 ∷ 0 ∷ 8 ∷ 10 ∷ [])
    × (seen host_asks the_controller ≡ 10 ∷ 11 ∷ 15 ∷ 15 ∷ 7 ∷ 7 ∷ 4 ∷ 4 ∷ 0 ∷ 0 ∷ 8 ∷ 10 ∷ [])
    × (seen controller_asks the_host ≡ 10 ∷ 14 ∷ 15 ∷ 7 ∷ 7 ∷ 4 ∷ 4 ∷ 0 ∷ 0 ∷ 8 ∷ 10 ∷ [])
    × (seen controller_asks the_controller ≡ 14 ∷ 15 ∷ 7 ∷ 7 ∷ 4 ∷ 4 ∷ 0 ∷ 0 ∷ 8 ∷ 10 ∷ [])
    × (seen both_ask the_host ≡ 11 ∷ 15 ∷ 15 ∷ 7 ∷ 7 ∷ 4 ∷ 4 ∷ 0 ∷ 0 ∷ 8 ∷ 10 ∷ [])
    × (seen both_ask the_controller ≡ 14 ∷ 15 ∷ 7 ∷ 7 ∷ 4 ∷ 4 ∷ 0 ∷ 0 ∷ 8 ∷ 10 ∷ [])
unfolding trace host_step controller_step
traces = (refl, refl, refl, refl, refl, refl)

-- where the steps don't lead back, one more than there are is counted; and nothing is to be counted where it is back
pub counted_out : (steps_back (in_turn the_host 10) (asking host_asks) ≡ 11)
    × (steps_back (in_turn the_host 3) running ≡ 0)
unfolding steps_back host_step controller_step
counted_out = (refl, refl)
