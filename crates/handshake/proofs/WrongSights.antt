-- One wrong sight of the flags, by either end, leaves a way back, but for the few that are named.
-- Assumes nothing.
use mathlib.Core.Path.{◌≡◌, refl, ap}
use mathlib.Core.Bool.{Bool, true, false, not, ◌&&◌, ◌||◌}
use mathlib.Core.List.{List}
use Prim.Native.Nat.{ℕ, ◌*◌, ◌≤◌}
use lib.ListN.{length}
use Rattle.octets.proofs.Choice.{both, implies, implied}
use Rattle.mmbi.specs.declared.interface.Flags.{Flags}
use Rattle.mmbi.specs.Interface.{same_flags}
use Rattle.mmbi.proofs.States.{every_flags, every_flags_lem}
use Rattle.handshake.specs.Back.{Fair, BackWithin, misled, beyond_help}
use Rattle.handshake.specs.Runs.{Ends, End, the_host, the_controller, Move, after, running}
use Rattle.handshake.specs.Steps.{host_step, controller_step}
use Rattle.handshake.proofs.Fair.{back_within, running_finishes}
use Rattle.handshake.proofs.Left.{every_ends, every_ends_lem, left_within, left, finishes, few_left, finishes_after}

-- where the way back can be gone, it still can after a step on any flags, but for those beyond help
abbrev helped : End → Flags → Ends → Bool
helped end seen e = implies (not (beyond_help end seen e)) (finishes (misled end seen e))

abbrev sights_test : Ends → Bool
sights_test e = implies (finishes e) (every_flags (λ seen. helped the_host seen e && helped the_controller seen e))

sights_tested : every_ends sights_test ≡ true
unfolding finishes left left_within host_step controller_step
sights_tested = refl

each_helped : (seen : Flags) (e : Ends) → finishes e ≡ true
    → (helped the_host seen e ≡ true) × (helped the_controller seen e ≡ true)
each_helped seen e can =
    both (helped the_host seen e) (helped the_controller seen e)
    (every_flags_lem (λ f. helped the_host f e && helped the_controller f e)
    (implied (finishes e) _ (every_ends_lem sights_test sights_tested e) can) seen)

still_finishes : (end : End) (seen : Flags) (e : Ends) → finishes e ≡ true → beyond_help end seen e ≡ false
    → finishes (misled end seen e) ≡ true
still_finishes the_host seen e can n =
    implied (not (beyond_help the_host seen e)) _ (each_helped seen e can).0 (ap not n)
still_finishes the_controller seen e can n =
    implied (not (beyond_help the_controller seen e)) _ (each_helped seen e can).1 (ap not n)

pub back_after_a_wrong_sight : (history : List Move) (end : End) (seen : Flags)
    → beyond_help end seen (after history running) ≡ false
    → (k : ℕ) (order : List End) → Fair k order → 8 * k ≤ length order
    → BackWithin (8 * k) order (misled end seen (after history running))
back_after_a_wrong_sight history end seen n k order fair long =
    let now = misled end seen (after history running) in
    let can = still_finishes end seen (after history running) (finishes_after history running running_finishes) n in
    back_within k 8 order now can (few_left now can) fair long

-- and no more is named than is lost: each sight that is named is right, or leaves no way back
abbrev lost : End → Flags → Ends → Bool
lost end seen e =
    implies (beyond_help end seen e) (same_flags seen e.flags || not (finishes (misled end seen e)))

abbrev named_test : Ends → Bool
named_test e = implies (finishes e) (every_flags (λ seen. lost the_host seen e && lost the_controller seen e))

named_tested : every_ends named_test ≡ true
unfolding finishes left left_within host_step controller_step
named_tested = refl

pub no_more_named : (seen : Flags) (e : Ends) → finishes e ≡ true
    → (lost the_host seen e ≡ true) × (lost the_controller seen e ≡ true)
no_more_named seen e can =
    both (lost the_host seen e) (lost the_controller seen e)
    (every_flags_lem (λ f. lost the_host f e && lost the_controller f e)
    (implied (finishes e) _ (every_ends_lem named_test named_tested e) can) seen)
