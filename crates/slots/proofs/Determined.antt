-- The contracts of the public calls leave no choice: two results that one allows on the same input are equal.
-- Assumes nothing.
use Rattle.std.proofs.Common.{◌≡◌, ℕ, ◌<◌, true, false, Result, Ok, Err, sym, refl, ap, ◌∙◌, arith}
use contract.Lifetimes.{Lfts}
use Rattle.octets.proofs.Choice.{determined}
use Rattle.mctp.proofs.Refusals.{number_injective, number_positive}
use Rattle.mctp.specs.declared.refusal.Refusal.{Refusal}
use Rattle.slots.specs.declared.change.Changed.{Changed}
use Rattle.mctp.specs.Refusals.{outcome_number}
use Rattle.slots.specs.Slots.{free_slot}
use Rattle.slots.specs.Changes.{with_slot}
use Rattle.slots.proofs.Changes.{freed_good, freed_wrong}
use Rattle.slots.proofs.age.expired.Reads as expired
use Rattle.slots.proofs.change.set_up.Reads as set_up
use Rattle.slots.proofs.change.free.Reads as free
use Rattle.slots.proofs.change.with_slot.Reads as with-slot
use Rattle.slots.proofs.check.ours.Reads as ours
use Rattle.slots.proofs.check.right.Reads as right
use Rattle.slots.proofs.check.right_within.Reads as within
use Rattle.slots.proofs.find.slot_of.Reads as slot_of
use Rattle.slots.proofs.find.lowest_free.Reads as lowest
use Rattle.slots.proofs.find.state_at.Reads as state-at
use Rattle.slots.proofs.tally.tallies_of.Reads as tallies-of
use Rattle.slots.proofs.tally.with_offered.Reads as with-offered
use Rattle.slots.proofs.tally.with_done.Reads as with-done

-- an outcome is told by its number
outcome_injective : (a b : Result (Unit {0}) Refusal) → outcome_number a ≡ outcome_number b → a ≡ b
outcome_injective (Ok u) (Ok v) e = refl
outcome_injective (Ok u) (Err s) e = absurd (omega (arith, number_positive s))
outcome_injective (Err r) (Ok v) e = absurd (omega (arith, number_positive r))
outcome_injective (Err r) (Err s) e = ap Err (number_injective r s e)

changed_same : (a b : Changed) → outcome_number a.outcome ≡ outcome_number b.outcome → a.receiver ≡ b.receiver
    → a ≡ b
changed_same a b number receiver =
    let outcome = outcome_injective a.outcome b.outcome number in
    λ i. record { outcome = outcome i; receiver = receiver i }

pub set_up_determined : (κs : Lfts 0) (a r q e f : _) → set_up.Post κs a r e → set_up.Post κs a q f → r ≡ q
set_up_determined κs a r q e f p o =
    changed_same r q (determined p.0 o.0) (determined p.1 o.1)

pub free_determined : (κs : Lfts 0) (a r q e f : _) → free.Post κs a r e → free.Post κs a q f → r ≡ q
free_determined κs a r q e f p o =
    changed_same r q (determined p.0 o.0) (determined p.1 o.1)

pub with_slot_determined : (κs : Lfts 0) (a r q e f : _) → with-slot.Post κs a r e → with-slot.Post κs a q f → r ≡ q
with_slot_determined κs a r q e f p o = determined p o

pub ours_determined : (κs : Lfts 0) (a r q e f : _) → ours.Post κs a r e → ours.Post κs a q f → r ≡ q
ours_determined κs a r q e f p o = determined p o

pub right_determined : (κs : Lfts 0) (a r q e f : _) → right.Post κs a r e → right.Post κs a q f → r ≡ q
right_determined κs a r q e f p o = determined p o

pub right_within_determined : (κs : Lfts 0) (a r q e f : _) → within.Post κs a r e → within.Post κs a q f → r ≡ q
right_within_determined κs a r q e f p o = determined p o

pub slot_of_determined : (κs : Lfts 0) (a r q e f : _) → slot_of.Post κs a r e → slot_of.Post κs a q f → r ≡ q
slot_of_determined κs a r q e f p o = determined p o

pub lowest_free_determined : (κs : Lfts 0) (a r q e f : _) → lowest.Post κs a r e → lowest.Post κs a q f → r ≡ q
lowest_free_determined κs a r q e f p o = determined p o

pub state_at_determined : (κs : Lfts 0) (a r q e f : _) → state-at.Post κs a r e → state-at.Post κs a q f → r ≡ q
state_at_determined κs a r q e f p o = determined p o

pub expired_determined : (κs : Lfts 0) (a r q e f : _) → expired.Post κs a r e → expired.Post κs a q f → r ≡ q
expired_determined κs a r q e f p o = determined p o

pub tallies_of_determined : (κs : Lfts 0) (a r q e f : _) → tallies-of.Post κs a r e → tallies-of.Post κs a q f → r ≡ q
tallies_of_determined κs a r q e f p o = determined p o

pub with_offered_determined : (κs : Lfts 0) (a r q e f : _) → with-offered.Post κs a r e → with-offered.Post κs a q f
    → r ≡ q
with_offered_determined κs a r q e f p o = determined p o

pub with_done_determined : (κs : Lfts 0) (a r q e f : _) → with-done.Post κs a r e → with-done.Post κs a q f → r ≡ q
with_done_determined κs a r q e f p o = determined p o

-- What `right` says is what `free` goes by.
pub right_is_freed : (κs : Lfts 0) (a e : _) → right.Post κs a true e → (i : ℕ) (r f : _) → i < 4
    → free.Post κs (a.0, (i, tt)) r f
    → (outcome_number r.outcome ≡ 0) × (r.receiver ≡ with_slot a.0 i free_slot)
right_is_freed κs a e p i r f h o =
    let good = freed_good 64 a.0 i (sym p) h in
    (o.0 ∙ good.0, o.1 ∙ good.1)

pub wrong_is_kept : (κs : Lfts 0) (a e : _) → right.Post κs a false e → (i : ℕ) (r f : _)
    → free.Post κs (a.0, (i, tt)) r f
    → (outcome_number r.outcome ≡ 1) × (r.receiver ≡ a.0)
wrong_is_kept κs a e p i r f o =
    let wrong = freed_wrong 64 a.0 i (sym p) in
    (o.0 ∙ wrong.0, o.1 ∙ wrong.1)

-- No call asks anything of its arguments first.
pub no_requires : ((κs : Lfts 0) (a : _) → set_up.Pre κs a)
    × ((κs : Lfts 0) (a : _) → free.Pre κs a)
    × ((κs : Lfts 0) (a : _) → with-slot.Pre κs a)
    × ((κs : Lfts 0) (a : _) → ours.Pre κs a)
    × ((κs : Lfts 0) (a : _) → right.Pre κs a)
    × ((κs : Lfts 0) (a : _) → within.Pre κs a)
    × ((κs : Lfts 0) (a : _) → slot_of.Pre κs a)
    × ((κs : Lfts 0) (a : _) → lowest.Pre κs a)
    × ((κs : Lfts 0) (a : _) → state-at.Pre κs a)
    × ((κs : Lfts 0) (a : _) → expired.Pre κs a)
    × ((κs : Lfts 0) (a : _) → tallies-of.Pre κs a)
    × ((κs : Lfts 0) (a : _) → with-offered.Pre κs a)
    × ((κs : Lfts 0) (a : _) → with-done.Pre κs a)
no_requires = (
  (λ κs a. tt),
  (λ κs a. tt),
  (λ κs a. tt),
  (λ κs a. tt),
  (λ κs a. tt),
  (λ κs a. tt),
  (λ κs a. tt),
  (λ κs a. tt),
  (λ κs a. tt),
  (λ κs a. tt),
  (λ κs a. tt),
  (λ κs a. tt),
  (λ κs a. tt),
)
