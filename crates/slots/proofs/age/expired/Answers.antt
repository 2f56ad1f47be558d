-- `slots::age::expired` meets its contract. The invariant: the slots that were looked through are as they are to be.
-- Assumes nothing.
use Rattle.std.proofs.Common.{◌≡◌, ℕ, suc, Bool, true, false, sym, refl, ap, ◌∙◌, add-one, arith}
use Rattle.octets.specs.Choice.{pick}
use Rattle.slots.specs.declared.state.Setup.{Setup}
use Rattle.slots.specs.declared.state.Receiver.{Receiver}
use Rattle.slots.specs.Slots.{free_slot, slot_at, since_at}
use Rattle.slots.specs.Changes.{with_slot}
use Rattle.slots.specs.Ages.{too_old, old_at, expired_to}
use Rattle.slots.proofs.Ages.{expired_setup}
use Rattle.slots.proofs.age.expired.Goals as goal
use Rattle.slots.proofs.age.expired.Goals.{then-too_old, else-too_old}

-- the next slot is freed, or left
next_to : (time : ℕ) (r q : Receiver) (n : ℕ) (b : Bool) → q ≡ expired_to time r n → old_at time q n ≡ b
    → pick b (with_slot q n free_slot) q ≡ expired_to time r (suc n)
unfolding expired_to
next_to time r q n b e old =
    ap (λ (t : Bool). pick t (with_slot q n free_slot) q) (sym old)
    ∙ ap (λ (x : Receiver). pick (old_at time x n) (with_slot x n free_slot) x) e

pub loop-slot-init : goal.loop-slot-init
unfolding expired_to
loop-slot-init c = refl

pub loop-slot-preserved : goal.loop-slot-preserved
loop-slot-preserved c =
    let a = c.args in
    let next = c.loop-slot.next in
    let slot = c.loop-slot.slot in
    let old : (b : Bool) → c.too_old.result ≡ b → old_at a.time next slot ≡ b =
    λ b e.
    ap (λ (s : Setup). too_old s.limit a.time (slot_at next.slots slot) (since_at next.slots slot))
    (ap (λ (x : Receiver). x.setup) c.loop-slot.invariant ∙ expired_setup a.time a.receiver slot (omega arith))
    ∙ sym c.too_old.ensures
    ∙ e in
    rw add-one
    (elim c.if-too_old.branch [
      | then-too_old w ↦ w.next-is ∙ w.with_slot-next.ensures
          ∙ next_to a.time a.receiver next slot true c.loop-slot.invariant (old true w.if-too_old.true)
      | else-too_old w ↦ w.next-is
          ∙ next_to a.time a.receiver next slot false c.loop-slot.invariant (old false w.if-too_old.false)
    ])

pub returns : goal.returns
returns c = c.loop-slot.invariant ∙ ap (expired_to c.args.time c.args.receiver) (omega arith)
