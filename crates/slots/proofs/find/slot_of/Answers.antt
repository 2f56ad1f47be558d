-- `slots::find::slot_of` meets its contract.
-- Assumes nothing.
use Rattle.std.proofs.Common.{rules, tests, ◌≡◌, position, length, ◌∙◌, arith}
use Rattle.std.proofs.lemmas.Grind.{common_steps}
use Rattle.std.proofs.lemmas.Iterator.{YieldsList-from_slice}
use Rattle.std.proofs.lemmas.Iterator.Search.{position_from_yields_List}
use Rattle.slots.specs.declared.state.Slot.{Slot}
use Rattle.slots.specs.Slots.{has_key, slot_of}
use Rattle.slots.proofs.Found.{position_found}
use Rattle.slots.proofs.find.slot_of.Goals as goal

pub returns : goal.returns
unfolding slot_of
returns c =
    let key = c.args.key in
    let slots = c.args.receiver.slots in
    let four : length slots ≡ 4 = c.well_formed.0.1.1.1.0.1.0.1 in
    let first : c.position.result ≡ position (λ (x : Slot). has_key key x.state) slots =
    position_from_yields_List (λ (x : Slot). has_key key x.state) _ _ _ c.position.ensures.ran
    (YieldsList-from_slice slots c.iter.ensures.rest) (λ x b q k. search (rules, tests)) in
    let same : c.map.result ≡ c.position.result = grind (arith, common_steps) in
    same ∙ first ∙ position_found (has_key key) slots four
