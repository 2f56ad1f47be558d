-- `slots::find::lowest_free` meets its contract.
-- Assumes nothing.
use Rattle.std.proofs.Common.{rules, tests, ◌≡◌, position, length, ◌∙◌, arith}
use Rattle.std.proofs.lemmas.Grind.{common_steps}
use Rattle.std.proofs.lemmas.Iterator.{YieldsList-from_slice}
use Rattle.std.proofs.lemmas.Iterator.Search.{position_from_yields_List}
use Rattle.slots.specs.declared.state.Slot.{Slot}
use Rattle.slots.specs.Slots.{is_free, lowest_free}
use Rattle.slots.proofs.Found.{position_found}
use Rattle.slots.proofs.find.lowest_free.Goals as goal

pub returns : goal.returns
unfolding lowest_free
returns c =
    let slots = c.args.receiver.slots in
    let four : length slots ≡ 4 = c.well_formed.0.1.1.1.0.1.0.1 in
    let first : c.position.result ≡ position (λ (x : Slot). is_free x.state) slots =
    position_from_yields_List (λ (x : Slot). is_free x.state) _ _ _ c.position.ensures.ran
    (YieldsList-from_slice slots c.iter.ensures.rest) (λ x b q k. search (rules, tests)) in
    let same : c.map.result ≡ c.position.result = grind (arith, common_steps) in
    same ∙ first ∙ position_found is_free slots four
