-- `slots::tally::all_gathering` meets its contract: four numbers of at most 1.
-- Assumes nothing.
use Rattle.std.proofs.Common.{rules, tests, ◌∙◌, arith}
use Rattle.std.proofs.lemmas.Iterator.{YieldsList-from_slice, YieldsList-from_map}
use Rattle.std.proofs.lemmas.Iterator.Consumers.{sum_by_from_yields_List}
use Rattle.std.proofs.lemmas.Iterator.Adapters.{fits_from_length, at_most_from_yields_List}
use Rattle.slots.specs.declared.state.Slot.{Slot}
use Rattle.slots.specs.Tallies.{one_gathering}
use Rattle.slots.proofs.TalliesKept.{sum_over}
use Rattle.slots.proofs.tally.all_gathering.Goals as goal

pub sum-requires-clause-fits : goal.sum-requires-clause-fits
sum-requires-clause-fits c =
    fits_from_length _ _ 4 _ (at_most_from_yields_List (YieldsList-from_slice c.args.slots.now cc) (omega arith))
    c.map.ensures.closure (omega arith) (λ x r q k. search (rules, tests))

pub returns : goal.returns
returns c =
    let slots = c.args.slots.now in
    sum_by_from_yields_List _ _ c.map.result _ c.sum.ensures.ran
    (YieldsList-from_map _ (λ (x : Slot). one_gathering x.state) (YieldsList-from_slice slots cc) c.map.ensures.closure
    (λ x r q k. search (rules, tests)))
    ∙ sum_over one_gathering slots c.told-slots
