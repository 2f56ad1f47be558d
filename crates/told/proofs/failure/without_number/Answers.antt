-- `told::failure::without_number`: `split_once` cuts at the first mark.
-- Assumes nothing.
use Rattle.std.proofs.Common.{rules, inr, Some}
use Rattle.std.proofs.lemmas.Str.Pattern.{split_text_parts}
use Rattle.told.specs.Reason.{number_mark}
use Rattle.told.proofs.failure.without_number.Goals as goal

pub returns-in-Some : goal.returns-in-Some
returns-in-Some c = let e = c.in-Some.ensures.cases in (
  (λ i h. e.2.0 i (search rules)),
  inr (c.in-Some.field-0-1.now, split_text_parts number_mark _ (Some (c.in-Some.reason, c.in-Some.field-0-1)) e),
)
