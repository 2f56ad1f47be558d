-- `transcript::front::to_front` meets its contract.
-- Assumes nothing.
use mathlib.Core.Path.{◌∙◌}
use native.Mathlib.Omega.{arith}
use Rattle.transcript.proofs.Fronts.{between_size, moved_none, moved_copied}
use Rattle.transcript.proofs.front.to_front.Goals as goal

pub returns-then-stop-from-clause-count : goal.returns-then-stop-from-clause-count
returns-then-stop-from-clause-count c = (moved_none _ _ _ (omega arith)).0

pub returns-then-stop-from-clause-bytes : goal.returns-then-stop-from-clause-bytes
returns-then-stop-from-clause-bytes c = (moved_none _ _ _ (omega arith)).1

pub returns-clause-count : goal.returns-clause-count
returns-clause-count c = omega (arith, between_size c.args.bytes.now c.args.from c.args.end)

pub returns-clause-bytes : goal.returns-clause-bytes
returns-clause-bytes c =
    c.copy_within.ensures.after ∙ moved_copied c.args.bytes.now c.args.from c.args.end _ (omega arith) (omega arith)
