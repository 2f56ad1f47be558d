-- `pec::word::shifted` meets its contract.
-- Assumes nothing.
use mathlib.Core.Path.{◌≡◌, refl}
use native.Mathlib.Omega.{arith}
use Rattle.pec.specs.Words.{word_from}
use Rattle.pec.proofs.Shifts.{shifted, shifted_right}
use Rattle.pec.proofs.word.shifted.Goals as goal

pub returns-then-n-eq0 : goal.returns-then-n-eq0
unfolding word_from
returns-then-n-eq0 c = let none : c.args.n ≡ 0 = omega arith in rw none refl

pub returns : goal.returns
unfolding shifted
returns c = shifted_right c.args.n c.args.w (omega arith) (omega arith)
