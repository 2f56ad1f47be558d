-- `octets::copy::lay_byte` meets its contract: past the end nothing is stored.
-- Assumes nothing.
use Rattle.octets.specs.Bytes.{laid}
use mathlib.Core.Path.{sym}
use lib.Seq.{set_out}
use borrow.Author.Rules.{rules}
use Rattle.octets.proofs.copy.lay_byte.Goals as goal

pub returns-then-at-out : goal.returns-then-at-out
unfolding laid
returns-then-at-out c = search rules

pub returns-else-at-out : goal.returns-else-at-out
unfolding laid
returns-else-at-out c = sym (set_out c.args.out.now c.args.at c.args.b c.if-at-out.false)
