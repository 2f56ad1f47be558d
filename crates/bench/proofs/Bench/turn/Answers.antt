-- `bench::Bench::turn` meets its contract.
-- Assumes nothing.
use mathlib.Core.Path.{refl}
use Rattle.bench.proofs.Turns.{turned_few, turned}
use Rattle.bench.proofs.Bench.turn.Goals as goal

pub invariant_of-self : goal.invariant_of-self
invariant_of-self c = record {
  few = turned_few c.args.self.now c.fill.new.self c.drain-read.new.self c.in_ok-came.came c.drain-read.result
      c.fill.ensures.stays c.in_ok-came.ensures.within c.drain-read.ensures c.to_front-self.ensures.count;
}

pub returns-then-is_ok-clause-taken : goal.returns-then-is_ok-clause-taken
returns-then-is_ok-clause-taken c =
    turned c.args.self.now c.fill.new.self c.drain-read.new.self c.in_ok-came.came c.drain-read.result
    c.fill.ensures.stays c.in_ok-came.ensures.within c.drain-read.ensures c.to_front-self.ensures.count
    refl refl refl refl c.to_front-self.ensures.bytes c.if-is_ok.ensures.value

-- nothing is asked of what came
pub returns-else-is_ok-clause-taken : goal.returns-else-is_ok-clause-taken
returns-else-is_ok-clause-taken c = rw c.if-is_ok.false
    (turned c.args.self.now c.fill.new.self c.drain-read.new.self c.in_ok-came.came c.drain-read.result
    c.fill.ensures.stays c.in_ok-came.ensures.within c.drain-read.ensures c.to_front-self.ensures.count
    refl refl refl refl c.to_front-self.ensures.bytes c.if-is_ok.ensures.value)
