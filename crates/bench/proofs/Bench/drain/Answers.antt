-- `bench::Bench::drain` meets its contract.
-- Assumes nothing.
use Rattle.bench.proofs.Drains.{going_start, going_on, going_out}
use Rattle.bench.proofs.Bench.drain.Goals as goal

pub loop-end-init : goal.loop-end-init
loop-end-init c = going_start _ _

pub loop-end-preserved : goal.loop-end-preserved
loop-end-preserved c = going_on c.args.end c.loop-end.invariant c.chunk-more.ensures

pub returns-then-more-eq0 : goal.returns-then-more-eq0
returns-then-more-eq0 c = going_out c.args.end c.loop-end.invariant c.chunk-more.ensures c.if-more-eq0.true
