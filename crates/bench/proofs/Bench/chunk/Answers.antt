-- `bench::Bench::chunk` meets its contract.
-- Assumes nothing.
use mathlib.Core.Path.{refl}
use native.Mathlib.Omega.{arith}
use lib.ListN.{take, length-take}
use Rattle.bench.proofs.Drains.{chunk_fits, chunk_takes}
use Rattle.bench.proofs.Bench.chunk.Goals as goal

pub shared_ref_as_front-send : goal.shared_ref_as_front-send
shared_ref_as_front-send c =
    let e = c.chunk-taken.ensures in
    let fits = chunk_fits c.args.self.now (take c.args.end c.args.self.now.input) c.args.from
    (rw length-take (omega arith)) (omega arith) (e.state, (e.memory, (e.read, (e.written, e.output)))) in
    omega arith

pub returns : goal.returns
returns c =
    let e = c.chunk-taken.ensures in
    chunk_takes c.args.self.now (take c.args.end c.args.self.now.input) c.args.from (rw length-take (omega arith))
    (omega arith) (e.state, (e.memory, (e.read, (e.written, e.output)))) refl refl refl refl c.send-self.ensures
    e.short
