-- `bench::Bench::run` meets its contract. The loop's invariant: all is as after the reads so far. Assumes nothing.
use Rattle.bench.proofs.Runs.{Along}
use Rattle.bench.proofs.Bench.run.Given as goal

abbrev pub invariant-loop : goal.invariant-loop
invariant-loop l = Along l.initial.self.memory l.counter l.self
