-- `bench::Bench::finish` meets its contract.
-- Assumes nothing.
use mathlib.Core.Path.{refl}
use native.Mathlib.Omega.{arith}
use Rattle.bench.proofs.Closings.{closing_fits, closing_size, closing_front}
use Rattle.bench.proofs.Bench.finish.Goals as goal

pub shared_ref_as_front-send : goal.shared_ref_as_front-send
shared_ref_as_front-send c =
    let b = c.args.self.now in
    omega (
      arith,
      c.last_line-end.ensures.place,
      closing_size b.state b.output (omega arith),
      closing_fits b.state b.output (omega arith),
    )

pub returns : goal.returns
returns c =
    let b = c.args.self.now in
    let front = closing_front b.state b.output (omega arith) in record {
      state = refl;
      memory = refl;
      output = c.last_line-end.ensures.output;
      line = rw c.last_line-end.ensures.output front;
      sent = rw (
        c.last_line-end.ensures.place,
        closing_size b.state b.output (omega arith),
        c.last_line-end.ensures.output,
        front,
      ) at c.send-self.ensures;
    }
