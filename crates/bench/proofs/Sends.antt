-- What was sent: nothing, one piece after another, and after a write that failed.
-- Assumes nothing.
use mathlib.Core.Path.{◌≡◌}
use Prim.Native.Nat.{ℕ, ◌+◌}
use native.Mathlib.Omega.{arith}
use Rattle.std.specs.Prelude.{Result, Ok}
use Rattle.bench.specs.declared.sending.Sent.{Sent}
use Rattle.bench.specs.declared.sending.Unsent.{Unsent}
use Rattle.bench.specs.Sending.{Sends}

pub sends_none : (a : Result Sent Unsent) → Sends a 0 a
sends_none a = record { whole = λ (later : Sent) (e : a ≡ Ok later). (later, e, omega arith) }

pub sends_both : {a b c : Result Sent Unsent} {x y : ℕ} → Sends a x b → Sends b y c → Sends a (x + y) c
sends_both {a} {b} {c} {x} {y} p q =
    record {
      whole = λ (later : Sent) (e : c ≡ Ok later).
          let second = q.whole later e in
          let first = p.whole second.0 second.1 in
          (first.0, first.1, omega (arith, first.2, second.2));
    }
