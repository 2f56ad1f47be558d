-- The contract of `run` leaves open only what came: outcomes on the same reads are alike, and it ends with the input.
-- Assumes nothing.
use mathlib.Core.Path.{◌≡◌, refl, ap, sym, ◌∙◌}
use mathlib.Core.Bool.{Bool, true, false}
use mathlib.Core.List.{List}
use contract.Lifetimes.{Lfts}
use Prim.Native.Nat.{ℕ, ◌+◌, ◌<◌}
use native.Mathlib.Nat.{zero-add}
use native.Mathlib.Omega.{arith}
use lib.ListN.{length, take}
use Rattle.std.specs.Prelude.{Result, Ok, is_ok, is_err}
use Rattle.transcript.specs.State.{start}
use Rattle.transcript.specs.Taking.{run_on}
use Rattle.transcript.specs.Last.{closing}
use Rattle.bench.specs.declared.sending.Sent.{Sent}
use Rattle.bench.specs.declared.sending.Unsent.{Unsent}
use Rattle.bench.specs.Sending.{nothing_sent, capped, Sends}
use Rattle.bench.specs.Reads.{came_in, goes_on}
use Rattle.bench.specs.Main.{to_send}
use Rattle.bench.proofs.Bench.run.Reads as run

is_false : (b : Bool) → (b ≡ true → ⊥) → b ≡ false
is_false true never = absurd (never refl)
is_false false never = refl

from_nothing : {n : ℕ} {r : Result Sent Unsent} → Sends (Ok nothing_sent) n r → (x : Sent) → r ≡ Ok x
    → capped x.bytes ≡ capped n
from_nothing {n} p x e =
    let before = p.whole x e in
    let none : nothing_sent ≡ before.0 = cc (before.1) in
    before.2 ∙ ap (λ (s : Sent). capped (s.bytes + n)) (sym none) ∙ ap capped (zero-add n)

-- the state and the memory
pub run_determined : (κs : Lfts 1) (a : _) (r q : _) (e f : _) (p : run.Post κs a r e) (o : run.Post κs a q f)
    → p.reads ≡ o.reads → (e.0.now.state ≡ f.0.now.state) × (e.0.now.memory ≡ f.0.now.memory)
run_determined κs a r q e f p o same = (
  p.state ∙ ap (λ (l : List (List ℕ)). (run_on start a.0.now.memory (came_in l)).state) same ∙ sym o.state,
  p.memory ∙ ap (λ (l : List (List ℕ)). (run_on start a.0.now.memory (came_in l)).memory) same ∙ sym o.memory,
)

-- the last line, where no read failed
pub line_determined : (κs : Lfts 1) (a : _) (r q : _) (e f : _) (p : run.Post κs a r e) (o : run.Post κs a q f)
    → p.reads ≡ o.reads → is_err r ≡ false → is_err q ≡ false
    → take (length (closing e.0.now.state)) e.0.now.output ≡ take (length (closing f.0.now.state)) f.0.now.output
line_determined κs a r q e f p o same h k =
    p.line h ∙ ap closing (run_determined κs a r q e f p o same).0 ∙ sym (o.line k)

-- and how much was sent, where no call failed
pub sent_determined : (κs : Lfts 1) (a : _) (r q : _) (e f : _) (p : run.Post κs a r e) (o : run.Post κs a q f)
    → p.reads ≡ o.reads → is_err r ≡ is_err q → (x y : Sent) → e.0.now.sent ≡ Ok x → f.0.now.sent ≡ Ok y
    → capped x.bytes ≡ capped y.bytes
sent_determined κs a r q e f p o same failed x y h k =
    from_nothing p.sent x h
    ∙ (λ i. capped (length (to_send (failed i) a.0.now.memory (came_in (same i)))))
    ∙ sym (from_nothing o.sent y k)

-- where no call failed and there were turns left, the input has ended: the last read brought nothing
pub run_ended : (κs : Lfts 1) (a : _) (r : _) (e : _) (p : run.Post κs a r e) → is_err r ≡ false
    → is_ok e.0.now.sent ≡ true → length p.reads < 18446744073709551615 → goes_on p.reads ≡ false
run_ended κs a r e p read sent left =
    is_false (goes_on p.reads) (λ (goes : goes_on p.reads ≡ true). omega (arith, p.over (rw (read, sent, goes))))
