-- `pec::word::number` meets its contract. The loop's invariant: the word is the number that the bytes passed make.
-- Assumes nothing.
use mathlib.Core.Path.{◌≡◌, refl, ap₂}
use mathlib.Core.List.{List}
use Prim.Native.Nat.{ℕ, ◌+◌, ◌*◌, ◌^◌, ◌≤◌, ◌<◌}
use native.Mathlib.Nat.{lt_of_lt_of_le, pow-le-pow_right, zero-add}
use native.Mathlib.Numerals.{add-one}
use native.Mathlib.Omega.{arith}
use lib.Dec.{lit<}
use Rattle.octets.specs.Bytes.{Below}
use Rattle.pec.specs.Words.{number_at}
use Rattle.pec.proofs.Words.{number_below}
use Rattle.pec.proofs.word.number.Goals as goal

-- Seven bytes leave room for one more.
room : (s : List ℕ) (i w : ℕ) → Below 256 s → i ≤ 7 → w ≡ number_at s 0 i → w < 256 ^ 7
room s i w bytes few e = rw e (lt_of_lt_of_le (number_below s bytes 0 i) (pow-le-pow_right (lit< tt) few))

pub overflow_mul-w : goal.overflow_mul-w
overflow_mul-w c =
    omega
    (arith, room c.args.s.now _ _ (λ k. omega (arith, c.type_inv.s k)) (omega arith) c.loop-b.invariant)

pub overflow_add-w : goal.overflow_add-w
overflow_add-w c =
    omega
    (arith, room c.args.s.now _ _ (λ k. omega (arith, c.type_inv.s k)) (omega arith) c.loop-b.invariant)

pub loop-b-init : goal.loop-b-init
unfolding number_at
loop-b-init c = refl

pub loop-b-preserved : goal.loop-b-preserved
unfolding number_at
loop-b-preserved c =
    rw (add-one, zero-add) (ap₂ (λ (x b : ℕ). x * 256 + b) c.loop-b.invariant c.from.ensures)
