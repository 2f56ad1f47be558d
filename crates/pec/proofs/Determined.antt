-- The contracts of `pec` and `pec_apart` leave no choice.
-- Assumes nothing.
use mathlib.Core.Path.{◌≡◌}
use Prim.Native.Nat.{ℕ}
use contract.Lifetimes.{Lfts}
use Rattle.octets.proofs.Choice.{determined}
use Rattle.pec.proofs.pec.Reads as pec
use Rattle.pec.proofs.pec_apart.Reads as pec-apart

-- Two results that a contract allows on the same bytes are equal.
pub pec_determined : (κs : Lfts 1) (s : _) (r q : ℕ) (e f : _) → pec.Post κs s r e → pec.Post κs s q f → r ≡ q
pec_determined κs s r q e f p o = determined p o

pub pec_apart_determined : (κs : Lfts 3) (s : _) (r q : ℕ) (e f : _) → pec-apart.Post κs s r e
    → pec-apart.Post κs s q f → r ≡ q
pec_apart_determined κs s r q e f p o = determined p o

-- No call asks anything of its arguments first.
pub no_requires : ((κs : Lfts 1) (a : _) → pec.Pre κs a) × ((κs : Lfts 3) (a : _) → pec-apart.Pre κs a)
no_requires = ((λ κs a. tt), (λ κs a. tt))
