-- The contracts leave no choice: two answers that one allows on the same input are equal, and so is every lent byte at
-- exit.
-- Assumes nothing.
use mathlib.Core.Path.{◌≡◌}
use contract.Lifetimes.{Lfts}
use Rattle.octets.proofs.Choice.{determined}
use Rattle.smbus.proofs.Determined as smbus
use Rattle.pcc.proofs.Determined as pcc
use Rattle.ring.proofs.Answers.{entered_injective}
use Rattle.sender.proofs.cutting.count.Reads as count
use Rattle.sender.proofs.sending.to_output.Reads as to-output
use Rattle.sender.proofs.sending.to_smbus.Reads as to-smbus
use Rattle.sender.proofs.sending.to_pcc.Reads as to-pcc
use Rattle.sender.proofs.sending.to_ring.Reads as to-ring

pub count_determined : (κs : Lfts 1) (a r q e f : _) → count.Post κs a r e → count.Post κs a q f → r ≡ q
count_determined κs a r q e f p o = smbus.written_injective r q (determined p.0 o.0) (determined p.1 o.1)

pub to_output_determined : (κs : Lfts 2) (a r q e f : _) → to-output.Post κs a r e → to-output.Post κs a q f
    → (r ≡ q) × (e.0.now ≡ f.0.now)
to_output_determined κs a r q e f p o = (
  smbus.written_injective r q (determined p.0 o.0) (determined p.1.0 o.1.0),
  determined p.1.1 o.1.1,
)

pub to_smbus_determined : (κs : Lfts 2) (a r q e f : _) → to-smbus.Post κs a r e → to-smbus.Post κs a q f
    → (r ≡ q) × (e.0.now ≡ f.0.now)
to_smbus_determined κs a r q e f p o = (
  smbus.written_injective r q (determined p.0 o.0) (determined p.1.0 o.1.0),
  determined p.1.1 o.1.1,
)

pub to_pcc_determined : (κs : Lfts 2) (a r q e f : _) → to-pcc.Post κs a r e → to-pcc.Post κs a q f
    → (r ≡ q) × (e.0.now ≡ f.0.now)
to_pcc_determined κs a r q e f p o = (pcc.written_injective r q (determined p.0 o.0), determined p.1 o.1)

pub to_ring_determined : (κs : Lfts 2) (a r q e f : _) → to-ring.Post κs a r e → to-ring.Post κs a q f
    → (r ≡ q) × (e.0.now ≡ f.0.now)
to_ring_determined κs a r q e f p o = (entered_injective r q (determined p.0 o.0), determined p.1 o.1)

-- No call asks anything of its arguments first.
pub no_requires : ((κs : Lfts 1) (a : _) → count.Pre κs a)
    × ((κs : Lfts 2) (a : _) → to-output.Pre κs a)
    × ((κs : Lfts 2) (a : _) → to-smbus.Pre κs a)
    × ((κs : Lfts 2) (a : _) → to-pcc.Pre κs a)
    × ((κs : Lfts 2) (a : _) → to-ring.Pre κs a)
no_requires = ((λ κs a. tt), (λ κs a. tt), (λ κs a. tt), (λ κs a. tt), (λ κs a. tt))
