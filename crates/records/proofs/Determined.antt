-- The contracts leave no choice: two results that one allows on the same bytes are equal, and so is every byte at exit.
-- Assumes nothing.
use mathlib.Core.Path.{◌≡◌}
use Prim.Native.Nat.{ℕ}
use contract.Lifetimes.{Lfts}
use Rattle.octets.proofs.Choice.{determined}
use Rattle.records.specs.declared.record.Record.{Record}
use Rattle.records.proofs.record.record_at.Reads as at
use Rattle.records.proofs.decimal.count_digits.Reads as digits
use Rattle.records.proofs.decimal.lay_decimal.Reads as decimal
use Rattle.records.proofs.line.put_line.Reads as line
use Rattle.records.proofs.line.put_last_line.Reads as last

pub record_at_determined : (κs : Lfts 1) (a : _) (r q : Record) (e f : _) → at.Post κs a r e → at.Post κs a q f → r ≡ q
record_at_determined κs a r q e f p o = determined p o

pub count_digits_determined : (κs : Lfts 0) (a : _) (r q : ℕ) (e f : _) → digits.Post κs a r e → digits.Post κs a q f
    → r ≡ q
count_digits_determined κs a r q e f p o = determined p.0 o.0

pub lay_decimal_determined : (κs : Lfts 1) (a : _) (r q : ℕ) (e f : _) → decimal.Post κs a r e → decimal.Post κs a q f
    → (r ≡ q) × (e.0.now ≡ f.0.now)
lay_decimal_determined κs a r q e f p o = (determined p.0 o.0, determined p.1.1 o.1.1)

pub put_line_determined : (κs : Lfts 1) (a : _) (r q : ℕ) (e f : _) → line.Post κs a r e → line.Post κs a q f
    → (r ≡ q) × (e.0.now ≡ f.0.now)
put_line_determined κs a r q e f p o = (determined p.0 o.0, determined p.1 o.1)

pub put_last_line_determined : (κs : Lfts 1) (a : _) (r q : ℕ) (e f : _) → last.Post κs a r e → last.Post κs a q f
    → (r ≡ q) × (e.0.now ≡ f.0.now)
put_last_line_determined κs a r q e f p o = (determined p.0 o.0, determined p.1 o.1)

-- No call asks anything of its arguments first.
pub no_requires : ((κs : Lfts 1) (a : _) → at.Pre κs a)
    × ((κs : Lfts 0) (a : _) → digits.Pre κs a)
    × ((κs : Lfts 1) (a : _) → decimal.Pre κs a)
    × ((κs : Lfts 1) (a : _) → line.Pre κs a)
    × ((κs : Lfts 1) (a : _) → last.Pre κs a)
no_requires = ((λ κs a. tt), (λ κs a. tt), (λ κs a. tt), (λ κs a. tt), (λ κs a. tt))
