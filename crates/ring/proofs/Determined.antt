-- The contracts leave no choice: two answers that one allows are equal, and so is every lent byte at exit. The two of
-- writing agree.
-- Assumes nothing.
use mathlib.Core.Path.{◌≡◌}
use contract.Lifetimes.{Lfts}
use Prim.Native.Nat.{ℕ}
use Rattle.std.specs.Prelude.{Result}
use Rattle.mctp.specs.Apart.{joined}
use Rattle.mctp.specs.declared.refusal.Refusal.{Refusal}
use Rattle.octets.proofs.Choice.{determined}
use Rattle.ring.specs.declared.reading.Found.{Found}
use Rattle.ring.proofs.Answers.{found_injective, entered_injective}
use Rattle.ring.proofs.reading.read.Reads as read
use Rattle.ring.proofs.writing.write.Reads as write
use Rattle.ring.proofs.writing.write_apart.Reads as write-apart

-- the answer of `read`, and the output
pub read_determined : (κs : Lfts 2) (a : _) (r q : Result Found Refusal) (e f : _)
    → read.Post κs a r e → read.Post κs a q f → (r ≡ q) × (e.1.1.0.now ≡ f.1.1.0.now)
read_determined κs a r q e f p o = (found_injective r q (determined p.0 o.0), determined p.1 o.1)

-- the answer of `write`, and the ring
pub write_determined : (κs : Lfts 2) (a : _) (r q : Result ℕ Refusal) (e f : _)
    → write.Post κs a r e → write.Post κs a q f → (r ≡ q) × (e.0.now ≡ f.0.now)
write_determined κs a r q e f p o = (entered_injective r q (determined p.0 o.0), determined p.1 o.1)

-- the answer of `write_apart`, and the ring
pub write_apart_determined : (κs : Lfts 2) (a : _) (r q : Result ℕ Refusal) (e f : _) → write-apart.Post κs a r e
    → write-apart.Post κs a q f → (r ≡ q) × (e.1.0.now ≡ f.1.0.now)
write_apart_determined κs a r q e f p o = (entered_injective r q (determined p.0 o.0), determined p.1 o.1)

-- with the base's largest body, `write_apart` answers and leaves what `write` does of the packet that the pieces make
pub apart_is_whole : (κs : Lfts 2) (ls : Lfts 2) (a b : _) (r q : Result ℕ Refusal) (e f : _)
    → write-apart.Post κs a r e
    → write.Post ls b q f
    → a.0 ≡ 64
    → a.1.0.now ≡ b.0.now
    → a.1.1.0.configured ≡ b.1.0.configured
    → a.1.1.0.flags ≡ b.1.0.flags
    → a.1.1.0.pointers ≡ b.1.0.pointers
    → joined a.1.1.1.0 ≡ b.1.1.0.now
    → (r ≡ q) × (e.1.0.now ≡ f.0.now)
apart_is_whole κs ls a b r q e f p o most ring configured flags pointers packet = (
  entered_injective r q (cc (p.0, o.0)),
  cc (p.1, o.1),
)

-- No call asks anything of its arguments first.
pub no_requires : ((κs : Lfts 2) (a : _) → read.Pre κs a)
    × ((κs : Lfts 2) (a : _) → write.Pre κs a)
    × ((κs : Lfts 2) (a : _) → write-apart.Pre κs a)
no_requires = ((λ κs a. tt), (λ κs a. tt), (λ κs a. tt))
