-- The contracts of the three calls leave no choice: two outcomes that one allows are equal, and so is every lent byte;
-- nor does what a carrier's refusal becomes.
-- Assumes nothing.
use mathlib.Core.Path.{◌≡◌, refl, ap}
use mathlib.Core.List.{List}
use Prim.Native.Nat.{ℕ}
use contract.Lifetimes.{Lfts}
use Rattle.std.proofs.Common.{Result, Ok, Err}
use Rattle.octets.proofs.Choice.{determined}
use Rattle.mctp.proofs.Refusals.{number_injective}
use Rattle.receiver.proofs.Determined.{says_injective}
use Rattle.mmbi.specs.Interface.{state_of, may_read}
use Rattle.ring.specs.Reading.{output_of}
use Rattle.rack.specs.declared.answer.NoPacket.{NoPacket}
use Rattle.rack.specs.declared.answer.NoPacket.TheVariants.{Empty, Skipped, Refused}
use Rattle.rack.specs.declared.answer.Arrived.{Arrived}
use Rattle.rack.specs.declared.answer.Received.{Received}
use Rattle.rack.specs.Arrivals.{by_smbus, by_pcc, by_ring, without, brings}
use Rattle.rack.specs.Answers.{tells, AfterArrival, after_arrival, arrived_of}
use Rattle.rack.proofs.path.from_smbus.Reads as smbus
use Rattle.rack.proofs.path.from_pcc.Reads as pcc
use Rattle.rack.proofs.path.from_ring.Reads as ring
use Rattle.rack.proofs.answer.NoPacketFromRefusal.from.Reads as of_refusal

-- what is told of an answer tells it from every other
without_injective : (a b : NoPacket) → without a ≡ without b → a ≡ b
without_injective Empty Empty e = refl
without_injective Empty (Skipped s q) e = cc
without_injective Empty (Refused s) e = cc
without_injective (Skipped r p) Empty e = cc
without_injective (Skipped r p) (Skipped s q) e = cc (number_injective r s (cc))
without_injective (Skipped r p) (Refused s) e = cc
without_injective (Refused r) Empty e = cc
without_injective (Refused r) (Skipped s q) e = cc
without_injective (Refused r) (Refused s) e = ap Refused (number_injective r s (cc))

tells_injective : (a b : Result Arrived NoPacket) → tells a ≡ tells b → a ≡ b
tells_injective (Ok k) (Ok j) e =
    let beside : k.beside ≡ j.beside = cc in
    let answer = says_injective k.answer j.answer (cc) in
    λ i. Ok (record { beside = beside i; answer = answer i })
tells_injective (Ok k) (Err w) e = cc
tells_injective (Err v) (Ok j) e = cc
tells_injective (Err v) (Err w) e = ap Err (without_injective v w (cc))

-- the answer, the receiver and every byte of the memory
after_injective : (o q : Received) (m n : List ℕ) → after_arrival o m ≡ after_arrival q n → (o ≡ q) × (m ≡ n)
after_injective o q m n e =
    let told = tells_injective o.arrived q.arrived (ap (λ (l : AfterArrival). l.told) e) in
    ((λ i. record { arrived = told i; receiver = (e i).receiver }), ap (λ (l : AfterArrival). l.memory) e)

-- Each contract says what the demands say of an arrival on its path ..
pub from_smbus_arrives : (κs : Lfts 2) (a r e : _) → smbus.Post κs a r e
    → after_arrival r e.1.1.1.0.now
    ≡ arrived_of 64 a.1.1.1.1.0 a.1.1.0 a.1.1.1.0.now (brings 64 (by_smbus a.0.now a.1.0))
from_smbus_arrives κs a r e p = p

pub from_pcc_arrives : (κs : Lfts 2) (a r e : _) → pcc.Post κs a r e
    → after_arrival r e.1.1.1.0.now
    ≡ arrived_of 64 a.1.1.1.1.0 a.1.1.0 a.1.1.1.0.now (brings 64 (by_pcc a.0.now a.1.0))
from_pcc_arrives κs a r e p = p

pub from_ring_arrives : (κs : Lfts 3) (a r e : _) → ring.Post κs a r e
    → (after_arrival r e.1.1.1.1.0.now
    ≡ arrived_of 64 a.1.1.1.1.1.0 a.1.1.1.0 a.1.1.1.1.0.now
    (brings 64
    (by_ring a.0.now a.1.0.configured a.1.0.flags a.1.0.pointers.read a.1.0.pointers.write a.1.1.0.now)))
    × (e.1.1.0.now
    ≡ output_of 64 a.0.now a.1.0.configured (may_read (state_of a.1.0.flags)) a.1.0.pointers.read
    a.1.0.pointers.write a.1.1.0.now)
from_ring_arrives κs a r e p = p

-- .. and leaves no choice.
pub from_smbus_determined : (κs : Lfts 2) (a r q e f : _) → smbus.Post κs a r e → smbus.Post κs a q f
    → (r ≡ q) × (e.1.1.1.0.now ≡ f.1.1.1.0.now)
from_smbus_determined κs a r q e f p o = after_injective r q _ _ (determined p o)

pub from_pcc_determined : (κs : Lfts 2) (a r q e f : _) → pcc.Post κs a r e → pcc.Post κs a q f
    → (r ≡ q) × (e.1.1.1.0.now ≡ f.1.1.1.0.now)
from_pcc_determined κs a r q e f p o = after_injective r q _ _ (determined p o)

-- from a ring, of the output too
pub from_ring_determined : (κs : Lfts 3) (a r q e f : _) → ring.Post κs a r e → ring.Post κs a q f
    → ((r ≡ q) × (e.1.1.1.1.0.now ≡ f.1.1.1.1.0.now))
    × (e.1.1.0.now ≡ f.1.1.0.now)
from_ring_determined κs a r q e f p o = (after_injective r q _ _ (determined p.0 o.0), determined p.1 o.1)

-- What a carrier's refusal becomes leaves no choice either.
pub of_refusal_determined : (κs : Lfts 0) (a : _) (r q : NoPacket) (e f : _) → of_refusal.Post κs a r e
    → of_refusal.Post κs a q f → r ≡ q
of_refusal_determined κs a r q e f p o = determined p o

-- No call asks anything of its arguments first.
pub no_requires : ((κs : Lfts 2) (a : _) → smbus.Pre κs a)
    × ((κs : Lfts 2) (a : _) → pcc.Pre κs a)
    × ((κs : Lfts 3) (a : _) → ring.Pre κs a)
    × ((κs : Lfts 0) (a : _) → of_refusal.Pre κs a)
no_requires = ((λ κs a. tt), (λ κs a. tt), (λ κs a. tt), (λ κs a. tt))
