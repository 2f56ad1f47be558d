-- The contracts leave no choice: two results that one allows on the same input are equal, and so is the region at exit.
-- Assumes nothing.
use mathlib.Core.Path.{◌≡◌, refl, ap, sym, ◌∙◌}
use native.Mathlib.Omega.{arith}
use contract.Lifetimes.{Lfts}
use lib.ListN.{length}
use Rattle.std.proofs.Common.{Result, Ok, Err}
use Rattle.mctp.specs.Apart.{joined}
use Rattle.mctp.specs.declared.refusal.Refusal.{Refusal}
use Rattle.octets.proofs.Choice.{determined}
use Rattle.mctp.proofs.Refusals.{number_injective, number_positive}
use Rattle.pcc.specs.declared.answer.Packet.{Packet}
use Rattle.pcc.specs.Writing.{write_refusal, written_of}
use Rattle.pcc.proofs.Answers.{Says}
use Rattle.pcc.specs.Answers.{number_read, size_read, notify_read, number_written}
use Rattle.pcc.proofs.reading.read.Reads as carrying
use Rattle.pcc.proofs.reading.packet.Reads as packet
use Rattle.pcc.proofs.reading.refusal.Reads as refusal
use Rattle.pcc.proofs.reading.notify.Reads as notify
use Rattle.pcc.proofs.reading.part.Reads as part
use Rattle.pcc.proofs.writing.write.Reads as writing
use Rattle.pcc.proofs.writing.write_apart.Reads as apart

-- the number, the size and the flag are the whole answer
read_injective : (a b : Result Packet Refusal) → number_read a ≡ number_read b → size_read a ≡ size_read b
    → notify_read a ≡ notify_read b
    → a ≡ b
read_injective (Ok x) (Ok y) e s n = λ i. Ok (record { size = s i; notify = n i })
read_injective (Ok x) (Err why) e s n = absurd (omega (arith, number_positive why))
read_injective (Err why) (Ok y) e s n = absurd (omega (arith, number_positive why))
read_injective (Err why) (Err other) e s n = ap Err (number_injective why other e)

-- What the laws of proofs/Answers take of an answer is what `read` promises of it.
pub read_says : (κs : Lfts 1) (a r e : _) → carrying.Post κs a r e → Says 64 a.0.now a.1.0 r
read_says κs a r e p = record { number = p.0; size = p.1.0; notify = p.1.1 }

pub written_injective : (a b : Result Unit Refusal) → number_written a ≡ number_written b → a ≡ b
written_injective (Ok x) (Ok y) e = refl
written_injective (Ok x) (Err why) e = absurd (omega (arith, number_positive why))
written_injective (Err why) (Ok y) e = absurd (omega (arith, number_positive why))
written_injective (Err why) (Err other) e = ap Err (number_injective why other e)

pub read_determined : (κs : Lfts 1) (a r q e f : _) → carrying.Post κs a r e → carrying.Post κs a q f → r ≡ q
read_determined κs a r q e f p o =
    read_injective r q (determined p.0 o.0) (determined p.1.0 o.1.0) (determined p.1.1 o.1.1)

-- The part holds the same bytes; where it lies is not said.
pub packet_determined : (κs : Lfts 1) (a r q e f : _) → packet.Post κs a r e → packet.Post κs a q f → r.now ≡ q.now
packet_determined κs a r q e f p o = determined p o

pub part_determined : (κs : Lfts 1) (a r q e f : _) → part.Post κs a r e → part.Post κs a q f → r.now ≡ q.now
part_determined κs a r q e f p o = determined p o

pub refusal_determined : (κs : Lfts 1) (a r q e f : _) → refusal.Post κs a r e → refusal.Post κs a q f → r ≡ q
refusal_determined κs a r q e f p o = determined p o

pub notify_determined : (κs : Lfts 1) (a r q e f : _) → notify.Post κs a r e → notify.Post κs a q f → r ≡ q
notify_determined κs a r q e f p o = determined p o

-- The answer, and every byte of the region.
pub write_determined : (κs : Lfts 2) (a r q e f : _) → writing.Post κs a r e → writing.Post κs a q f
    → (r ≡ q) × (e.0.now ≡ f.0.now)
write_determined κs a r q e f p o = (written_injective r q (determined p.0 o.0), determined p.1 o.1)

pub write_apart_determined : (κs : Lfts 2) (a r q e f : _) → apart.Post κs a r e → apart.Post κs a q f
    → (r ≡ q) × (e.1.0.now ≡ f.1.0.now)
write_apart_determined κs a r q e f p o = (written_injective r q (determined p.0 o.0), determined p.1 o.1)

-- A packet written apart, where 64 is the largest body, is the packet written whole: one answer, one region.
pub apart_is_whole : (κs : Lfts 2) (λs : Lfts 2) (a b r q e f : _) → apart.Post κs a r e → writing.Post λs b q f
    → a.0 ≡ 64 → a.1.0.now ≡ b.0.now → a.1.1.0 ≡ b.1.0 → a.1.1.1.0 ≡ b.1.1.0
    → joined a.1.1.1.1.0 ≡ b.1.1.1.0.now
    → (r ≡ q) × (e.1.0.now ≡ f.0.now)
apart_is_whole κs λs a b r q e f p o most region id notify packet = (
  written_injective r q
      (p.0 ∙ (λ i. write_refusal (most i) (length (region i)) (id i) (length (packet i))) ∙ sym o.0),
  p.1 ∙ (λ i. written_of (most i) (region i) (id i) (notify i) (packet i)) ∙ sym o.1,
)

-- No call asks anything of its arguments first.
pub no_requires : ((κs : Lfts 1) (a : _) → carrying.Pre κs a)
    × ((κs : Lfts 1) (a : _) → packet.Pre κs a)
    × ((κs : Lfts 1) (a : _) → refusal.Pre κs a)
    × ((κs : Lfts 1) (a : _) → notify.Pre κs a)
    × ((κs : Lfts 1) (a : _) → part.Pre κs a)
    × ((κs : Lfts 2) (a : _) → writing.Pre κs a)
    × ((κs : Lfts 2) (a : _) → apart.Pre κs a)
no_requires = ((λ κs a. tt), (λ κs a. tt), (λ κs a. tt), (λ κs a. tt), (λ κs a. tt), (λ κs a. tt), (λ κs a. tt))
