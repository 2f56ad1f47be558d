-- The contracts of the public calls leave no choice: two results that one allows on the same input are equal.
-- Assumes nothing.
use mathlib.Core.Path.{◌≡◌, ap, sym, ◌∙◌}
use native.Mathlib.Omega.{arith}
use contract.Lifetimes.{Lfts}
use lib.ListN.{length}
use Prim.Native.Nat.{ℕ}
use Rattle.std.proofs.Common.{Result, Ok, Err}
use Rattle.mctp.specs.Apart.{joined}
use Rattle.mctp.specs.declared.refusal.Refusal.{Refusal}
use Rattle.octets.proofs.Choice.{determined}
use Rattle.mctp.proofs.Refusals.{number_injective, number_positive}
use Rattle.smbus.specs.declared.answer.Packet.{Packet}
use Rattle.smbus.specs.Writing.{write_refusal, size_of, written_of}
use Rattle.smbus.proofs.Answers.{Says}
use Rattle.smbus.specs.Answers.{number_read, source_read, number_written, size_written}
use Rattle.smbus.proofs.reading.packet.Reads as packet
use Rattle.smbus.proofs.reading.refusal.Reads as refusal
use Rattle.smbus.proofs.reading.source.Reads as source
use Rattle.smbus.proofs.reading.read.Reads as carrying
use Rattle.smbus.proofs.reading.part.Reads as part
use Rattle.smbus.proofs.writing.write.Reads as writing
use Rattle.smbus.proofs.writing.write_apart.Reads as apart

-- Answers that say the same are the same.
read_injective : (a b : Result Packet Refusal) → number_read a ≡ number_read b → source_read a ≡ source_read b → a ≡ b
read_injective (Ok x) (Ok y) n s = λ i. Ok (record { source = s i })
read_injective (Ok x) (Err why) n s = absurd (omega (arith, number_positive why))
read_injective (Err why) (Ok y) n s = absurd (omega (arith, number_positive why))
read_injective (Err why) (Err other) n s = ap Err (number_injective why other n)

-- What the laws of proofs/Answers take of an answer is what `read` promises of it.
pub read_says : (κs : Lfts 1) (a r e : _) → carrying.Post κs a r e → Says 64 a.0.now a.1.0 r
read_says κs a r e p = record { number = p.0; source = p.1 }

pub written_injective : (a b : Result ℕ Refusal) → number_written a ≡ number_written b
    → size_written a ≡ size_written b
    → a ≡ b
written_injective (Ok m) (Ok k) n s = ap Ok s
written_injective (Ok m) (Err why) n s = absurd (omega (arith, number_positive why))
written_injective (Err why) (Ok k) n s = absurd (omega (arith, number_positive why))
written_injective (Err why) (Err other) n s = ap Err (number_injective why other n)

-- The part holds the same bytes; where it lies is not said.
pub packet_determined : (κs : Lfts 1) (a r q e f : _) → packet.Post κs a r e → packet.Post κs a q f → r.now ≡ q.now
packet_determined κs a r q e f p o = determined p o

pub part_determined : (κs : Lfts 1) (a r q e f : _) → part.Post κs a r e → part.Post κs a q f → r.now ≡ q.now
part_determined κs a r q e f p o = determined p o

pub refusal_determined : (κs : Lfts 1) (a r q e f : _) → refusal.Post κs a r e → refusal.Post κs a q f → r ≡ q
refusal_determined κs a r q e f p o = determined p o

pub source_determined : (κs : Lfts 1) (a r q e f : _) → source.Post κs a r e → source.Post κs a q f → r ≡ q
source_determined κs a r q e f p o = determined p o

pub read_determined : (κs : Lfts 1) (a r q e f : _) → carrying.Post κs a r e → carrying.Post κs a q f → r ≡ q
read_determined κs a r q e f p o = read_injective r q (determined p.0 o.0) (determined p.1 o.1)

-- The answer and the output.
pub write_determined : (κs : Lfts 2) (a r q e f : _) → writing.Post κs a r e → writing.Post κs a q f
    → (r ≡ q) × (e.0.now ≡ f.0.now)
write_determined κs a r q e f p o = (
  written_injective r q (determined p.0 o.0) (determined p.1.0 o.1.0),
  determined p.1.1 o.1.1,
)

pub write_apart_determined : (κs : Lfts 2) (a r q e f : _) → apart.Post κs a r e → apart.Post κs a q f
    → (r ≡ q) × (e.1.0.now ≡ f.1.0.now)
write_apart_determined κs a r q e f p o = (
  written_injective r q (determined p.0 o.0) (determined p.1.0 o.1.0),
  determined p.1.1 o.1.1,
)

-- A packet written apart, where 64 is the largest body, is the packet written whole: one answer, one output.
pub apart_is_whole : (κs : Lfts 2) (λs : Lfts 2) (a b r q e f : _) → apart.Post κs a r e → writing.Post λs b q f
    → a.0 ≡ 64 → a.1.0.now ≡ b.0.now → joined a.1.1.0 ≡ b.1.0.now
    → a.1.1.1.0 ≡ b.1.1.0 → a.1.1.1.1.0 ≡ b.1.1.1.0
    → (r ≡ q) × (e.1.0.now ≡ f.0.now)
apart_is_whole κs λs a b r q e f p o most out packet to by = (
  written_injective r q
      (p.0 ∙ (λ i. write_refusal (most i) (length (out i)) (length (packet i)) (to i) (by i)) ∙ sym o.0)
      (p.1.0 ∙ (λ i. size_of (most i) (length (out i)) (length (packet i)) (to i) (by i)) ∙ sym o.1.0),
  p.1.1 ∙ (λ i. written_of (most i) (out i) (packet i) (to i) (by i)) ∙ sym o.1.1,
)

-- No call asks anything of its arguments first.
pub no_requires : ((κs : Lfts 1) (a : _) → packet.Pre κs a)
    × ((κs : Lfts 1) (a : _) → refusal.Pre κs a)
    × ((κs : Lfts 1) (a : _) → source.Pre κs a)
    × ((κs : Lfts 1) (a : _) → carrying.Pre κs a)
    × ((κs : Lfts 1) (a : _) → part.Pre κs a)
    × ((κs : Lfts 2) (a : _) → writing.Pre κs a)
    × ((κs : Lfts 2) (a : _) → apart.Pre κs a)
no_requires = ((λ κs a. tt), (λ κs a. tt), (λ κs a. tt), (λ κs a. tt), (λ κs a. tt), (λ κs a. tt), (λ κs a. tt))
