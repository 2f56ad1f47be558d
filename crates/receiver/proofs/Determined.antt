-- The contract of `give` leaves no choice: two results that it allows are equal, and so is every byte of the memory.
-- Assumes nothing.
use mathlib.Core.Path.{◌≡◌, ap}
use contract.Lifetimes.{Lfts}
use Rattle.octets.proofs.Choice.{determined}
use Rattle.std.proofs.Common.{Result, Ok, Err}
use Rattle.mctp.specs.declared.refusal.Refusal.{Refusal}
use Rattle.mctp.proofs.Refusals.{number_injective}
use Rattle.receiver.specs.declared.giving.Kept.{Kept}
use Rattle.receiver.specs.declared.giving.Kept.TheVariants.{Held, Done}
use Rattle.receiver.specs.Step.{says, Left, left}
use Rattle.receiver.proofs.giving.give.Reads as give

-- an answer is told by its number and values
pub says_injective : (a b : Result Kept Refusal) → says a ≡ says b → a ≡ b
says_injective (Err r) (Err s) e = ap Err (number_injective r s (cc))
says_injective (Err r) (Ok (Held j b g)) e = cc
says_injective (Err r) (Ok (Done j b g)) e = cc
says_injective (Ok (Held i a f)) (Err s) e = cc
says_injective (Ok (Held i a f)) (Ok (Held j b g)) e = cc
says_injective (Ok (Held i a f)) (Ok (Done j b g)) e = cc
says_injective (Ok (Done i a f)) (Err s) e = cc
says_injective (Ok (Done i a f)) (Ok (Held j b g)) e = cc
says_injective (Ok (Done i a f)) (Ok (Done j b g)) e = cc

-- answer, receiver and memory
pub give_determined : (κs : Lfts 2) (a r q e f : _) → give.Post κs a r e → give.Post κs a q f
    → (r ≡ q) × (e.1.0.now ≡ f.1.0.now)
give_determined κs a r q e f p o =
    let same : left r e.1.0.now ≡ left q f.1.0.now = determined p o in
    let answer = says_injective r.answer q.answer (ap (λ (l : Left). l.said) same) in
    ((λ i. record { answer = answer i; receiver = (same i).receiver }), ap (λ (l : Left). l.memory) same)

-- No call asks anything of its arguments first.
pub no_requires : (κs : Lfts 2) (a : _) → give.Pre κs a
no_requires κs a = tt
