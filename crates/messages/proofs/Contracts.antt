-- What the calls' own contracts say is what a run says of its calls.
-- Assumes nothing.
use mathlib.Core.Path.{◌≡◌, ap, sym}
use mathlib.Core.Bool.{Bool}
use mathlib.Core.List.{List, [], ◌∷◌}
use Prim.Native.Nat.{ℕ}
use contract.Lifetimes.{Lfts}
use Rattle.mctp.specs.Refusals.{outcome_number}
use Rattle.slots.proofs.free.Reads as freeing
use Rattle.receiver.specs.Step.{done, left}
use Rattle.receiver.proofs.give.Reads as giving
use Rattle.messages.specs.Run.{give, free, messages_of, of_step, of_freed, called}
use Rattle.messages.proofs.memory.message.Reads as message

-- `receiver::give`
pub give_is_called : (κs : Lfts 2) (a r e : _) → giving.Post κs a r e
    → called 64 a.0 a.1.0.now (give a.1.1.1.0 a.1.1.0.now) ≡ of_step (left r e.1.0.now)
give_is_called κs a r e p = ap of_step (sym p)

-- `slots::free`, with any memory beside it
pub free_is_called : (κs : Lfts 0) (a r e : _) → freeing.Post κs a r e → (m : List ℕ)
    → called 64 a.0 m (free a.1.0) ≡ of_freed (outcome_number r.outcome) r.receiver m
free_is_called κs a r e p m = λ i. of_freed (sym p.0 i) (sym p.1 i) m

-- and `messages::message`: of an answer "done", it is the message
pub message_is_told : (κs : Lfts 1) (a r e : _) → message.Post κs a r e → (again : Bool)
    → messages_of (done a.1.0 a.1.1.0 again) a.0.now ≡ r.now ∷ []
message_is_told κs a r e p again = ap (λ (l : List ℕ). l ∷ []) (sym p)
