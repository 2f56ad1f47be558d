-- The contract of `message` leaves no choice: two parts that it allows hold the same bytes.
-- Assumes nothing.
use mathlib.Core.Path.{◌≡◌}
use contract.Lifetimes.{Lfts}
use Rattle.octets.proofs.Choice.{determined}
use Rattle.messages.proofs.memory.message.Reads as message

-- Where the part lies is not said.
pub message_determined : (κs : Lfts 1) (a r q e f : _) → message.Post κs a r e → message.Post κs a q f → r.now ≡ q.now
message_determined κs a r q e f p o = determined p o

-- No call asks anything of its arguments first.
pub no_requires : (κs : Lfts 1) (a : _) → message.Pre κs a
no_requires κs a = tt
