-- What a receiver makes of a message that was cut into packets (document 02, #101).
-- Assumes nothing.
use Rattle.std.specs.Prelude.{◌≡◌, List, [], ◌∷◌, false, ℕ, ◌+◌, ◌*◌, eqb, length}
use Rattle.octets.specs.Bytes.{laid}
use Rattle.octets.specs.Choice.{pick}
use Rattle.slots.specs.declared.state.Setup.{Setup}
use Rattle.slots.specs.declared.state.Receiver.{Receiver}
use Rattle.slots.specs.Changes.{fresh, with_tallies}
use Rattle.receiver.specs.Step.{held, done}
use Rattle.messages.specs.Run.{Reply, rules, Ran}
use Rattle.sender.specs.Cutting.{packets_in}
use Rattle.sender.specs.Whole.{along}

-- what the message rules answer to packet k of a message of so many bytes: held in slot 0, with the bodies so far; to
-- the last, done with the message's length
abbrev pub reply_to : (most size k : ℕ) → Reply
reply_to most size k =
    rules (pick (eqb (k + 1) (packets_in most size)) (done 0 size false) (held 0 ((k + 1) * most) false))

-- a receiver as it is set up, but for the packets that it was offered and the messages that are done (#102)
abbrev pub idle : Setup → (packets messages : ℕ) → Receiver
idle s packets messages =
    with_tallies (fresh s) (record { gathering = 0; held = 0; offered = packets; done = messages })

-- "they give that message": held, held, .., done; the message and nothing else; every slot free again, each packet
-- counted and one message done; and of the memory the front alone changes
pub record GivesMessage (most : ℕ) (s : Setup) (m message : List ℕ) (ran : Ran) : Type 0 where
  pub answers : ran.answers ≡ along (reply_to most (length message)) 0 (packets_in most (length message))
  pub messages : ran.messages ≡ message ∷ []
  pub receiver : ran.receiver ≡ idle s (packets_in most (length message)) 1
  pub memory : ran.memory ≡ laid m 0 message
