-- What an answer says of a region: for who takes the answer apart.
-- Assumes nothing.
use mathlib.Core.Path.{◌≡◌, ap, sym, ◌∙◌}
use mathlib.Core.List.{List}
use Prim.Native.Nat.{ℕ}
use Rattle.std.proofs.Common.{Result}
use Rattle.mctp.specs.declared.refusal.Refusal.{Refusal}
use Rattle.pcc.specs.declared.answer.Packet.{Packet}
use Rattle.pcc.specs.Reading.{refusal_of, size_of, part_of, packet_of, notify_of}
use Rattle.pcc.specs.Answers.{number_read, size_read, notify_read}

module _ (most : ℕ) (region : List ℕ) (id : ℕ) where
  -- the three promises of `read`
  abbrev pub Says : Result Packet Refusal → Type 0
  Says answer = record {
    number : number_read answer ≡ refusal_of most region id;
    size : size_read answer ≡ size_of most region id;
    notify : notify_read answer ≡ notify_of most region id;
  }

  -- an answer says the same once it is known which it is
  module _ {answer known : Result Packet Refusal} (says : Says answer) (is : answer ≡ known) where
    pub told_number : number_read known ≡ refusal_of most region id
    told_number = sym (ap number_read is) ∙ says.number

    pub told_notify : notify_read known ≡ notify_of most region id
    told_notify = sym (ap notify_read is) ∙ says.notify

    -- the part of the size that it says is the packet
    pub told_packet : part_of region (size_read known) ≡ packet_of most region id
    told_packet = ap (part_of region) (sym (ap size_read is) ∙ says.size)
