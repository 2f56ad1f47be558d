-- What an answer says of a frame, and of a packet: for who takes the answer apart.
-- Assumes nothing.
use mathlib.Core.Path.{◌≡◌, sym, ap, ◌∙◌}
use mathlib.Core.List.{List}
use Prim.Native.Nat.{ℕ, ◌/◌}
use borrow.Author.Tests.{ne_eqb}
use lib.ListN.{length, get_or}
use Rattle.std.proofs.Common.{Result, Ok, Err}
use Rattle.octets.specs.Bytes.{fronted}
use Rattle.mctp.specs.declared.refusal.Refusal.{Refusal}
use Rattle.mctp.specs.Refusals.{number_of}
use Rattle.smbus.specs.declared.answer.Packet.{Packet}
use Rattle.smbus.specs.Layout.{frame_of}
use Rattle.smbus.specs.Reading.{refusal_of, packet_of, part_of, source_address_of}
use Rattle.smbus.specs.Writing.{write_refusal, written_of}
use Rattle.smbus.specs.Answers.{number_read, source_read}

module _ (most : ℕ) (frame : List ℕ) (own : ℕ) where
  -- the two promises of `read`
  abbrev pub Says : Result Packet Refusal → Type 0
  Says answer = record {
    number : number_read answer ≡ refusal_of most frame own;
    source : source_read answer ≡ source_address_of most frame own;
  }

  module _ (e : refusal_of most frame own ≡ 0) where
    -- a good frame gives its part and its sender
    pub good_packet : packet_of most frame own ≡ part_of frame
    unfolding packet_of
    good_packet = rw e

    pub good_source : source_address_of most frame own ≡ get_or frame 3 0 / 2
    unfolding source_address_of
    good_source = rw e

  module _ (answer : Result Packet Refusal) (says : Says answer) where
    -- an answer with a packet is that of a good frame
    module _ (packet : Packet) (is : answer ≡ Ok packet) where
      pub told_good : refusal_of most frame own ≡ 0
      told_good = sym says.number ∙ ap number_read is

      pub told_packet : packet_of most frame own ≡ part_of frame
      told_packet = good_packet told_good

      pub told_source : source_address_of most frame own ≡ packet.source
      told_source = sym says.source ∙ ap source_read is

    -- any other answer names the number
    module _ (why : Refusal) (is : answer ≡ Err why) where
      pub told_number : refusal_of most frame own ≡ number_of why
      told_number = sym says.number ∙ ap number_read is

module _ (most : ℕ) (out packet : List ℕ) (destination source : ℕ) where
  abbrev number : ℕ
  number = write_refusal most (length out) (length packet) destination source

  -- the output, where a packet may be written and where not
  pub output_written_lem : number ≡ 0
      → written_of most out packet destination source ≡ fronted out (frame_of destination source packet)
  unfolding written_of
  output_written_lem e = rw e

  pub output_unwritten : (number ≡ 0 → ⊥) → written_of most out packet destination source ≡ out
  unfolding written_of
  output_unwritten refused = rw (ne_eqb number 0 refused)
