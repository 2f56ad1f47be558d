-- Document 01's sample: "For the good frame above (length byte 0A), then `01 00`, it writes exactly" three lines.
-- Assumes nothing.
use mathlib.Core.Path.{◌≡◌, refl}
use mathlib.Core.Bool.{false}
use mathlib.Core.List.{List, [], ◌∷◌, ◌++◌}
use Prim.Native.Nat.{ℕ}
use lib.ListN.{length}
use Rattle.octets.specs.Bytes.{laid}
use Rattle.pec.specs.Remainder as pec
use Rattle.mctp.specs.Key as key
use Rattle.smbus.specs.Reading as smbus
use Rattle.slots.specs.declared.state.SlotState.TheVariants.{Free}
use Rattle.slots.specs.Slots as slots
use Rattle.slots.specs.State as state
use Rattle.slots.specs.Tallies.{sum_of}
use Rattle.slots.specs.Ages.{expired_to}
use Rattle.slots.proofs.Literal.{tallied}
use Rattle.decision.specs.Rules as rules
use Rattle.decision.specs.Decision.{aged_of, decided}
use Rattle.receiver.specs.Step.{offered_to, step_of}
use Rattle.rack.specs.declared.answer.Beside.TheVariants.{Source}
use Rattle.rack.specs.Arrivals.{packet, none, refused, smbus_brings}
use Rattle.records.specs.declared.line.Line.TheVariants.{Done, Refused}
use Rattle.records.specs.Decimal.{digits, decimal}
use Rattle.records.specs.Line.{named, pair, line_bytes, last_line}
use Rattle.records.proofs.Samples.{records}
use Rattle.transcript.specs.declared.state.State.{State}
use Rattle.transcript.specs.State.{start, every_time, one_more}
use Rattle.transcript.specs.Frame.{Ran, after_frame}
use Rattle.transcript.specs.Taking.{run}
use Rattle.transcript.specs.Last.{transcript_of}

-- "`40 0F 06 23 01 09 0A C8 00 71` is a good frame for address 0x20: done at EID 9, length 1"
found : smbus_brings 64 (0x40 ∷ 0x0F ∷ 0x06 ∷ 0x23 ∷ 0x01 ∷ 0x09 ∷ 0x0A ∷ 0xC8 ∷ 0x00 ∷ 0x71 ∷ []) 0x20
    ≡ packet (0x01 ∷ 0x09 ∷ 0x0A ∷ 0xC8 ∷ 0x00 ∷ []) (Source 17)
unfolding smbus_brings smbus.refusal_of smbus.end_of smbus.before_end smbus.part_of smbus.packet_of
    smbus.source_address_of
    pec.poly_step pec.eight_steps pec.byte_step pec.pec_from pec.pec_of
found = refl

short : smbus_brings 64 (0x00 ∷ []) 0x20 ≡ none (refused 3)
unfolding smbus_brings smbus.refusal_of
short = refl

done : decided 64 start.receiver 4096 (0x01 ∷ 0x09 ∷ 0x0A ∷ 0xC8 ∷ 0x00 ∷ [])
    ≡ rules.put 0 0 false Free
unfolding decided rules.ruled
    rules.on_start rules.after key.key_of key.header_of key.same_key slots.first_of slots.slot_of slots.lowest_free
    state.right_state state.right_slot state.clash sum_of
done = refl

aged : aged_of 64 0 start.receiver 4096 ≡ start.receiver
unfolding state.right_state state.right_slot state.clash sum_of expired_to
aged = refl

-- "The bench program gives 0 as every time."
pub at_0 : every_time ≡ 0
at_0 = refl

-- what the two frames leave, in any memory of the right size
module _ (m : List ℕ) (sized : length m ≡ 4096) where
  first : Ran
  first =
      record {
        state = record { receiver = tallied 0 0 1 1 start.receiver; arrivals = 1; packets = 1 };
        memory = laid m 0 (0x00 ∷ []);
        text = line_bytes 1 (Done 0 1 false);
      }

  one : after_frame start m (0x40 ∷ 0x0F ∷ 0x06 ∷ 0x23 ∷ 0x01 ∷ 0x09 ∷ 0x0A ∷ 0xC8 ∷ 0x00 ∷ 0x71 ∷ []) ≡ first
  unfolding after_frame step_of offered_to one_more sum_of first
  one = rw (found, sized, aged, done)

  two : (s : State) (n : List ℕ)
      → after_frame s n (0x00 ∷ []) ≡ record {
        state = record { receiver = s.receiver; arrivals = one_more s.arrivals; packets = s.packets };
        memory = n;
        text = line_bytes (one_more s.arrivals) (Refused 3);
      }
  unfolding after_frame
  two s n = rw short

  pub sample : transcript_of m (0x0A ∷ 0x40 ∷ 0x0F ∷ 0x06 ∷ 0x23 ∷ 0x01 ∷ 0x09 ∷ 0x0A ∷ 0xC8 ∷ 0x00 ∷ 0x71 ∷ 0x01 ∷ 0x00
      ∷ [])
      -- `1 done slot 0 length 1`
      ≡ (49 ∷ 32 ∷ 100 ∷ 111 ∷ 110 ∷ 101 ∷ 32 ∷ 115 ∷ 108 ∷ 111 ∷ 116 ∷ 32 ∷ 48 ∷ 32 ∷ 108 ∷ 101 ∷ 110 ∷ 103 ∷ 116
      ∷ 104 ∷ 32 ∷ 49 ∷ 10 ∷ [])
      -- `2 refused 3`
      ++ (50 ∷ 32 ∷ 114 ∷ 101 ∷ 102 ∷ 117 ∷ 115 ∷ 101 ∷ 100 ∷ 32 ∷ 51 ∷ 10 ∷ [])
      -- `arrivals 2 packets 1`
      ++ (97 ∷ 114 ∷ 114 ∷ 105 ∷ 118 ∷ 97 ∷ 108 ∷ 115 ∷ 32 ∷ 50 ∷ 32 ∷ 112 ∷ 97 ∷ 99 ∷ 107 ∷ 101 ∷ 116 ∷ 115 ∷ 32 ∷ 49
      ∷ 10 ∷ [])
  unfolding transcript_of run one_more first digits decimal named pair line_bytes last_line
  sample = rw (records.sample, one, two)
