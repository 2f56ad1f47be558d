-- What literal answers are as lines, and which count as packets, since definition and code could be wrong alike.
-- Assumes nothing.
use mathlib.Core.Path.{◌≡◌, refl}
use mathlib.Core.Bool.{true, false}
use mathlib.Core.List.{List, [], ◌∷◌, ◌++◌, map}
use Prim.Native.Nat.{ℕ}
use lib.ListN.{replicate}
use Rattle.pec.specs.Remainder as pec
use Rattle.smbus.specs.Reading as smbus
use Rattle.receiver.specs.Step as rules
use Rattle.rack.specs.declared.answer.Beside.TheVariants.{Source}
use Rattle.rack.specs.Arrivals.{empty, skipped, refused, smbus_brings}
use Rattle.rack.specs.Answers.{Told, given, nothing}
use Rattle.records.specs.declared.line.Line.TheVariants.{Done, Held, Refused}
use Rattle.records.specs.Decimal.{digits, decimal}
use Rattle.records.specs.Line.{named, line_bytes}
use Rattle.transcript.specs.declared.state.State.{State}
use Rattle.transcript.specs.State.{start, one_more, with_packet}
use Rattle.transcript.specs.Line.{line_of}
use Rattle.transcript.specs.Frame.{after_frame}

-- answers of the message rules, from address 11, and no packet
abbrev answered : List Told
answered =
    map (λ (s : rules.Said). given (Source 0x11) s)
    (rules.refused 16 ∷ rules.refused 22 ∷ rules.held 1 64 true ∷ rules.held 2 128 false ∷ rules.done 3 130 true
    ∷ rules.done 0 1 false ∷ [])

abbrev unanswered : List Told
unanswered = nothing (refused 3) ∷ nothing (refused 8) ∷ nothing (skipped 14 76) ∷ nothing empty ∷ []

-- a refusal's line has its number, the carrier's and the message rules' alike; EMPTY, which no frame is, has 0
pub lines_told : map line_of (answered ++ unanswered)
    ≡ Refused 16 ∷ Refused 22 ∷ Held 1 64 true ∷ Held 2 128 false ∷ Done 3 130 true ∷ Done 0 1 false
    ∷ Refused 3 ∷ Refused 8 ∷ Refused 14 ∷ Refused 0 ∷ []
lines_told = refl

-- "Packets counts arrivals in which a packet was found.": one that the message rules refuse too
pub packets_told : map (λ (t : Told). with_packet t 5) (answered ++ unanswered) ≡ replicate 6 6 ++ replicate 4 5
unfolding one_more
packets_told = refl

-- a count stops at 2^64 - 1
pub counts_stop : map one_more (0 ∷ 18446744073709551614 ∷ 18446744073709551615 ∷ [])
    ≡ 1 ∷ 18446744073709551615 ∷ 18446744073709551615 ∷ []
unfolding one_more
counts_stop = refl

-- the sample's frame with one bit of its PEC wrong, with another address, and one byte short: `10 refused 8`,
-- `10 refused 4`, `10 refused 3`; each is an arrival and no packet, and the receiver and the memory stay
abbrev nine : State
nine = record { receiver = start.receiver; arrivals = 9; packets = 4 }

pub spoilt :
    map (after_frame nine (7 ∷ []))
    ((0x40 ∷ 0x0F ∷ 0x06 ∷ 0x23 ∷ 0x01 ∷ 0x09 ∷ 0x0A ∷ 0xC8 ∷ 0x00 ∷ 0x70 ∷ [])
    ∷ (0x42 ∷ 0x0F ∷ 0x06 ∷ 0x23 ∷ 0x01 ∷ 0x09 ∷ 0x0A ∷ 0xC8 ∷ 0x00 ∷ 0x71 ∷ [])
    ∷ (0x40 ∷ 0x0F ∷ 0x06 ∷ 0x23 ∷ 0x01 ∷ 0x09 ∷ 0x0A ∷ 0xC8 ∷ 0x00 ∷ [])
    ∷ [])
    ≡ map (λ (digit : ℕ).
    record {
      state = record { receiver = start.receiver; arrivals = 10; packets = 4 };
      memory = 7 ∷ [];
      text = 49 ∷ 48 ∷ 32 ∷ 114 ∷ 101 ∷ 102 ∷ 117 ∷ 115 ∷ 101 ∷ 100 ∷ 32 ∷ digit ∷ 10 ∷ [];
    }) (56 ∷ 52 ∷ 51 ∷ [])
unfolding after_frame one_more smbus_brings smbus.refusal_of smbus.end_of smbus.before_end pec.poly_step pec.eight_steps
    pec.byte_step pec.pec_from pec.pec_of line_bytes named decimal digits
spoilt = refl
