-- Refusals: two with one number are equal, and no number is 0.
-- Assumes nothing.
use mathlib.Core.Path.{◌≡◌, refl, ap, sym, ◌∙◌}
use mathlib.Core.List.{List, [], ◌∷◌}
use Prim.Native.Nat.{ℕ, ◌≤◌}
use lib.Dec.{lit≤}
use lib.ListN.{get_or}
use Rattle.mctp.specs.declared.refusal.Refusal.{Refusal}
use Rattle.mctp.specs.declared.refusal.Refusal.TheVariants.{Setup, Room, Size, Address, Command, Count}
use Rattle.mctp.specs.declared.refusal.Refusal.TheVariants.{SourceBit, Pec, Signature, Descriptor, NotRunning}
use Rattle.mctp.specs.declared.refusal.Refusal.TheVariants.{Pointer, BadPacket, OtherKind, Version, NotOurs}
use Rattle.mctp.specs.declared.refusal.Refusal.TheVariants.{Source, NoSlot, NoStart, Sequence, Unit, TooLong}
use Rattle.mctp.specs.declared.refusal.Refusal.TheVariants.{PastEnd}
use Rattle.mctp.specs.Refusals.{number_of}

-- the refusals in the order of their numbers; place 0 is not used
by_number : List Refusal
by_number =
    Setup ∷ Setup ∷ Room ∷ Size ∷ Address ∷ Command ∷ Count ∷ SourceBit ∷ Pec ∷ Signature ∷ Descriptor ∷ NotRunning
    ∷ Pointer ∷ BadPacket ∷ OtherKind ∷ Version ∷ NotOurs ∷ Source ∷ NoSlot ∷ NoStart ∷ Sequence ∷ Unit ∷ TooLong
    ∷ PastEnd ∷ []

named : (r : Refusal) → get_or by_number (number_of r) Setup ≡ r
unfolding by_number
named Setup = refl
named Room = refl
named Size = refl
named Address = refl
named Command = refl
named Count = refl
named SourceBit = refl
named Pec = refl
named Signature = refl
named Descriptor = refl
named NotRunning = refl
named Pointer = refl
named BadPacket = refl
named OtherKind = refl
named Version = refl
named NotOurs = refl
named Source = refl
named NoSlot = refl
named NoStart = refl
named Sequence = refl
named Unit = refl
named TooLong = refl
named PastEnd = refl

-- two refusals with one number are one refusal
pub number_injective : (r s : Refusal) → number_of r ≡ number_of s → r ≡ s
number_injective r s e = sym (named r) ∙ ap (λ (n : ℕ). get_or by_number n Setup) e ∙ named s

-- 0 stands for good alone
pub number_positive : (r : Refusal) → 1 ≤ number_of r
number_positive Setup = lit≤ tt
number_positive Room = lit≤ tt
number_positive Size = lit≤ tt
number_positive Address = lit≤ tt
number_positive Command = lit≤ tt
number_positive Count = lit≤ tt
number_positive SourceBit = lit≤ tt
number_positive Pec = lit≤ tt
number_positive Signature = lit≤ tt
number_positive Descriptor = lit≤ tt
number_positive NotRunning = lit≤ tt
number_positive Pointer = lit≤ tt
number_positive BadPacket = lit≤ tt
number_positive OtherKind = lit≤ tt
number_positive Version = lit≤ tt
number_positive NotOurs = lit≤ tt
number_positive Source = lit≤ tt
number_positive NoSlot = lit≤ tt
number_positive NoStart = lit≤ tt
number_positive Sequence = lit≤ tt
number_positive Unit = lit≤ tt
number_positive TooLong = lit≤ tt
number_positive PastEnd = lit≤ tt
