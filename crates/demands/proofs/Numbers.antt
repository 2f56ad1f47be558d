-- Document 01's "Numbers to check", those marked P: "prove these together as a single checked list".
-- Assumes nothing.
use mathlib.Core.Path.{◌≡◌}
use mathlib.Core.Bool.{true, false}
use mathlib.Core.List.{List, [], ◌∷◌, ◌++◌}
use Prim.Native.Nat.{ℕ}
use lib.ListN.{replicate}
use Rattle.pec.specs.Remainder.{pec_of}
use Rattle.mmbi.specs.declared.interface.InterfaceState.TheVariants.{NormalRuntime}
use Rattle.mmbi.specs.Interface.{flags_of, state_of, is_transient}
use Rattle.ring.specs.Numbers.{filled_of, room_of}
use Rattle.slots.specs.declared.state.Receiver.{Receiver}
use Rattle.slots.specs.Changes.{fresh}
use Rattle.receiver.specs.Step.{held, done}
use Rattle.messages.specs.Run.{rules, at_once, run_packets}
use Rattle.sender.specs.Whole.{all_packets}
use Rattle.rack.specs.declared.answer.Beside.TheVariants.{Source}
use Rattle.rack.specs.Arrivals.{by_smbus}
use Rattle.rack.specs.Answers.{given}
use Rattle.demands.specs.Presenting.{arrival}

-- a receiver just set up, with a limit of a second, and its memory
abbrev pub card : Receiver
card = fresh (record { own = record { 0 = 9 }; limit = 1000 })

abbrev pub empty : List ℕ
empty = replicate 4096 0

-- a packet from EID 10 to EID 9 with these flags and n bytes of one value
abbrev pub packet_with : ℕ → ℕ → ℕ → List ℕ
packet_with flags n b = 1 ∷ 9 ∷ 10 ∷ flags ∷ replicate n b

pub record Numbers : Type 0 where
  -- "PEC of nothing 0; of 01 is 07; of 80 is 89; of 01 01 is 12."
  pub pec_of_nothing : pec_of [] ≡ 0
  pub pec_of_01 : pec_of (0x01 ∷ []) ≡ 0x07
  pub pec_of_80 : pec_of (0x80 ∷ []) ≡ 0x89
  pub pec_of_01_01 : pec_of (0x01 ∷ 0x01 ∷ []) ≡ 0x12
  -- "`40 0F 06 23 01 09 0A C8 00 71` is a good frame for address 0x20: done at EID 9, length 1."
  pub good_frame : (arrival 64 0 card empty
      (by_smbus (0x40 ∷ 0x0F ∷ 0x06 ∷ 0x23 ∷ 0x01 ∷ 0x09 ∷ 0x0A ∷ 0xC8 ∷ 0x00 ∷ 0x71 ∷ []) 0x20)).told
      ≡ given (Source 0x11) (done 0 1 false)
  -- "ring 128: read 120, write 8: filled 16, room 108. Both 0: filled 0, room 124. Read 4, write 0: filled 124, room
  -- 0."
  pub over_the_end : (filled_of 128 120 8 ≡ 16) × (room_of 128 120 8 ≡ 108)
  pub both_zero : (filled_of 128 0 0 ≡ 0) × (room_of 128 0 0 ≡ 124)
  pub full : (filled_of 128 4 0 ≡ 124) × (room_of 128 4 0 ≡ 0)
  -- "bodies 64, 64, 2 with flags BD, 0D, 5D make a message of 130."
  pub answers : (run_packets 64 card empty
      (at_once 0 (packet_with 0xBD 64 1 ∷ packet_with 0x0D 64 2 ∷ packet_with 0x5D 2 3 ∷ []))).answers
      ≡ rules (held 0 64 false) ∷ rules (held 0 128 false) ∷ rules (done 0 130 false) ∷ []
  pub message : (run_packets 64 card empty
      (at_once 0 (packet_with 0xBD 64 1 ∷ packet_with 0x0D 64 2 ∷ packet_with 0x5D 2 3 ∷ []))).messages
      ≡ (replicate 64 1 ++ replicate 64 2 ++ replicate 2 3) ∷ []
  -- that message from EID 10 to EID 9, tag owner, tag 5, first sequence 3, cut into packets (document 02, #101): the
  -- same three
  pub cut : all_packets 64
      (record {
        key = record { destination = record { 0 = 9 }; source = record { 0 = 10 }; owner = true; tag = 5 };
        first = 3;
      })
      (replicate 64 1 ++ replicate 64 2 ++ replicate 2 3)
      ≡ packet_with 0xBD 64 1 ∷ packet_with 0x0D 64 2 ∷ packet_with 0x5D 2 3 ∷ []
  -- "flag state 0000 is transient; 1010 is normal runtime."
  pub transient : is_transient (state_of (flags_of false false false false)) ≡ true
  pub running : state_of (flags_of true false true false) ≡ NormalRuntime
