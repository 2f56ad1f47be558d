-- What the message rules make of a few packets, by computation: the facts that Useless and Examples rest on.
-- Assumes nothing.
use mathlib.Core.Path.{◌≡◌, refl}
use mathlib.Core.Bool.{true, false}
use mathlib.Core.List.{List, [], ◌∷◌}
use mathlib.Core.Logic.{inl, inr}
use Prim.Native.Nat.{ℕ}
use native.Mathlib.Omega.{arith}
use lib.Dec.{lit<, lit≤}
use lib.ListN.{get_or}
use Rattle.octets.specs.Bytes.{laid}
use Rattle.mctp.specs.Key.{key_of, header_of, same_key}
use Rattle.smbus.proofs.Literal.{literal_packet}
use Rattle.slots.specs.declared.state.Receiver.{Receiver}
use Rattle.slots.specs.declared.state.SlotState.TheVariants.{Gathering}
use Rattle.slots.specs.Slots.{free_slot, slot_at, is_free, first_of, slot_of, lowest_free}
use Rattle.slots.specs.State.{multiple, right_numbers, right_slot, clash, right_state}
use Rattle.slots.specs.Tallies.{sum_of}
use Rattle.slots.specs.Changes.{fresh, free_refusal}
use Rattle.slots.specs.Ages.{expired_to, expired}
use Rattle.slots.proofs.Literal.{with_slots_lem, gathering as filled}
use Rattle.decision.specs.Rules.{after, on_start, gathered, on_follow, ruled}
use Rattle.decision.specs.Decision.{decided}
use Rattle.receiver.specs.Step.{refused, held, done, offered_to, step_of}
use Rattle.messages.specs.Run.{give, free, rules, run, run_packets}
use Rattle.messages.specs.Message.{Item, packet, between, Starts, Middles, OneMessage, slot_for}
use Rattle.demands.proofs.Numbers.{card, empty, packet_with}

-- a receiver with another EID
abbrev pub stranger : Receiver
stranger = fresh (record { own = record { 0 = 8 }; limit = 1000 })

-- a receiver that has taken a start of one byte
abbrev pub gathering : Receiver
gathering =
    record {
      setup = record { own = record { 0 = 9 }; limit = 1000 };
      slots =
          record {
            state = Gathering
                (record { destination = record { 0 = 9 }; source = record { 0 = 10 }; owner = false; tag = 0 }) 0 1 1;
            since = 0;
          }
          ∷ free_slot
          ∷ free_slot
          ∷ free_slot
          ∷ [];
      tallies = record { gathering = 1; held = 1; offered = 1; done = 0 };
    }

-- a receiver that has no slot free: four starts at 0, one of them of the key of document 01's message
abbrev pub crowded : Receiver
crowded = with_slots_lem (filled 4 64) (filled 5 64) (filled 6 64) (filled 7 64)

-- document 01's message of 130, with a packet of another key, one that is refused and a slot freed between its packets:
-- the count wraps before the middle, and the end comes at the limit. All four starts are old by then.
abbrev pub middles : List Item
middles =
    between (give 4294967290 (packet_with 0x80 1 7))
    ∷ packet 500 (packet_with 0x0D 64 2)
    ∷ between (give 1500 [])
    ∷ between (free 3)
    ∷ []

pub record Steps : Type 0 where
  pub first_taken : is_free (slot_at (step_of 64 0 card empty (packet_with 0x80 1 7)).receiver.slots 0) ≡ false
  pub first_laid : get_or (step_of 64 0 card empty (packet_with 0x80 1 7)).memory 0 0 ≡ 7
  pub second_laid : get_or (step_of 64 0 gathering empty (packet_with 0x50 1 7)).memory 1 0 ≡ 7
  pub held_one : (step_of 64 0 card empty (packet_with 0x80 1 7)).said ≡ held 0 1 false
  pub held_two : (step_of 64 0 card empty (packet_with 0x80 2 7)).said ≡ held 0 2 false
  pub no_memory : (step_of 64 0 card [] literal_packet).said ≡ refused 2
  pub not_ours : (step_of 64 0 stranger empty literal_packet).said ≡ refused 16
  pub not_next : (step_of 64 0 gathering empty (packet_with 0x00 1 7)).said ≡ refused 20
  pub one_packet : Starts 64 card.setup literal_packet
  pub room : slot_for card.slots (key_of literal_packet) ≡ 0
  pub right : right_state 64 card ≡ true
  pub right_gathering : right_state 64 gathering ≡ true
  pub right_crowded : right_state 64 crowded ≡ true
  pub room_then : slot_for (expired 4294967000 crowded).slots (key_of literal_packet) ≡ 0
  pub begun_again : Starts 64 gathering.setup (packet_with 0x80 2 7)
  pub its_slot : slot_at gathering.slots 0 ≡ Gathering (key_of (packet_with 0x80 2 7)) 0 1 1
  pub ended_at_once : Starts 64 gathering.setup (packet_with 0xC0 3 7)
  pub its_slot_then : slot_at gathering.slots 0 ≡ Gathering (key_of (packet_with 0xC0 3 7)) 0 1 1
  pub start_told : (step_of 64 0 card empty (packet_with 0x80 1 7)).receiver.tallies ≡ gathering.tallies
  pub done_told : (step_of 64 0 card empty (packet_with 0xC0 1 7)).receiver.tallies
      ≡ record { gathering = 0; held = 0; offered = 1; done = 1 }
  pub refused_in_time : (step_of 64 1000 gathering empty []).said ≡ refused 3
  pub kept : is_free (slot_at (step_of 64 1000 gathering empty []).receiver.slots 0) ≡ false
  pub refused_late : (step_of 64 1001 gathering empty []).said ≡ refused 3
  pub freed : is_free (slot_at (step_of 64 1001 gathering empty []).receiver.slots 0) ≡ true
  pub ends_in_time : (run_packets 64 card empty ((7, packet_with 0x80 1 7) ∷ (1007, packet_with 0x50 1 8) ∷ [])).answers
      ≡ rules (held 0 1 false) ∷ rules (done 0 2 false) ∷ []
  pub ends_late : (run_packets 64 card empty ((7, packet_with 0x80 1 7) ∷ (1008, packet_with 0x50 1 8) ∷ [])).answers
      ≡ rules (held 0 1 false) ∷ rules (refused 19) ∷ []
  pub no_slot : free_refusal 64 card 4 ≡ 1
  pub whole : OneMessage 64 crowded empty 4294967000 (packet_with 0xBD 64 1) middles 1500 (packet_with 0x5D 2 3)

pub steps : Steps
unfolding run step_of offered_to expired_to decided ruled on_start on_follow gathered
    after slot_of lowest_free first_of header_of key_of same_key right_state right_slot right_numbers multiple clash
    laid
    free_refusal sum_of
    slot_for Middles
steps =
    record {
      first_taken = refl;
      first_laid = refl;
      second_laid = refl;
      held_one = refl;
      held_two = refl;
      no_memory = refl;
      not_ours = refl;
      not_next = refl;
      one_packet = record { checked = (refl, (refl, (refl, (refl, tt)))); start = refl };
      room = refl;
      right = refl;
      right_gathering = refl;
      right_crowded = refl;
      room_then = refl;
      begun_again = record { checked = (refl, (refl, (refl, (refl, tt)))); start = refl };
      its_slot = refl;
      ended_at_once = record { checked = (refl, (refl, (refl, (refl, tt)))); start = refl };
      its_slot_then = refl;
      start_told = refl;
      done_told = refl;
      refused_in_time = refl;
      kept = refl;
      refused_late = refl;
      freed = refl;
      ends_in_time = refl;
      ends_late = refl;
      no_slot = refl;
      whole =
          record {
            state = refl;
            memory = refl;
            room = lit< tt;
            starts = record { checked = (refl, (refl, (refl, (refl, tt)))); start = refl };
            more = refl;
            middles = (
              (lit≤ tt, inl refl),
              (
                lit≤ tt,
                record {
                  checked = (refl, (refl, (refl, (refl, tt))));
                  not_start = refl;
                  key = refl;
                  sequence = refl;
                  size = refl;
                  room = lit≤ tt;
                },
                refl,
                ((lit≤ tt, inr (3, lit≤ tt, refl)), ((λ (e : ◌≡◌ {A = ℕ} 3 0). omega arith), tt)),
              ),
            );
            in_time = lit≤ tt;
            follows =
                record {
                  checked = (refl, (refl, (refl, (refl, tt))));
                  not_start = refl;
                  key = refl;
                  sequence = refl;
                  size = refl;
                  room = lit≤ tt;
                };
            last = refl;
          };
    }
