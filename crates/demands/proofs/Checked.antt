-- Document 01's numbers marked P, all of them, in one theorem.
-- Assumes nothing.
use mathlib.Core.Path.{◌≡◌, refl, ap, ◌∙◌}
use mathlib.Core.Bool.{false}
use Rattle.octets.specs.Bytes.{laid}
use Rattle.mctp.specs.Key.{key_of, header_of, same_key}
use Rattle.pec.specs.Remainder.{poly_step, eight_steps, byte_step, pec_from, pec_of}
use Rattle.smbus.proofs.Literal.{literal_frame, literal_packet, literal_good, literal_packet_lem, literal_source}
use Rattle.mmbi.specs.Interface.{state_of}
use Rattle.ring.specs.Numbers.{filled_of, room_of}
use Rattle.slots.specs.Slots.{first_of, slot_of, lowest_free}
use Rattle.slots.specs.State.{multiple, right_numbers, right_slot, clash, right_state}
use Rattle.slots.specs.Tallies.{sum_of}
use Rattle.slots.specs.Ages.{expired_to}
use Rattle.decision.specs.Rules.{after, on_start, gathered, on_follow, ruled}
use Rattle.decision.specs.Decision.{decided}
use Rattle.receiver.specs.Step.{done, offered_to, step_of}
use Rattle.messages.specs.Run.{run}
use Rattle.rack.specs.declared.answer.Beside.TheVariants.{Source}
use Rattle.rack.specs.Arrivals.{Brought, by_smbus, packet, brings}
use Rattle.rack.specs.Answers.{given, arrived_of}
use Rattle.sender.proofs.Literal.{of_130}
use Rattle.demands.specs.Presenting.{arrival}
use Rattle.demands.proofs.Numbers.{card, empty, Numbers}
use Rattle.demands.proofs.Arrivals.{smbus_found}

-- the good frame's packet, given to the message rules
pub literal_done : (step_of 64 0 card empty literal_packet).said ≡ done 0 1 false
unfolding step_of offered_to expired_to decided ruled on_start on_follow gathered
    after slot_of lowest_free first_of header_of key_of same_key right_state right_slot right_numbers multiple clash
    laid
    sum_of
literal_done = refl

pub literal_brought : brings 64 (by_smbus literal_frame 32) ≡ packet literal_packet (Source 17)
literal_brought = smbus_found 64 literal_frame 32 literal_packet 17 literal_good literal_packet_lem literal_source

pub literal_arrival : (arrival 64 0 card empty (by_smbus literal_frame 32)).told ≡ given (Source 17) (done 0 1 false)
literal_arrival =
    ap (λ (c : Brought). (arrived_of 64 0 card empty c).told) literal_brought ∙ ap (given (Source 17)) literal_done

pub numbers : Numbers
unfolding poly_step eight_steps byte_step pec_from pec_of filled_of room_of state_of run step_of offered_to expired_to
    decided
    ruled on_start on_follow gathered after slot_of lowest_free first_of header_of
    key_of same_key right_state right_slot right_numbers multiple clash laid sum_of
numbers =
    record {
      pec_of_nothing = refl;
      pec_of_01 = refl;
      pec_of_80 = refl;
      pec_of_01_01 = refl;
      good_frame = literal_arrival;
      over_the_end = (refl, refl);
      both_zero = (refl, refl);
      full = (refl, refl);
      answers = refl;
      message = refl;
      cut = of_130;
      transient = refl;
      running = refl;
    }
