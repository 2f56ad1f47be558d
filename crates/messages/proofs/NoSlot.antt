-- A packet of a key that no slot has once old slots are freed: a start is not "again" and takes the lowest free slot,
-- any other packet gets 19.
-- Assumes nothing.
use mathlib.Core.Path.{◌≡◌, ap, sym, ◌∙◌}
use mathlib.Core.Bool.{true, false, true≢false}
use mathlib.Core.List.{List, ◌++◌}
use mathlib.Core.Logic.{by_cases}
use Prim.Native.Nat.{ℕ, ◌≤◌, ◌<◌}
use native.Mathlib.Decide.{dec_lt}
use native.Mathlib.Omega.{arith}
use borrow.Author.Tests.{le-ltb}
use lib.Dec.{ltb}
use lib.ListN.{length}
use Rattle.octets.specs.Checks.{Hold}
use Rattle.mctp.specs.Packet.{body_of, start_of, end_of}
use Rattle.mctp.specs.Key.{key_of, header_of}
use Rattle.slots.specs.declared.state.SlotState.{SlotState}
use Rattle.slots.specs.declared.state.Receiver.{Receiver}
use Rattle.slots.specs.Slots.{slot_at, has_key, slot_of, lowest_free}
use Rattle.slots.specs.State.{right_state}
use Rattle.slots.specs.Ages.{expired}
use Rattle.slots.proofs.Slots.{slot_past}
use Rattle.slots.proofs.States.{right_of}
use Rattle.slots.proofs.Ages.{expired_right}
use Rattle.slots.proofs.Found.{slot_of_has}
use Rattle.decision.specs.Checks.{packet_order, source_order}
use Rattle.decision.specs.Rules.{Decision, refuse, follow, on_follow}
use Rattle.decision.specs.Decision.{decided}
use Rattle.decision.proofs.Ruled.{ruled_follow}
use Rattle.receiver.specs.Step.{refused, held, done, Left, carried_out, after_offer, offered_to, step_of}
use Rattle.receiver.proofs.Laws.{step_is_offered}
use Rattle.messages.specs.Message.{Starts, slot_for}
use Rattle.messages.proofs.Gathering.{decided_rules, checked_then, start_held, start_done}

module _ (most time : ℕ) (r : Receiver) (m p : List ℕ) (right : right_state most r ≡ true) (size : length m ≡ 4096)
    (none : (j : ℕ) → j < 4 → has_key (key_of p) (slot_at (expired time r).slots j) ≡ false) where
  -- its slot is past the last
  past : 4 ≤ slot_of (expired time r).slots (key_of p)
  past =
      let own = slot_of (expired time r).slots (key_of p) in
      by_cases (dec_lt own 4)
      (λ (h : own < 4). absurd (true≢false (sym (slot_of_has (expired time r).slots (key_of p) h) ∙ none own h)))
      (λ (h : own < 4 → ⊥). omega arith)

  not_there : ltb (slot_of (expired time r).slots (key_of p)) 4 ≡ false
  not_there = le-ltb _ 4 past

  the_lowest : slot_for (expired time r).slots (key_of p) ≡ lowest_free (expired time r).slots 0 4
  unfolding slot_for
  the_lowest = rw not_there

  -- a start, which may be the end too
  module _ (starts : Starts most r.setup p) (room : lowest_free (expired time r).slots 0 4 < 4) where
    pub begins_there : end_of p ≡ false
        → (step_of most time r m p).said ≡ held (lowest_free (expired time r).slots 0 4) (length (body_of p)) false
    begins_there e =
        ap (λ (l : Left). l.said) (start_held most time r m p right size starts (omega (arith, the_lowest)) e)
        ∙ (λ j. held (the_lowest j) (length (body_of p)) (not_there j))

    pub done_there : end_of p ≡ true
        → (step_of most time r m p).said ≡ done (lowest_free (expired time r).slots 0 4) (length (body_of p)) false
    done_there e =
        ap (λ (l : Left). l.said) (start_done most time r m p right size starts (omega (arith, the_lowest)) e)
        ∙ (λ j. done (the_lowest j) (length (body_of p)) (not_there j))

  -- any other packet
  pub no_start : Hold (packet_order most r.setup p ++ source_order p) → start_of p ≡ false
      → (step_of most time r m p).said ≡ refused 19
  unfolding offered_to on_follow header_of
  no_start checked e =
      let clear = expired time r in
      let right_then = expired_right time r most right in
      let free = slot_past clear.slots (slot_of clear.slots (key_of p))
      (omega (arith, past, (right_of most clear right_then).four)) in
      let decision : decided most clear (length m) p ≡ refuse 19 =
      decided_rules most clear (length m) p right_then size (checked_then most time r p checked)
      ∙ ruled_follow clear.slots (header_of p) (length (body_of p)) e
      ∙ ap (λ (s : SlotState). follow (slot_of clear.slots (key_of p)) s (header_of p) (length (body_of p))) free in
      ap (λ (l : Left). l.said) (step_is_offered most time r m p right size)
      ∙ ap (λ (d : Decision). (carried_out time (after_offer clear d) m p d).said) decision
