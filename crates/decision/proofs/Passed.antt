-- 1 and 2, and what stands behind them: old slots are freed, and the packet is decided on.
-- Assumes nothing.
use mathlib.Core.Path.{◌≡◌, refl, ap, ◌∙◌}
use mathlib.Core.Bool.{Bool, true, false, ◌&&◌, true≢false}
use mathlib.Core.List.{List, ◌++◌}
use Prim.Native.Nat.{ℕ, ◌+◌, ◌≤◌}
use native.Mathlib.Omega.{arith}
use lib.Dec.{eqb, ltb, lit≤}
use lib.ListN.{length}
use Rattle.octets.specs.Choice.{pick}
use Rattle.std.proofs.Common.{Ok}
use Rattle.octets.specs.Checks.{Check, first_failing}
use Rattle.octets.proofs.Choice.{pick_elim, within_bounds}
use Rattle.octets.proofs.Checks.{Hold, apart, all_hold, every_answer}
use Rattle.mctp.specs.declared.packet.Key.{Key}
use Rattle.mctp.specs.declared.packet.Header.{Header}
use Rattle.mctp.specs.Packet.{body_of}
use Rattle.mctp.specs.Key.{header_of}
use Rattle.slots.specs.declared.state.Setup.{Setup}
use Rattle.slots.specs.declared.state.Slot.{Slot}
use Rattle.slots.specs.declared.state.SlotState.{SlotState}
use Rattle.slots.specs.declared.state.SlotState.TheVariants.{Free, Gathering}
use Rattle.slots.specs.declared.state.Receiver.{Receiver}
use Rattle.slots.specs.Slots.{slot_at, slot_of, lowest_free}
use Rattle.slots.specs.State.{right_state}
use Rattle.slots.specs.Ages.{expired}
use Rattle.slots.proofs.Ages.{expired_right}
use Rattle.decision.specs.Checks.{setup_order, packet_order, source_order}
use Rattle.decision.specs.Rules.{Decision, refuse, release, put, after, on_start, gather_order, gathered}
use Rattle.decision.specs.Rules.{follow, on_follow, ruled}
use Rattle.decision.specs.Decision.{OutcomeOf, aged_of, decided}

-- a decision that no check makes
abbrev pub none : Decision
none = put 0 0 false Free

abbrev pub is_put : Decision → Bool
is_put (refuse n) = false
is_put (release slot n) = false
is_put (put slot at again then) = true

-- a good outcome says that every test held
good_holds : (order : List (Check Decision)) → apart is_put order ≡ true → OutcomeOf order (Ok tt) → Hold order
good_holds order away good = all_hold is_put order none away (ap is_put (good none))

-- so behind the packet's own checks its size is known, and behind 1 and 2 the state is right and the memory whole
pub packet_sized : (most : ℕ) (s : Setup) (p : List ℕ)
    → OutcomeOf (packet_order most s p ++ source_order p) (Ok tt) → most ≤ 246
    → (5 ≤ length p) × (length p ≤ 250)
packet_sized most s p good h =
    let held = good_holds (packet_order most s p ++ source_order p) refl good in
    omega (arith, within_bounds 5 (4 + most) (length p) held.0)

pub setup_passed : (most : ℕ) (r : Receiver) (size : ℕ) → OutcomeOf (setup_order most r size) (Ok tt)
    → (right_state most r ≡ true) × (eqb size 4096 ≡ true)
setup_passed most r size good =
    let held = good_holds (setup_order most r size) refl good in
    (held.0, held.1.0)

-- two checks that refuse with one number, whatever comes behind them: one of them fails
one_fails : (a b : Bool) (n : ℕ) → ((d : Decision) → pick a (pick b d (refuse 2)) (refuse 1) ≡ refuse n)
    → (a && b) ≡ false
one_fails true true n all = let e = all none in cc
one_fails true false n all = refl
one_fails false b n all = refl

-- What holds in these four cases holds of the decision on any packet that passes 1 and 2 (`every_passed`, below): it is
-- refused with another number, a slot is released, a start is put, or a body is put behind what its key's slot holds.
pub record Past (slots : List Slot) (h : Header) (n : ℕ) (P : Decision → Type 0) : Type 0 where
  pub refuses : (number : ℕ) → 3 ≤ number → P (refuse number)
  pub releases : (i number : ℕ) → 20 ≤ number → P (release i number)
  pub starts : h.start ≡ true → (i : ℕ) (again : Bool) → P (put i 0 again (after h n n))
  pub follows : (i q u held : ℕ) (k : Key) → slot_at slots (slot_of slots h.key) ≡ Gathering k q u held
      → P (put i held false (after h u (held + n)))

by_rules : (slots : List Slot) (h : Header) (n : ℕ) (P : Decision → Type 0) → Past slots h n P → P (ruled slots h n)
unfolding ruled on_start on_follow gathered
by_rules slots h n P past =
    pick_elim P h.start _ _
    (λ e. pick_elim P (ltb own 4) _ _ (λ f. past.starts e _ _)
    (λ f. pick_elim P (ltb (lowest_free slots 0 4) 4) _ _ (λ g. past.starts e _ _) (λ g. past.refuses 18 (lit≤ tt))))
    (λ e. by_state (slot_at slots own) refl)
  where
    own : ℕ
    own = slot_of slots h.key

    by_state : (s : SlotState) → slot_at slots own ≡ s → P (follow own s h n)
    by_state Free is = past.refuses 19 (lit≤ tt)
    by_state (Gathering k q u held) is =
        every_answer P (gather_order own q u held h n) _
        (past.releases own 20 (lit≤ tt), (past.releases own 21 (lit≤ tt), (past.releases own 22 (lit≤ tt), tt)))
        (λ x. past.follows own q u held k is)

module _ (most time : ℕ) (r : Receiver) (size : ℕ) (p : List ℕ) where
  -- refused with 1 or 2: no slot is freed
  pub aged_refused : (n : ℕ) → ((d : Decision) → first_failing (setup_order most r size) d ≡ refuse n)
      → (aged_of most time r size ≡ r) × (decided most (aged_of most time r size) size p ≡ refuse n)
  unfolding decided
  aged_refused n all =
      let same = ap (λ (b : Bool). pick b (expired time r) r) (one_fails (right_state most r) (eqb size 4096) n all) in
      (same, ap (λ (q : Receiver). decided most q size p) same ∙ all _)

  module _ (right : right_state most r ≡ true) (sized : eqb size 4096 ≡ true) where
    -- let through: every old slot is,
    pub aged_expired : aged_of most time r size ≡ expired time r
    aged_expired = rw (right, sized)

    -- and then come the packet's own checks and the rules
    pub aged_decided : decided most (aged_of most time r size) size p
        ≡ first_failing (packet_order most (expired time r).setup p ++ source_order p)
        (ruled (expired time r).slots (header_of p) (length (body_of p)))
    unfolding decided
    aged_decided =
        ap (λ (q : Receiver). decided most q size p) aged_expired
        ∙ rw (expired_right time r most right, sized)

    -- so what holds in these cases holds of it
    pub every_passed : (P : Decision → Type 0)
        → Past (expired time r).slots (header_of p) (length (body_of p)) P
        → P (decided most (aged_of most time r size) size p)
    every_passed P past =
        let refuses = past.refuses in
        rw aged_decided
        (every_answer P (packet_order most (expired time r).setup p ++ source_order p) _
        (refuses 3 (lit≤ tt), (refuses 15 (lit≤ tt), (refuses 16 (lit≤ tt), (refuses 17 (lit≤ tt), tt))))
        (λ h. by_rules (expired time r).slots (header_of p) (length (body_of p)) P past))

  -- where 1 or 2 refuses, it is 1 or 2
  pub not_passed : (right_state most r && eqb size 4096) ≡ false → (P : Decision → Type 0) → P (refuse 1) → P (refuse 2)
      → P (decided most (aged_of most time r size) size p)
  unfolding decided
  not_passed e P one two =
      let same = ap (λ (b : Bool). pick b (expired time r) r) e in
      rw same (by_test (right_state most r) (eqb size 4096) e _)
    where
      by_test : (a b : Bool) → (a && b) ≡ false → (d : Decision) → P (pick a (pick b d (refuse 2)) (refuse 1))
      by_test true true f d = absurd (true≢false f)
      by_test true false f d = two
      by_test false b f d = one
