-- A graceful reset loses no packet, where each end drains its ring before each step: what was sent is what was got and
-- what the ring still holds, and it holds nothing when the controller reinitializes.
-- Assumes nothing.
use mathlib.Core.Path.{◌≡◌, refl, ap, sym, ◌∙◌}
use mathlib.Core.Bool.{Bool, true, false, not, ◌&&◌, ◌||◌, false≢true}
use mathlib.Core.List.{List, [], ◌∷◌, ◌++◌, append_assoc, append-nil}
use Prim.Native.Nat.{ℕ, ◌+◌, ◌≤◌}
use native.Mathlib.Omega.{arith}
use lib.ListN.{length, replicate, length-replicate}
use Rattle.octets.proofs.Choice.{both, pick_elim, either_way, implies, implied, implied_not, within_holds}
use Rattle.mmbi.specs.declared.interface.Flags.{Flags}
use Rattle.mmbi.specs.Interface.{same_flags, normal_runtime, asked_by_host, asked_by_controller, all_clear, state_of}
use Rattle.mmbi.specs.Interface.{may_read}
use Rattle.mmbi.specs.Interface.{may_write}
use Rattle.mmbi.specs.Pointers.{pointer_right}
use Rattle.mmbi.proofs.PointerNumbers.{pointer_facts}
use Rattle.mmbi.proofs.States.{every_flags, every_flags_lem, same_flags_true}
use Rattle.ring.specs.Numbers.{set_up_right}
use Rattle.ring.specs.Runs.{pointer_after, wrote, Drained, drained}
use Rattle.ring.specs.Writing.{Entered, entered, refused, entered_of, ring_after}
use Rattle.ring.proofs.Draining.{few_held, all_drained, none_drained}
use Rattle.ring.proofs.Held.{Holds, holds_none, holds_written}
use Rattle.ring.proofs.Numbers.{set_up_facts}
use Rattle.ring.proofs.Writings.{good}
use Rattle.handshake.specs.declared.controller.ControllerPhase.TheVariants as controller
use Rattle.handshake.specs.Phases.{controller_is}
use Rattle.handshake.specs.Runs.{Ends, the_host, the_controller, stepped}
use Rattle.handshake.specs.Steps.{host_step, controller_step}
use Rattle.handshake.proofs.Left.{every_ends, every_ends_lem}
use Rattle.demands.specs.Turns.{Queue, empty_at, stored_by, put, drain, renewed, reinitializes, Link, Event, puts}
use Rattle.demands.specs.Turns.{drains_under}
use Rattle.demands.specs.Turns.{asks, turn, host_turn, controller_turn, happened, after_all, start_with, ring_right}
use Rattle.demands.specs.Turns.{AllGot, both_drained}

-- a ring in order: what was sent is what was got and what is held, and nothing is held where nothing may be
record Accounted (most : ℕ) (mayHold : Bool) (q : Queue) : Type 0 where
  held : List (List ℕ)
  holds : Holds most q.configured q.ring q.read q.write held
  all : q.sent ≡ q.got ++ held
  none : mayHold ≡ false → held ≡ []

-- one that holds nothing is in order either way
any_way : (most : ℕ) (mayHold : Bool) (q : Queue) → Accounted most false q → Accounted most mayHold q
any_way most mayHold q k = record { held = k.held; holds = k.holds; all = k.all; none = λ (e : _). k.none refl }

-- and so is one that may hold as much as before
as_before : (most : ℕ) (before now : Bool) (q : Queue) → implies before now ≡ true → Accounted most before q
    → Accounted most now q
as_before most before now q i k =
    record {
      held = k.held;
      holds = k.holds;
      all = k.all;
      none = λ (e : now ≡ false). k.none (implied_not before now i e);
    }

-- and so, to say it of both, is one that holds nothing where nothing may be held
nothing_held : (most : ℕ) (mayHold : Bool) (q : Queue) → mayHold ≡ false → Accounted most mayHold q
    → Accounted most false q
nothing_held most mayHold q n k =
    record { held = k.held; holds = k.holds; all = k.all; none = λ (e : _). k.none n }

-- a packet is stored only where the ring may hold some
module _ (most : ℕ) (mayHold : Bool) (flags : Flags) (p : List ℕ) (q : Queue)
    (writes : implies (may_write (state_of flags)) mayHold ≡ true) (k : Accounted most mayHold q) where
  abbrev answered : Entered → Queue
  answered answer =
      record {
        configured = q.configured;
        ring = ring_after answer q.ring q.write p;
        read = q.read;
        write = pointer_after answer q.write;
        sent = q.sent ++ stored_by answer p;
        got = q.got;
      }

  put_answered : (answer : Entered)
      → entered_of most (length q.ring) q.configured (may_write (state_of flags)) q.read q.write (length p)
      ≡ answer
      → Accounted most mayHold (answered answer)
  put_answered (entered next) e =
      let g = good most (length q.ring) q.configured (may_write (state_of flags)) q.read q.write (length p)
      next e in
      let sized = within_holds 5 (4 + most) (length p) g.least g.largest in
      let on = holds_written most q.configured q.ring q.read q.write k.held p k.holds sized
      g.room in
      record {
        held = k.held ++ (p ∷ []);
        holds = rw g.after on;
        all = ap (λ (s : List (List ℕ)). s ++ (p ∷ [])) k.all ∙ append_assoc q.got k.held (p ∷ []);
        none = λ (n : mayHold ≡ false). absurd (false≢true (sym n ∙ implied _ mayHold writes g.runs));
      }
  put_answered (refused number) e =
      record { held = k.held; holds = k.holds; all = append-nil q.sent ∙ k.all; none = k.none }

  put_accounted : Accounted most mayHold (put most flags p q)
  unfolding put wrote
  put_accounted =
      put_answered
      (entered_of most (length q.ring) q.configured (may_write (state_of flags)) q.read q.write (length p))
      refl

-- a ring that may be read, or that holds nothing, holds nothing once it is drained
module _ (most : ℕ) (mayHold : Bool) (out : List ℕ) (flags : Flags) (q : Queue) (room : 4 + most ≤ length out)
    (k : Accounted most mayHold q) where
  abbrev with_drained : Drained → Queue
  with_drained d =
      record {
        configured = q.configured;
        ring = q.ring;
        read = d.read;
        write = q.write;
        sent = q.sent;
        got = q.got ++ d.packets;
      }

  abbrev all_of_it : Drained
  all_of_it = drained most q.configured q.ring out flags q.write q.configured q.read

  drain_read : may_read (state_of flags) ≡ true → drain most out flags q
      ≡ with_drained (record { packets = k.held; read = q.write })
  unfolding drain
  drain_read may =
      ap with_drained
      (all_drained most q.configured q.ring out flags q.write room may q.configured q.read k.held
      (few_held most q.configured q.ring q.read q.write k.held k.holds) k.holds)

  drain_shut : may_read (state_of flags) ≡ false → drain most out flags q
      ≡ with_drained (record { packets = []; read = q.read })
  unfolding drain
  drain_shut shut =
      ap with_drained
      (none_drained most q.configured q.ring out flags q.write room shut q.configured q.read k.held
      k.holds)

  drain_empties : implies mayHold (may_read (state_of flags)) ≡ true → Accounted most false (drain most out flags q)
  drain_empties i =
      either_way (may_read (state_of flags))
      (λ (may : _).
      rw (drain_read may)
      record {
        held = [];
        holds = holds_none most q.configured q.ring q.write k.holds.set_up k.holds.to;
        all = k.all ∙ sym (append-nil (q.got ++ k.held));
        none = λ (e : _). refl;
      })
      (λ (shut : _).
      rw (drain_shut shut)
      record {
        held = k.held;
        holds = k.holds;
        all = k.all ∙ ap (λ (s : List (List ℕ)). s ++ k.held) (sym (append-nil q.got));
        none = λ (e : _). k.none (implied_not mayHold (may_read (state_of flags)) i shut);
      })

  -- all that was sent is got by a drain where the ring may be read
  drain_gets : may_read (state_of flags) ≡ true → (drain most out flags q).got ≡ q.sent
  drain_gets may = ap (λ (d : Queue). d.got) (drain_read may) ∙ sym k.all

-- a ring that holds nothing loses nothing when it is renewed
renewed_accounted : (most : ℕ) (q : Queue) → Accounted most false q → Accounted most false (renewed q)
renewed_accounted most q k =
    let set_up = k.holds.set_up in
    let low = set_up.size.low in
    record {
      held = [];
      holds =
          holds_none most q.configured (replicate q.configured 0) 0
          (record {
            low = set_up.low;
            high = set_up.high;
            size = set_up.size;
            same = sym (length-replicate {A = ℕ} q.configured 0);
          })
          (record { fours = refl; below = omega arith });
      all = k.all ∙ ap (λ (s : List (List ℕ)). q.got ++ s) (k.none refl);
      none = λ (e : _). refl;
    }

-- in which flag states a ring may hold packets: until the end that reads it has made its ask or its acknowledgement
abbrev h2b_holds : Flags → Bool
h2b_holds f = same_flags f normal_runtime || same_flags f asked_by_host

abbrev b2h_holds : Flags → Bool
b2h_holds f = same_flags f normal_runtime || same_flags f asked_by_controller

-- by a test of every flag state: a ring is written only where it may hold packets, and the host's may not once H_RST is
-- set
abbrev flags_test : Flags → Bool
flags_test f =
    implies (may_write (state_of f)) (h2b_holds f)
    && (implies (may_write (state_of f)) (b2h_holds f)
    && implies (b2h_holds f) (not f.host_reset))

flags_tested : every_flags flags_test ≡ true
unfolding state_of
flags_tested = refl

record OfFlags (f : Flags) : Type 0 where
  h2b_written : implies (may_write (state_of f)) (h2b_holds f) ≡ true
  b2h_written : implies (may_write (state_of f)) (b2h_holds f) ≡ true
  b2h_before : implies (b2h_holds f) (not f.host_reset) ≡ true

of_flags : (f : Flags) → OfFlags f
of_flags f =
    let first = both (implies (may_write (state_of f)) (h2b_holds f)) _ (every_flags_lem flags_test flags_tested f) in
    let last = both (implies (may_write (state_of f)) (b2h_holds f)) _ first.1 in
    record { h2b_written = first.0; b2h_written = last.0; b2h_before = last.1 }

-- by a test of every state: where a ring may hold packets, its reader can drain it, and the other end's step leaves it
-- as full as it may be
abbrev ends_test : Ends → Bool
ends_test e =
    implies (h2b_holds e.flags) (may_read (state_of (drains_under e)))
    && (implies (b2h_holds e.flags) (may_read (state_of (drains_under e)))
    && (implies (h2b_holds e.flags) (h2b_holds (stepped the_host e).flags)
    && implies (b2h_holds e.flags) (b2h_holds (stepped the_controller e).flags)))

ends_tested : every_ends ends_test ≡ true
unfolding state_of host_step controller_step
ends_tested = refl

record OfEnds (e : Ends) : Type 0 where
  h2b_read : implies (h2b_holds e.flags) (may_read (state_of (drains_under e))) ≡ true
  b2h_read : implies (b2h_holds e.flags) (may_read (state_of (drains_under e))) ≡ true
  host_leaves_lem : implies (h2b_holds e.flags) (h2b_holds (stepped the_host e).flags) ≡ true
  controller_leaves_lem : implies (b2h_holds e.flags) (b2h_holds (stepped the_controller e).flags) ≡ true

of_ends : (e : Ends) → OfEnds e
of_ends e =
    let first = both (implies (h2b_holds e.flags) (may_read (state_of (drains_under e)))) _
    (every_ends_lem ends_test ends_tested e) in
    let second = both (implies (b2h_holds e.flags) (may_read (state_of (drains_under e)))) _ first.1 in
    let last = both (implies (h2b_holds e.flags) (h2b_holds (stepped the_host e).flags)) _ second.1 in
    record { h2b_read = first.0; b2h_read = second.0; host_leaves_lem = last.0; controller_leaves_lem = last.1 }

-- nothing may be held where the controller reinitializes
none_at_zeros : (e : Ends) → reinitializes e ≡ true → (h2b_holds e.flags ≡ false) × (b2h_holds e.flags ≡ false)
none_at_zeros e r =
    let zeros = same_flags_true e.flags all_clear
    (both (controller_is e.controller controller.Initializing) (same_flags e.flags all_clear) r).1 in
    (ap h2b_holds zeros, ap b2h_holds zeros)

-- both rings are in order, whatever happens
record Sound (most : ℕ) (l : Link) : Type 0 where
  h2b : Accounted most (h2b_holds l.ends.flags) l.h2b
  b2h : Accounted most (b2h_holds l.ends.flags) l.b2h

module _ (most : ℕ) (out : List ℕ) (room : 4 + most ≤ length out) where
  host_turn_lem : (l : Link) → Sound most l → Sound most (host_turn most out l)
  host_turn_lem l s =
      let f = l.ends.flags in
      let of = of_ends l.ends in
      let q = drain most out (drains_under l.ends) l.b2h in
      let read : Accounted most false q =
      drain_empties most (b2h_holds f) out (drains_under l.ends) l.b2h room s.b2h of.b2h_read in
      let left : f.host_reset ≡ true → Accounted most false l.b2h = λ (set : f.host_reset ≡ true).
      nothing_held most (b2h_holds f) l.b2h
      (implied_not (b2h_holds f) (not f.host_reset) (of_flags f).b2h_before (ap not set)) s.b2h in
      record {
        h2b = as_before most (h2b_holds f) _ l.h2b of.host_leaves_lem s.h2b;
        b2h =
            any_way most _ _
            (pick_elim (Accounted most false) f.host_reset l.b2h q left (λ (e : _). read));
      }

  controller_turn_lem : (l : Link) → Sound most l → Sound most (controller_turn most out l)
  controller_turn_lem l s =
      let f = l.ends.flags in
      let of = of_ends l.ends in
      let q = drain most out (drains_under l.ends) l.h2b in
      let now = (stepped the_controller l.ends).flags in
      let read : Accounted most false q =
      drain_empties most (h2b_holds f) out (drains_under l.ends) l.h2b room s.h2b of.h2b_read in
      let gone : reinitializes l.ends ≡ true → Accounted most false l.b2h =
      λ (r : reinitializes l.ends ≡ true).
      nothing_held most (b2h_holds f) l.b2h (none_at_zeros l.ends r).1 s.b2h in
      record {
        h2b =
            pick_elim (Accounted most (h2b_holds now)) (reinitializes l.ends) (renewed q) q
            (λ (r : _). any_way most _ _ (renewed_accounted most q read)) (λ (r : _). any_way most _ _ read);
        b2h =
            pick_elim (Accounted most (b2h_holds now)) (reinitializes l.ends) (renewed l.b2h) l.b2h
            (λ (r : _). any_way most _ _ (renewed_accounted most l.b2h (gone r)))
            (λ (r : _). as_before most (b2h_holds f) _ l.b2h of.controller_leaves_lem s.b2h);
      }

  happened_sound : (event : Event) (l : Link) → Sound most l → Sound most (happened most out event l)
  happened_sound (puts the_host p) l s =
      let f = l.ends.flags in
      record { h2b = put_accounted most (h2b_holds f) f p l.h2b (of_flags f).h2b_written s.h2b; b2h = s.b2h }
  happened_sound (puts the_controller p) l s =
      let f = l.ends.flags in
      record { h2b = s.h2b; b2h = put_accounted most (b2h_holds f) f p l.b2h (of_flags f).b2h_written s.b2h }
  happened_sound (asks the_host) l s = record { h2b = s.h2b; b2h = s.b2h }
  happened_sound (asks the_controller) l s = record { h2b = s.h2b; b2h = s.b2h }
  happened_sound (turn the_host) l s = host_turn_lem l s
  happened_sound (turn the_controller) l s = controller_turn_lem l s

  all_sound : (events : List Event) (l : Link) → Sound most l → Sound most (after_all most out events l)
  unfolding after_all
  all_sound [] l s = s
  all_sound (event ∷ events) l s = all_sound events (happened most out event l) (happened_sound event l s)

-- an empty ring is in order
empty_accounted : (most : ℕ) (ring : List ℕ) (pointer : ℕ) → ring_right most ring pointer ≡ true
    → Accounted most false (empty_at ring pointer)
empty_accounted most ring pointer right =
    let of = both (set_up_right most (length ring) (length ring)) (pointer_right (length ring) pointer) right in
    record {
      held = [];
      holds =
          holds_none most (length ring) ring pointer (set_up_facts most (length ring) (length ring) of.0)
          (pointer_facts (length ring) pointer of.1);
      all = refl;
      none = λ (e : _). refl;
    }

all_got : (most : ℕ) (mayHold : Bool) (q : Queue) → mayHold ≡ false → Accounted most mayHold q → q.got ≡ q.sent
all_got most mayHold q n k =
    sym (k.all ∙ ap (λ (s : List (List ℕ)). q.got ++ s) (k.none n) ∙ append-nil q.got)

module _ (most : ℕ) (out h2b : List ℕ) (h2bAt : ℕ) (b2h : List ℕ) (b2hAt : ℕ) (room : 4 + most ≤ length out)
    (h2bRight : ring_right most h2b h2bAt ≡ true) (b2hRight : ring_right most b2h b2hAt ≡ true)
    (events : List Event) where
  abbrev now : Link
  now = after_all most out events (start_with h2b h2bAt b2h b2hAt)

  sound_now : Sound most now
  sound_now =
      all_sound most out room events (start_with h2b h2bAt b2h b2hAt)
      (record {
        h2b = any_way most _ _ (empty_accounted most h2b h2bAt h2bRight);
        b2h = any_way most _ _ (empty_accounted most b2h b2hAt b2hRight);
      })

  -- when the controller reinitializes, every packet that was sent has been got
  pub nothing_lost : reinitializes now.ends ≡ true → AllGot now
  nothing_lost r =
      let none = none_at_zeros now.ends r in
      record {
        h2b = all_got most _ now.h2b none.0 sound_now.h2b;
        b2h = all_got most _ now.b2h none.1 sound_now.b2h;
      }

  -- and where a ring may be read, one more drain gets all that was sent until then
  pub all_can_be_got : may_read (state_of now.ends.flags) ≡ true → AllGot (both_drained most out now)
  unfolding drain
  all_can_be_got may =
      let f = now.ends.flags in
      record {
        h2b = drain_gets most (h2b_holds f) out f now.h2b room sound_now.h2b may;
        b2h = drain_gets most (b2h_holds f) out f now.b2h room sound_now.b2h may;
      }
