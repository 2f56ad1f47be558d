-- Both ends at work on an interface with its two rings: packets written, resets asked for, and turns, in which an end
-- drains the ring that it reads and makes its step of the reset handshake at one go (document 02, #104 and #105).
-- Assumes nothing.
use Rattle.std.specs.Prelude.{◌≡◌, Bool, ◌&&◌, List, [], ◌∷◌, ◌++◌, ℕ, length, replicate}
use Rattle.octets.specs.Choice.{pick}
use Rattle.mmbi.specs.declared.interface.Flags.{Flags}
use Rattle.mmbi.specs.Interface.{same_flags, all_clear, state_of, may_write}
use Rattle.mmbi.specs.Pointers.{pointer_right}
use Rattle.ring.specs.Numbers.{set_up_right}
use Rattle.ring.specs.Runs.{wrote, drained}
use Rattle.ring.specs.Writing.{Entered, entered, refused, entered_of}
use Rattle.handshake.specs.declared.controller.ControllerPhase.TheVariants as controller
use Rattle.handshake.specs.Phases.{controller_is}
use Rattle.handshake.specs.Runs.{Ends, End, the_host, the_controller, stepped, asked, running}

-- one ring: its length, bytes and pointers, every packet that was stored in it, and every packet that was read out of
-- it
pub record Queue : Type 0 where
  pub configured : ℕ
  pub ring : List ℕ
  pub read : ℕ
  pub write : ℕ
  pub sent : List (List ℕ)
  pub got : List (List ℕ)

-- an empty ring, its pointers anywhere
abbrev pub empty_at : List ℕ → ℕ → Queue
empty_at ring pointer =
    record { configured = length ring; ring = ring; read = pointer; write = pointer; sent = []; got = [] }

-- a packet counts as sent where `ring::write` stored it
abbrev pub stored_by : Entered → List ℕ → List (List ℕ)
stored_by (entered next) p = p ∷ []
stored_by (refused number) p = []

-- one packet offered to `ring::write` under these flags
unfoldable pub put : (most : ℕ) → Flags → List ℕ → Queue → Queue
put most flags p q =
    let kept = wrote most q.configured flags q.read (record { ring = q.ring; write = q.write }) p in
    let answer =
    entered_of most (length q.ring) q.configured (may_write (state_of flags)) q.read q.write (length p) in
    record {
      configured = q.configured;
      ring = kept.ring;
      read = q.read;
      write = kept.write;
      sent = q.sent ++ stored_by answer p;
      got = q.got;
    }

-- read by `ring::read` under these flags until it gives nothing more; a ring holds fewer packets than it has bytes
unfoldable pub drain : (most : ℕ) (out : List ℕ) → Flags → Queue → Queue
drain most out flags q =
    let all = drained most q.configured q.ring out flags q.write q.configured q.read in
    record {
      configured = q.configured;
      ring = q.ring;
      read = all.read;
      write = q.write;
      sent = q.sent;
      got = q.got ++ all.packets;
    }

-- 8.1.2.2: "6) The (B)MC reinitializes all the data structures.": what was in a ring is gone
abbrev pub renewed : Queue → Queue
renewed q =
    record {
      configured = q.configured;
      ring = replicate q.configured 0;
      read = 0;
      write = 0;
      sent = q.sent;
      got = q.got;
    }

-- it does so in phase initializing, at 0000, before it sets B_UP
abbrev pub reinitializes : Ends → Bool
reinitializes e = controller_is e.controller controller.Initializing && same_flags e.flags all_clear

-- flags and phases, the ring from the host to the controller, and the ring from the controller to the host
pub record Link : Type 0 where
  pub ends : Ends
  pub h2b : Queue
  pub b2h : Queue

-- an end looks at the flags once: it drains under those that it saw before its step
abbrev pub drains_under : Ends → Flags
drains_under e = e.flags

-- "an end drains its ring before each step of the handshake, the host not after it has set H_RST"
abbrev pub host_turn : (most : ℕ) (out : List ℕ) → Link → Link
host_turn most out l =
    record {
      ends = stepped the_host l.ends;
      h2b = l.h2b;
      b2h = pick l.ends.flags.host_reset l.b2h (drain most out (drains_under l.ends) l.b2h);
    }

abbrev pub controller_turn : (most : ℕ) (out : List ℕ) → Link → Link
controller_turn most out l =
    let h2b = drain most out (drains_under l.ends) l.h2b in
    record {
      ends = stepped the_controller l.ends;
      h2b = pick (reinitializes l.ends) (renewed h2b) h2b;
      b2h = pick (reinitializes l.ends) (renewed l.b2h) l.b2h;
    }

-- all that may happen, in any order and any number: an end offers a packet to the ring that it writes, asks for a
-- reset, or has its turn
pub data Event : Type 0 where
  puts : End → List ℕ → Event
  asks : End → Event
  turn : End → Event

abbrev pub happened : (most : ℕ) (out : List ℕ) → Event → Link → Link
happened most out (puts the_host p) l =
    record { ends = l.ends; h2b = put most l.ends.flags p l.h2b; b2h = l.b2h }
happened most out (puts the_controller p) l =
    record { ends = l.ends; h2b = l.h2b; b2h = put most l.ends.flags p l.b2h }
happened most out (asks end) l = record { ends = asked end l.ends; h2b = l.h2b; b2h = l.b2h }
happened most out (turn the_host) l = host_turn most out l
happened most out (turn the_controller) l = controller_turn most out l

unfoldable pub after_all : (most : ℕ) (out : List ℕ) → List Event → Link → Link
after_all most out [] l = l
after_all most out (event ∷ events) l = after_all most out events (happened most out event l)

-- normal runtime, both rings empty
abbrev pub start_with : (h2b : List ℕ) (h2bAt : ℕ) (b2h : List ℕ) (b2hAt : ℕ) → Link
start_with h2b h2bAt b2h b2hAt = record { ends = running; h2b = empty_at h2b h2bAt; b2h = empty_at b2h b2hAt }

-- a ring that the ring calls take, and a pointer into it
abbrev pub ring_right : (most : ℕ) (ring : List ℕ) (pointer : ℕ) → Bool
ring_right most ring pointer = set_up_right most (length ring) (length ring) && pointer_right (length ring) pointer

-- every packet that was stored in a ring has been read out of it, in the same order
pub record AllGot (l : Link) : Type 0 where
  pub h2b : l.h2b.got ≡ l.h2b.sent
  pub b2h : l.b2h.got ≡ l.b2h.sent

-- both rings drained as they stand
abbrev pub both_drained : (most : ℕ) (out : List ℕ) → Link → Link
both_drained most out l =
    record {
      ends = l.ends;
      h2b = drain most out l.ends.flags l.h2b;
      b2h = drain most out l.ends.flags l.b2h;
    }
