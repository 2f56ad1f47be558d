-- First in, first out: any list of packets that fits, written one after the other, is read back in order, and so are
-- those that stand in a ring already, in whichever states a ring may be read.
-- Assumes nothing.
use mathlib.Core.Path.{◌≡◌, refl, ap, sym, subst, ◌∙◌}
use mathlib.Core.Bool.{true, false, not}
use mathlib.Core.List.{List, [], ◌∷◌, ◌++◌, append_assoc, append-nil}
use Prim.Native.Nat.{ℕ, ◌+◌, ◌≤◌}
use native.Mathlib.Omega.{arith}
use borrow.Author.Tests.{le-leb, eq-eqb}
use lib.ListN.{length, take, drop}
use lib.Seq.{take_at, take-length}
use Rattle.octets.specs.Bytes.{fronted}
use Rattle.octets.proofs.Choice.{both, within_bounds}
use Rattle.mctp.specs.Packet.{size_right}
use Rattle.mmbi.specs.declared.interface.Flags.{Flags}
use Rattle.mmbi.specs.Interface.{normal_runtime, state_of, may_read, may_write}
use Rattle.mmbi.specs.Pointers.{pointer_right}
use Rattle.mmbi.proofs.PointerNumbers.{pointer_facts}
use Rattle.ring.specs.Numbers.{set_up_right, pointers_right, filled_of, room_of, next_of}
use Rattle.ring.specs.Layout.{whole_for, ring_bytes}
use Rattle.ring.specs.Reading as reading
use Rattle.ring.specs.Runs.{all_sized, space_for, all_bytes, Kept, pointer_after, wrote, write_all, queued}
use Rattle.ring.specs.Runs.{all_readable, and_then, read_all}
use Rattle.ring.specs.Round.{round_from, stored}
use Rattle.ring.specs.Writing as writing
use Rattle.ring.proofs.Held.{Holds, holds_none, none_held, holds_written, holds_taken}
use Rattle.ring.proofs.Numbers.{set_up_facts, set_up_holds, pointers_facts, pointers_holds}
use Rattle.ring.proofs.Numbers.{filled_room, filled_written}
use Rattle.ring.proofs.Readings as readings
use Rattle.ring.proofs.RoundTrip.{read_first, room_none}
use Rattle.ring.proofs.Writings as writings

-- packets written in a state that lets a ring be written
module _ (most configured : ℕ) (flags : Flags) (may : may_write (state_of flags) ≡ true) (read : ℕ) where
  -- a packet that fits is stored, and the write pointer moves on
  wrote_one : (kept : Kept) (held : List (List ℕ)) (p : List ℕ)
      → Holds most configured kept.ring read kept.write held
      → size_right most (length p) ≡ true → whole_for (length p) ≤ room_of configured read kept.write
      → wrote most configured flags read kept p
      ≡ record {
        ring = stored kept.ring kept.write (ring_bytes p);
        write = next_of configured kept.write (whole_for (length p));
      }
  unfolding wrote
  wrote_one kept held p h sized room =
      let b = within_bounds 5 (4 + most) (length p) sized in
      let next = next_of configured kept.write (whole_for (length p)) in
      let e = writings.good_entered most (length kept.ring) configured (may_write (state_of flags)) read kept.write
      (length p) next
      (record {
        set_up = h.set_up;
        least = b.0;
        largest = b.1;
        runs = may;
        from = h.from;
        to = h.to;
        room = room;
        after = refl;
      }) in
      λ i. record {
        ring = writing.ring_after (e i) kept.ring kept.write p;
        write = pointer_after (e i) kept.write;
      }

  -- packets that fit are held behind those that were
  pub all_written : (kept : Kept) (held packets : List (List ℕ))
      → Holds most configured kept.ring read kept.write held
      → all_sized most packets ≡ true → space_for packets ≤ room_of configured read kept.write
      → Holds most configured (write_all most configured flags read kept packets).ring read
      (write_all most configured flags read kept packets).write (held ++ packets)
  unfolding write_all all_sized space_for
  all_written kept held [] h sized room = rw (append-nil held) h
  all_written kept held (p ∷ packets) h sized room =
      let s = both (size_right most (length p)) (all_sized most packets) sized in
      let n = whole_for (length p) in
      let fits : n ≤ room_of configured read kept.write = omega arith in
      let one = wrote_one kept held p h s.0 fits in
      let after : Kept = record {
        ring = stored kept.ring kept.write (ring_bytes p);
        write = next_of configured kept.write n;
      } in
      let now = holds_written most configured kept.ring read kept.write held p h s.0 fits in
      let before = filled_room configured read kept.write h.set_up.size h.from h.to in
      let more = filled_written configured read kept.write n h.from.below h.to.below (omega arith) in
      let then = filled_room configured read after.write h.set_up.size h.from now.to in
      let rest = all_written after (held ++ (p ∷ [])) packets now s.1 (omega arith) in
      subst
      (λ (k : Kept). Holds most configured (write_all most configured flags read k packets).ring read
      (write_all most configured flags read k packets).write (held ++ (p ∷ packets)))
      (sym one) (rw (append_assoc held (p ∷ []) packets) at rest)

-- packets read from a ring that holds some
module _ (most configured : ℕ) (ring : List ℕ) (write : ℕ) where
  -- after the last packet the answer is EMPTY
  pub all_read_empty : (read output : ℕ) → Holds most configured ring read write [] → 4 + most ≤ output
      → reading.found_of most ring configured true read write output ≡ reading.empty
  all_read_empty read output h room =
      let equal = none_held most configured ring read write h in
      let right = set_up_holds most configured (length ring) h.set_up in
      let pointers = pointers_holds configured read write h.from h.to in
      readings.found_failing most ring configured true read write output 4
      (right, (le-leb (4 + most) output room, (refl, (pointers, ap not (eq-eqb read write equal)))))

  module _ (out : List ℕ) (room : 4 + most ≤ length out) where
    -- one read, where the state lets a ring be read
    one_read : (flags : Flags) (states : List Flags) (read : ℕ) → may_read (state_of flags) ≡ true
        → read_all most configured ring out write (flags ∷ states) read
        ≡ and_then (reading.found_of most ring configured true read write (length out))
        (reading.output_of most ring configured true read write out)
        (read_all most configured ring out write states)
    unfolding read_all
    one_read flags states read may = rw may

    -- each read gives the next of the packets that the ring holds
    pub all_read : (states : List Flags) (read : ℕ) (packets : List (List ℕ))
        → Holds most configured ring read write packets → all_readable states ≡ true
        → read_all most configured ring out write states read ≡ take (length states) packets
    unfolding read_all all_readable fronted
    all_read [] read packets h may = refl
    all_read (flags ∷ states) read [] h may =
        let m = both (may_read (state_of flags)) (all_readable states) may in
        one_read flags states read m.0
        ∙ ap
        (λ (f : reading.Found). and_then f (reading.output_after f (round_from read ring) out)
        (read_all most configured ring out write states))
        (all_read_empty read (length out) h room)
    all_read (flags ∷ states) read (p ∷ packets) h may =
        let m = both (may_read (state_of flags)) (all_readable states) may in
        let next = next_of configured read (whole_for (length p)) in
        let first = read_first most configured ring read write packets p out h room in
        one_read flags states read m.0
        ∙ (λ i. and_then (first.0 i) (first.1 i) (read_all most configured ring out write states))
        ∙ ap (λ (q : List ℕ). q ∷ read_all most configured ring out write states next)
        (take_at p (drop (length p) out) (length p) refl)
        ∙ ap (λ (ps : List (List ℕ)). p ∷ ps)
        (all_read states next packets (holds_taken most configured ring read write packets p h) m.1)

-- as many reads as there are packets, each in a state that lets a ring be read
module _ (most configured read : ℕ) (packets : List (List ℕ)) (states : List Flags) (may : all_readable states ≡ true)
    (out : List ℕ) (long : 4 + most ≤ length out) where
  -- give all that the ring holds
  back : (ring : List ℕ) (write : ℕ) → Holds most configured ring read write packets → length states ≡ length packets
      → read_all most configured ring out write states read ≡ packets
  back ring write h many =
      all_read most configured ring write out long states read packets h may
      ∙ ap (λ (n : ℕ). take n packets) many ∙ take-length packets

  -- whatever was done before: the packets whose bytes are what is filled
  pub filled_back : (ring : List ℕ) (write : ℕ) → set_up_right most configured (length ring) ≡ true
      → pointers_right configured read write ≡ true → all_sized most packets ≡ true
      → take (filled_of configured read write) (round_from read ring) ≡ all_bytes packets
      → length states ≡ length packets
      → read_all most configured ring out write states read ≡ packets
  filled_back ring write right pointers sized bytes many =
      let p = pointers_facts configured read write pointers in
      back ring write
      (record {
        set_up = set_up_facts most configured (length ring) right;
        from = p.0;
        to = p.1;
        sized = sized;
        bytes = bytes;
      })
      many

  -- first in, first out: the packets written one after the other, from a pointer on at which the ring was empty
  pub fifo : (ring : List ℕ) → set_up_right most configured (length ring) ≡ true → pointer_right configured read ≡ true
      → all_sized most packets ≡ true → space_for packets + 4 ≤ configured → length states ≡ length packets
      → read_all most configured (queued most configured ring read packets).ring out
      (queued most configured ring read packets).write states read ≡ packets
  unfolding state_of
  fifo ring right at sized fits many =
      let set_up = set_up_facts most configured (length ring) right in
      let pointer = pointer_facts configured read at in
      back (queued most configured ring read packets).ring (queued most configured ring read packets).write
      (all_written most configured normal_runtime refl read (record { ring = ring; write = read }) [] packets
      (holds_none most configured ring read set_up pointer) sized
      (omega (arith, room_none configured read set_up.size pointer)))
      many

-- nothing is queued where the state doesn't let a ring be written
pub not_queued : (most : ℕ) (ring : List ℕ) (configured : ℕ) (flags : Flags) (read write : ℕ) (p : List ℕ)
    → set_up_right most configured (length ring) ≡ true → size_right most (length p) ≡ true
    → may_write (state_of flags) ≡ false
    → (writing.entered_of most (length ring) configured (may_write (state_of flags)) read write (length p)
    ≡ writing.refused 11)
    × (writing.written_of most ring configured (may_write (state_of flags)) read write p ≡ ring)
not_queued most ring configured flags read write p right sized closed =
    let is = writings.entered_failing most (length ring) configured (may_write (state_of flags)) read write (length p) 2
    (right, (sized, closed)) in
    (is, ap (λ (answer : writing.Entered). writing.ring_after answer ring write p) is)
