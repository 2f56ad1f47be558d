-- "A written packet reads back the same: .. a ring from the old write pointer", over the ring's end too; and every
-- packet has a good arrival.
-- Assumes nothing.
use mathlib.Core.Path.{◌≡◌, refl, ap, sym, subst, ◌∙◌}
use mathlib.Core.Bool.{Bool, true}
use mathlib.Core.List.{List, [], ◌∷◌}
use Prim.Native.Nat.{ℕ, ◌+◌, ◌≤◌}
use native.Mathlib.Omega.{arith}
use lib.ListN.{length, take, replicate, length-replicate}
use Rattle.octets.specs.Bytes.{fronted}
use Rattle.octets.proofs.Choice.{within_holds, within_bounds}
use Rattle.mctp.specs.Packet.{body_right, size_right}
use Rattle.mmbi.specs.Pointers.{length_right}
use Rattle.ring.specs.Numbers.{filled_of, room_of, next_of}
use Rattle.ring.specs.Layout.{whole_for, ring_bytes}
use Rattle.ring.specs.Reading.{Found, packet, found_of, output_after, output_of}
use Rattle.ring.specs.Runs.{arrival_ring}
use Rattle.ring.specs.Round.{round_from, stored}
use Rattle.ring.specs.Writing.{Entered, entered, refused, entered_of, ring_after, written_of}
use Rattle.ring.proofs.Headers.{bytes-length}
use Rattle.ring.proofs.Held.{Holds, holds_none, holds_written, written_keeps, held_good, held_packet}
use Rattle.mmbi.proofs.PointerNumbers.{Length, length_facts, Pointer}
use Rattle.ring.proofs.Numbers.{SetUp, filled_near, filled_room, next_near}
use Rattle.ring.proofs.Readings as readings
use Rattle.ring.proofs.Rounds.{stored-length}
use Rattle.ring.proofs.Writings as writings

-- reading gives this packet with this pointer, and the packet stands at the output's front
abbrev pub Gives : (most : ℕ) (ring : List ℕ) (configured : ℕ) (readable : Bool) (read write : ℕ) (out p : List ℕ)
    (next : ℕ) → Type 0
Gives most ring configured readable read write out p next =
    (found_of most ring configured readable read write (length out) ≡ packet (length p) next)
    × (output_of most ring configured readable read write out ≡ fronted out p)

-- the packet that a ring holds first is read, answer and output
pub read_first : (most configured : ℕ) (ring : List ℕ) (read write : ℕ) (packets : List (List ℕ)) (p out : List ℕ)
    → Holds most configured ring read write (p ∷ packets) → 4 + most ≤ length out
    → Gives most ring configured true read write out p (next_of configured read (whole_for (length p)))
read_first most configured ring read write packets p out h room =
    let next = next_of configured read (whole_for (length p)) in
    let found = readings.good_found most ring configured true read write (length out) (length p) next
    (held_good most configured ring read write packets p h (length out) room) in (
      found,
      ap (λ (f : Found). output_after f (round_from read ring) out) found
          ∙ ap (fronted out) (held_packet most configured ring read write packets p h),
    )

-- from equal pointers there is room for all but four bytes
pub room_none : (configured pointer : ℕ) → Length configured → Pointer configured pointer
    → room_of configured pointer pointer + 4 ≡ configured
room_none configured pointer l p =
    omega (
      arith,
      filled_room configured pointer pointer l p p,
      filled_near configured pointer pointer (omega arith) p.below,
    )

-- a packet alone in the ring
alone : (most configured : ℕ) (ring : List ℕ) (pointer : ℕ) (p : List ℕ) → SetUp most configured (length ring)
    → Pointer configured pointer → size_right most (length p) ≡ true → whole_for (length p) + 4 ≤ configured
    → Holds most configured (stored ring pointer (ring_bytes p)) pointer
    (next_of configured pointer (whole_for (length p))) (p ∷ [])
alone most configured ring pointer p set_up at sized fits =
    holds_written most configured ring pointer pointer [] p (holds_none most configured ring pointer set_up at) sized
    (omega (arith, room_none configured pointer set_up.size at))

-- writing keeps the ring's length, refused or not
pub written-length : (most : ℕ) (ring : List ℕ) (configured : ℕ) (running : Bool) (read write : ℕ) (p : List ℕ)
    → length (written_of most ring configured running read write p) ≡ length ring
written-length most ring configured running read write p =
    by_answer (entered_of most (length ring) configured running read write (length p)) refl
  where
    by_answer : (answer : Entered) → entered_of most (length ring) configured running read write (length p) ≡ answer
        → length (ring_after answer ring write p) ≡ length ring
    by_answer (refused n) e = refl
    by_answer (entered next) e =
        let g = writings.good most (length ring) configured running read write (length p) next e in
        let fits = writings.good_fits most (length ring) configured running read write (length p) next g in
        stored-length ring write (ring_bytes p) (omega (arith, fits, bytes-length p, g.set_up.same))

-- a packet that was entered
module _ (most : ℕ) (ring : List ℕ) (configured : ℕ) (running : Bool) (read write : ℕ) (p : List ℕ) (next : ℕ)
    (e : entered_of most (length ring) configured running read write (length p) ≡ entered next) where
  is : written_of most ring configured running read write p ≡ stored ring write (ring_bytes p)
  is = ap (λ (answer : Entered). ring_after answer ring write p) e

  g : writings.Good most (length ring) configured running read write (length p) next
  g = writings.good most (length ring) configured running read write (length p) next e

  fits : filled_of configured read write + whole_for (length p) + 4 ≤ configured
  fits = writings.good_fits most (length ring) configured running read write (length p) next g

  -- changes no byte that a reader could still take
  pub written_kept : take (filled_of configured read write)
      (round_from read (written_of most ring configured running read write p))
      ≡ take (filled_of configured read write) (round_from read ring)
  written_kept =
      ap (λ (s : List ℕ). take (filled_of configured read write) (round_from read s)) is
      ∙ written_keeps configured ring read write g.set_up.same g.from g.to (ring_bytes p)
      (omega (arith, bytes-length p, fits))

  -- and, read from the old write pointer with the new one, gives the packet and the new pointer
  pub written_reads_back : (out : List ℕ) → 4 + most ≤ length out
      → Gives most (written_of most ring configured running read write p) configured true write next out p next
  written_reads_back out room =
      let sized = within_holds 5 (4 + most) (length p) g.least g.largest in
      let h = alone most configured ring write p g.set_up g.to sized (omega (arith, fits)) in
      rw (is, g.after) (read_first most configured (stored ring write (ring_bytes p)) write
      (next_of configured write (whole_for (length p))) [] p out h room)

-- every packet that a carrier takes has a good arrival in any ring that is four bytes longer than what the packet takes
-- up
pub arrival : (most configured : ℕ) (p out : List ℕ) → body_right most ≡ true → length_right configured ≡ true
    → size_right most (length p) ≡ true → whole_for (length p) + 4 ≤ configured → 4 + most ≤ length out
    → Gives most (arrival_ring configured p) configured true 0 (whole_for (length p)) out p (whole_for (length p))
unfolding arrival_ring
arrival most configured p out m l sized fits room =
    let b = within_bounds 64 246 most m in
    let size = length_facts configured l in
    let low = size.low in
    let none = replicate {A = ℕ} configured 0 in
    let long : length none ≡ configured = length-replicate {A = ℕ} configured 0 in
    let set_up : SetUp most configured (length none) =
    record { low = b.0; high = b.1; size = size; same = sym long } in
    let front : Pointer configured 0 = record { fours = refl; below = omega arith } in
    let at : next_of configured 0 (whole_for (length p)) ≡ whole_for (length p) =
    next_near configured 0 (whole_for (length p)) (omega arith) ∙ omega arith in
    subst (λ (n : ℕ). Gives most (stored none 0 (ring_bytes p)) configured true 0 n out p n) at
    (read_first most configured (stored none 0 (ring_bytes p)) 0 (next_of configured 0 (whole_for (length p))) [] p out
    (alone most configured none 0 p set_up front sized fits) room)

-- of the base, "5 to 68 in all", in any ring of a right length: 76 bytes are enough, and the least length is 128
pub arrival_base : (configured : ℕ) (p out : List ℕ) → length_right configured ≡ true → size_right 64 (length p) ≡ true
    → 68 ≤ length out
    → Gives 64 (arrival_ring configured p) configured true 0 (whole_for (length p)) out p (whole_for (length p))
arrival_base configured p out l sized room =
    let low = (length_facts configured l).low in
    let b = within_bounds 5 68 (length p) sized in
    arrival 64 configured p out refl l sized (omega (arith, b.1)) room
