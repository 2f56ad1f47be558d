-- What a ring holds: a packet put in stands last, the packet taken out stood first, and no other byte that a reader
-- could take has changed.
-- Assumes nothing.
use mathlib.Core.Path.{◌≡◌, refl, ap, sym, ◌∙◌}
use mathlib.Core.Bool.{true}
use mathlib.Core.List.{List, [], ◌∷◌, ◌++◌, append_assoc, append-nil}
use Prim.Native.Nat.{ℕ, ◌+◌, ◌-◌, ◌%◌, ◌≤◌, ◌<◌}
use native.Mathlib.Omega.{arith}
use lib.ListN.{length, take, drop, length-append, length-drop, take-append-drop}
use lib.Seq.{take_at, drop_at, take-append-le, take-add, length-take-le}
use Rattle.octets.proofs.Choice.{both, within_bounds}
use Rattle.octets.proofs.Laid.{laid_fits}
use Rattle.mctp.specs.Packet.{size_right}
use Rattle.ring.specs.Numbers.{filled_of, room_of, next_of}
use Rattle.ring.specs.Layout.{header_at, padding_field, type_field, whole_of, size_of, packet_of, whole_for, header_for}
use Rattle.ring.specs.Layout.{ring_bytes}
use Rattle.ring.specs.Runs.{all_sized, all_bytes}
use Rattle.ring.specs.Round.{round_from, stored}
use Rattle.ring.proofs.Headers.{header_padding, header_type, header_whole, header_size, header_back, packet_back}
use Rattle.ring.proofs.Headers.{bytes-length}
use Rattle.mmbi.proofs.PointerNumbers.{Pointer}
use Rattle.ring.proofs.Numbers.{SetUp, filled_below, filled_empty, filled_near, filled_room, filled_written}
use Rattle.ring.proofs.Numbers.{filled_taken}
use Rattle.ring.proofs.Numbers.{next_right}
use Rattle.ring.proofs.Numbers.{next_filled}
use Rattle.ring.proofs.Readings.{Good}
use Rattle.ring.proofs.Rounds.{round-length, round_round, stored-length, stored_behind}

-- the ring holds these packets, the first in first: what is filled are their bytes
pub record Holds (most configured : ℕ) (ring : List ℕ) (read write : ℕ) (packets : List (List ℕ)) : Type 0 where
  pub set_up : SetUp most configured (length ring)
  pub from : Pointer configured read
  pub to : Pointer configured write
  pub sized : all_sized most packets ≡ true
  pub bytes : take (filled_of configured read write) (round_from read ring) ≡ all_bytes packets

-- "Equal pointers mean empty."
pub holds_none : (most configured : ℕ) (ring : List ℕ) (pointer : ℕ) → SetUp most configured (length ring)
    → Pointer configured pointer → Holds most configured ring pointer pointer []
unfolding all_sized all_bytes
holds_none most configured ring pointer set_up p =
    let none : filled_of configured pointer pointer ≡ 0 =
    filled_near configured pointer pointer (omega arith) p.below ∙ omega arith in
    record {
      set_up = set_up;
      from = p;
      to = p;
      sized = refl;
      bytes = ap (λ (n : ℕ). take n (round_from pointer ring)) none;
    }

-- and where nothing is held, they are equal
pub none_held : (most configured : ℕ) (ring : List ℕ) (read write : ℕ) → Holds most configured ring read write []
    → read ≡ write
unfolding all_bytes
none_held most configured ring read write h =
    let under = filled_below configured read write h.from.below h.to.below in
    let same = h.set_up.same in
    let none : filled_of configured read write ≡ 0 =
    sym
    (length-take-le (filled_of configured read write) (round_from read ring) (omega (arith, round-length read ring)))
    ∙ ap length h.bytes in
    filled_empty configured read write h.from.below h.to.below none

sized_more : (most : ℕ) (packets : List (List ℕ)) (p : List ℕ) → all_sized most packets ≡ true
    → size_right most (length p) ≡ true → all_sized most (packets ++ (p ∷ [])) ≡ true
unfolding all_sized
sized_more most [] p h k = rw k
sized_more most (q ∷ packets) p h k =
    let b = both (size_right most (length q)) (all_sized most packets) h in
    rw (b.0, sized_more most packets p b.1 k)

bytes_more : (packets : List (List ℕ)) (p : List ℕ) → all_bytes (packets ++ (p ∷ []))
    ≡ all_bytes packets ++ ring_bytes p
unfolding all_bytes
bytes_more [] p = append-nil (ring_bytes p)
bytes_more (q ∷ packets) p =
    ap (λ (s : List ℕ). ring_bytes q ++ s) (bytes_more packets p)
    ∙ sym (append_assoc (ring_bytes q) (all_bytes packets) (ring_bytes p))

-- writing seen from the read pointer: bytes laid behind what is filled
module _ (configured : ℕ) (ring : List ℕ) (read write : ℕ) (same : configured ≡ length ring)
    (from : Pointer configured read) (to : Pointer configured write) (bytes : List ℕ)
    (fits : filled_of configured read write + length bytes ≤ configured) where
  written_behind : round_from read (stored ring write bytes)
      ≡ take (filled_of configured read write) (round_from read ring)
      ++ (bytes ++ drop (filled_of configured read write + length bytes) (round_from read ring))
  written_behind =
      let f = filled_of configured read write in
      let at : write ≡ next_of (length ring) read f = sym (next_filled configured read write from.below to.below)
      ∙ ap (λ (n : ℕ). next_of n read f) same in
      ap (λ (p : ℕ). round_from read (stored ring p bytes)) at
      ∙ stored_behind ring read f bytes (omega (arith, from.below)) (omega arith)
      ∙ laid_fits (round_from read ring) f bytes (omega (arith, round-length read ring))

  -- "Only the packet's own ring bytes change": no byte that a reader could still take has changed
  pub written_keeps : take (filled_of configured read write) (round_from read (stored ring write bytes))
      ≡ take (filled_of configured read write) (round_from read ring)
  written_keeps =
      let f = filled_of configured read write in
      ap (take f) written_behind
      ∙ take_at (take f (round_from read ring)) (bytes ++ drop (f + length bytes) (round_from read ring)) f
      (length-take-le f (round_from read ring) (omega (arith, round-length read ring)))

  -- with the new bytes behind them
  written_adds : take (filled_of configured read write + length bytes) (round_from read (stored ring write bytes))
      ≡ take (filled_of configured read write) (round_from read ring) ++ bytes
  written_adds =
      let f = filled_of configured read write in
      let front = length-take-le f (round_from read ring) (omega (arith, round-length read ring)) in
      ap (take (f + length bytes)) (written_behind
      ∙ sym (append_assoc (take f (round_from read ring)) bytes (drop (f + length bytes) (round_from read ring))))
      ∙ take_at (take f (round_from read ring) ++ bytes) (drop (f + length bytes) (round_from read ring))
      (f + length bytes)
      (length-append (take f (round_from read ring)) bytes ∙ ap (λ (n : ℕ). n + length bytes) front)

whole_fours : (n : ℕ) → whole_for n % 4 ≡ 0
whole_fours n = omega arith

-- a packet put in stands last
pub holds_written : (most configured : ℕ) (ring : List ℕ) (read write : ℕ) (packets : List (List ℕ)) (p : List ℕ)
    → Holds most configured ring read write packets → size_right most (length p) ≡ true
    → whole_for (length p) ≤ room_of configured read write
    → Holds most configured (stored ring write (ring_bytes p)) read (next_of configured write (whole_for (length p)))
    (packets ++ (p ∷ []))
holds_written most configured ring read write packets p h sized room =
    let f = filled_of configured read write in
    let n = bytes-length p in
    let l = h.set_up.size in
    let low = l.low in
    let same = h.set_up.same in
    let left = filled_room configured read write l h.from h.to in
    let fits : f + length (ring_bytes p) ≤ configured = omega arith in
    let kept = stored-length ring write (ring_bytes p) (omega arith) in
    record {
      set_up = record { low = h.set_up.low; high = h.set_up.high; size = l; same = same ∙ sym kept };
      from = h.from;
      to =
          next_right configured write (whole_for (length p)) h.to.below (omega arith) l.fours h.to.fours
          (whole_fours (length p));
      sized = sized_more most packets p h.sized sized;
      bytes =
          ap (λ (k : ℕ). take k (round_from read (stored ring write (ring_bytes p))))
          (filled_written configured read write (whole_for (length p)) h.from.below h.to.below (omega arith)
          ∙ ap (λ (k : ℕ). f + k) (sym n))
          ∙ written_adds configured ring read write same h.from h.to (ring_bytes p) fits
          ∙ ap (λ (s : List ℕ). s ++ ring_bytes p) h.bytes
          ∙ sym (bytes_more packets p);
    }

-- what stands after n bytes, in a list rounded by them
left_over : (s : List ℕ) (n m : ℕ) → n + m ≤ length s → take m (round_from n s) ≡ drop n (take (n + m) s)
unfolding round_from
left_over s n m h =
    take-append-le m (drop n s) (take n s) (omega (arith, length-drop n s))
    ∙ sym (ap (drop n) (take-add n m s) ∙ drop_at (take n s) (take m (drop n s)) n (length-take-le n s (omega arith)))

-- the packet taken out stood first
module _ (most configured : ℕ) (ring : List ℕ) (read write : ℕ) (packets : List (List ℕ)) (p : List ℕ)
    (h : Holds most configured ring read write (p ∷ packets)) where
  abbrev f : ℕ
  f = filled_of configured read write

  abbrev s : List ℕ
  s = round_from read ring

  abbrev behind : List ℕ
  behind = all_bytes packets ++ drop f s

  split : take f s ≡ ring_bytes p ++ all_bytes packets
  unfolding all_bytes
  split = h.bytes

  front : s ≡ ring_bytes p ++ behind
  front =
      sym (take-append-drop f s)
      ∙ ap (λ (t : List ℕ). t ++ drop f s) split
      ∙ append_assoc (ring_bytes p) (all_bytes packets) (drop f s)

  sizes : (size_right most (length p) ≡ true) × (all_sized most packets ≡ true)
  unfolding all_sized
  sizes = both (size_right most (length p)) (all_sized most packets) h.sized

  short : (5 ≤ length p) × (length p ≤ 4 + most)
  short = within_bounds 5 (4 + most) (length p) sizes.0

  small : length p ≤ 250
  small = omega (arith, short.1, h.set_up.high)

  below : f < configured
  below = filled_below configured read write h.from.below h.to.below

  held : whole_for (length p) ≤ f
  held =
      let same = h.set_up.same in
      omega (
        arith,
        bytes-length p,
        length-append (ring_bytes p) (all_bytes packets),
        ap length split,
        length-take-le f s (omega (arith, below, round-length read ring)),
      )

  header : header_at s ≡ header_for (length p)
  header = ap header_at front ∙ header_back p behind small

  -- it reads back
  pub held_packet : packet_of s ≡ p
  held_packet = ap packet_of front ∙ packet_back p behind small

  whole : whole_of (header_at s) ≡ whole_for (length p)
  whole = ap whole_of header ∙ header_whole (length p)

  pub held_good : (output : ℕ) → 4 + most ≤ output
      → Good most ring configured true read write output (length p)
      (next_of configured read (whole_for (length p)))
  held_good output room =
      record {
        set_up = h.set_up;
        room = room;
        may = refl;
        from = h.from;
        to = h.to;
        some = λ (e : read ≡ write).
            omega (
              arith,
              held,
              ap (filled_of configured read) (sym e),
              filled_near configured read read (omega arith) h.from.below,
            );
        held = omega (arith, whole, held);
        counted = omega (arith, whole, ap padding_field header ∙ header_padding (length p));
        ours = ap type_field header ∙ header_type (length p);
        least = short.0;
        largest = short.1;
        sized = sym (ap size_of header ∙ header_size (length p));
        on = ap (next_of configured read) (sym whole);
      }

  -- and the others are left
  pub holds_taken : Holds most configured ring (next_of configured read (whole_for (length p))) write packets
  holds_taken =
      let n = whole_for (length p) in
      let same = h.set_up.same in
      let l = h.set_up.size in
      let count : n + (f - n) ≡ f = omega (arith, held) in
      let there = round-length read ring in
      let under = below in
      let in_time = held in
      let inside : n + (f - n) ≤ length s = omega arith in
      record {
        set_up = h.set_up;
        from =
            next_right configured read n h.from.below (omega arith) l.fours h.from.fours
            (whole_fours (length p));
        to = h.to;
        sized = sizes.1;
        bytes =
            ap (λ (k : ℕ). take k (round_from (next_of configured read n) ring))
            (filled_taken configured read write n h.from.below h.to.below held)
            ∙ ap (λ (k : ℕ). take (f - n) (round_from (next_of k read n) ring)) same
            ∙ ap (take (f - n)) (sym (round_round ring read n (omega (arith, h.from.below)) (omega arith)))
            ∙ left_over s n (f - n) inside
            ∙ ap (λ (k : ℕ). drop n (take k s)) count
            ∙ ap (drop n) split
            ∙ drop_at (ring_bytes p) (all_bytes packets) n (bytes-length p);
      }
