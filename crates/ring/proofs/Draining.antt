-- A ring that is drained where it may be read gives all that it holds, in order, and is then empty; where it may not be
-- read, nothing is taken.
-- Assumes nothing.
use mathlib.Core.Path.{◌≡◌, refl, ap, ◌∙◌}
use mathlib.Core.Bool.{true, false}
use mathlib.Core.List.{List, [], ◌∷◌}
use Prim.Native.Nat.{ℕ, zero, suc, ◌+◌, ◌≤◌, ◌<◌}
use native.Mathlib.Omega.{arith}
use borrow.Author.Tests.{le-leb}
use lib.ListN.{length, drop, length-append}
use lib.Seq.{length-take-le, take_at}
use Rattle.octets.specs.Bytes.{fronted}
use Rattle.mmbi.specs.declared.interface.Flags.{Flags}
use Rattle.mmbi.specs.Interface.{state_of, may_read}
use Rattle.ring.specs.Numbers.{filled_of, next_of}
use Rattle.ring.specs.Layout.{whole_for, ring_bytes}
use Rattle.ring.specs.Reading as reading
use Rattle.ring.specs.Round.{round_from}
use Rattle.ring.specs.Runs.{all_bytes, drain_on, drained}
use Rattle.ring.proofs.Fifo.{all_read_empty}
use Rattle.ring.proofs.Headers.{bytes-length}
use Rattle.ring.proofs.Held.{Holds, none_held, holds_taken}
use Rattle.ring.proofs.Numbers.{filled_below, set_up_holds}
use Rattle.ring.proofs.Readings as readings
use Rattle.ring.proofs.RoundTrip.{read_first}
use Rattle.ring.proofs.Rounds.{round-length}

-- each packet takes up a byte at least
count_bytes : (packets : List (List ℕ)) → length packets ≤ length (all_bytes packets)
unfolding all_bytes
count_bytes [] = omega arith
count_bytes (p ∷ packets) =
    omega (arith, count_bytes packets, bytes-length p, length-append (ring_bytes p) (all_bytes packets))

-- so a ring holds fewer packets than it has bytes
pub few_held : (most configured : ℕ) (ring : List ℕ) (read write : ℕ) (packets : List (List ℕ))
    → Holds most configured ring read write packets → length packets < configured
few_held most configured ring read write packets h =
    let under = filled_below configured read write h.from.below h.to.below in
    let same = h.set_up.same in
    let bytes = length-take-le (filled_of configured read write) (round_from read ring)
    (omega (arith, round-length read ring)) in
    omega (arith, count_bytes packets, ap length h.bytes)

module _ (most configured : ℕ) (ring out : List ℕ) (flags : Flags) (write : ℕ) (room : 4 + most ≤ length out) where
  -- one read, by whether the state lets a ring be read
  one_drain : (readable : _) → may_read (state_of flags) ≡ readable → (reads read : ℕ)
      → drained most configured ring out flags write (suc reads) read
      ≡ drain_on (reading.found_of most ring configured readable read write (length out))
      (reading.output_of most ring configured readable read write out)
      read (drained most configured ring out flags write reads)
  unfolding drained
  one_drain readable may reads read = rw may

  -- all that is held is drained, where that is fewer packets than reads
  pub all_drained : may_read (state_of flags) ≡ true → (reads read : ℕ) (packets : List (List ℕ))
      → length packets < reads
      → Holds most configured ring read write packets
      → drained most configured ring out flags write reads read ≡ record { packets = packets; read = write }
  unfolding fronted
  all_drained may zero read packets many h = absurd (omega arith)
  all_drained may (suc reads) read [] many h =
      one_drain true may reads read
      ∙ ap
      (λ (f : reading.Found). drain_on f (reading.output_after f (round_from read ring) out) read
      (drained most configured ring out flags write reads))
      (all_read_empty most configured ring write read (length out) h room)
      ∙ ap (λ (n : ℕ). record { packets = []; read = n }) (none_held most configured ring read write h)
  all_drained may (suc reads) read (p ∷ packets) many h =
      let next = next_of configured read (whole_for (length p)) in
      let first = read_first most configured ring read write packets p out h room in
      let rest = all_drained may reads next packets (omega arith)
      (holds_taken most configured ring read write packets p h) in
      one_drain true may reads read
      ∙ (λ i. drain_on (first.0 i) (first.1 i) read (drained most configured ring out flags write reads))
      ∙ (λ i. record {
        packets = take_at p (drop (length p) out) (length p) refl i ∷ (rest i).packets;
        read = (rest i).read;
      })

  -- nothing is drained where the state doesn't let a ring be read
  pub none_drained : may_read (state_of flags) ≡ false → (reads read : ℕ) (packets : List (List ℕ))
      → Holds most configured ring read write packets
      → drained most configured ring out flags write reads read ≡ record { packets = []; read = read }
  unfolding drained
  none_drained closed zero read packets h = refl
  none_drained closed (suc reads) read packets h =
      one_drain false closed reads read
      ∙ ap
      (λ (f : reading.Found). drain_on f (reading.output_after f (round_from read ring) out) read
      (drained most configured ring out flags write reads))
      (readings.found_failing most ring configured false read write (length out) 2
      (set_up_holds most configured (length ring) h.set_up, (le-leb (4 + most) (length out) room, refl)))
