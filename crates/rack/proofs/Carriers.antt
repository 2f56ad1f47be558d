-- From a ring's own answer to what the arrival brings: what the call of that path cites, and who writes a ring.
-- Assumes nothing.
use mathlib.Core.Path.{◌≡◌, ap, sym, ◌∙◌}
use mathlib.Core.List.{List}
use Prim.Native.Nat.{ℕ, ◌+◌, ◌≤◌, ◌<◌}
use native.Mathlib.Omega.{arith}
use lib.ListN.{length, take, drop, length-take, length-drop}
use lib.Seq.{take_at}
use Rattle.std.proofs.Common.{Result, Ok}
use Rattle.octets.specs.Bytes.{fronted}
use Rattle.mctp.specs.declared.refusal.Refusal.{Refusal}
use Rattle.mmbi.specs.declared.interface.Flags.{Flags}
use Rattle.mmbi.specs.Interface.{state_of, may_read}
use Rattle.ring.specs.declared.reading.Found as ring
use Rattle.ring.specs.declared.reading.Found.TheVariants as ring-case
use Rattle.ring.specs.Round.{round_from}
use Rattle.ring.specs.Layout as ring_layout
use Rattle.ring.specs.Reading as ring-says
use Rattle.ring.specs.Answers.{found_in}
use Rattle.ring.proofs.Rounds.{round-length}
use Rattle.ring.proofs.Readings.{Good, good, good_short}
use Rattle.rack.specs.Arrivals.{found_brings, ring_brings}

module _
    (most : ℕ)
    (bytes : List ℕ)
    (configured : ℕ)
    (flags : Flags)
    (read write : ℕ)
    (out : List ℕ)
    (t : Result ring.Found Refusal)
    (told : found_in t ≡ ring-says.found_of most bytes configured (may_read (state_of flags)) read write (length out))
  where
    module _ (u : Result ring.Found Refusal) (is : t ≡ u) where
      said : ring-says.found_of most bytes configured (may_read (state_of flags)) read write (length out)
          ≡ found_in u
      said = sym told ∙ ap found_in is

      -- what the ring brings is what its answer says
      pub ring_brings_lem : ring_brings most bytes configured flags read write out
          ≡ found_brings (round_from read bytes) (found_in u)
      unfolding ring_brings
      ring_brings_lem = ap (found_brings (round_from read bytes)) said

    module _ (size next : ℕ) (is : t ≡ Ok (ring-case.Packet size next)) where
      found : Good most bytes configured (may_read (state_of flags)) read write (length out) size next
      found =
          good most bytes configured (may_read (state_of flags)) read write (length out) size next
          (said (Ok (ring-case.Packet size next)) is)

      pub ring_fits : size ≤ length out
      ring_fits = omega (arith, found.room, found.largest)

      sized : length (ring_layout.packet_of (round_from read bytes)) ≡ size
      unfolding ring_layout.packet_of
      sized =
          let short : 4 + size < length bytes =
          good_short most bytes configured (may_read (state_of flags)) read write (length out) size next found in
          simp (length-take, length-drop, round-length) (omega (arith, found.sized))

      -- the packet stands at the output's front
      pub ring_front : take size
          (ring-says.output_of most bytes configured (may_read (state_of flags)) read write out)
          ≡ ring_layout.packet_of (round_from read bytes)
      unfolding fronted
      ring_front =
          ap (λ (f : ring-says.Found). take size (ring-says.output_after f (round_from read bytes) out))
          (said (Ok (ring-case.Packet size next)) is)
          ∙ take_at (ring_layout.packet_of (round_from read bytes))
          (drop (length (ring_layout.packet_of (round_from read bytes))) out) size sized
