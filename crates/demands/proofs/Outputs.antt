-- The output of a ring arrival: it holds the packet at its front, and is unchanged where there is none.
-- Assumes nothing.
use mathlib.Core.Path.{◌≡◌, refl}
use mathlib.Core.List.{List}
use Prim.Native.Nat.{ℕ}
use lib.ListN.{length}
use Rattle.octets.specs.Bytes.{fronted}
use Rattle.mmbi.specs.declared.interface.Flags.{Flags}
use Rattle.mmbi.specs.Interface.{state_of, may_read}
use Rattle.ring.specs.Round.{round_from}
use Rattle.ring.specs.Reading as taking
use Rattle.rack.specs.Arrivals.{Brought, packet, none, found_brings, ring_brings}

-- what a ring arrival leaves in its output
abbrev pub output_of : Brought → List ℕ → List ℕ
output_of (packet p beside) out = fronted out p
output_of (none why) out = out

by_answer : (found : taking.Found) (s out : List ℕ)
    → taking.output_after found s out ≡ output_of (found_brings s found) out
by_answer (taking.packet size next) s out = refl
by_answer taking.empty s out = refl
by_answer (taking.skipped number next) s out = refl
by_answer (taking.refused number) s out = refl

pub ring_output : (most : ℕ) (ring : List ℕ) (configured : ℕ) (flags : Flags) (read write : ℕ) (out : List ℕ)
    → taking.output_of most ring configured (may_read (state_of flags)) read write out
    ≡ output_of (ring_brings most ring configured flags read write out) out
unfolding ring_brings
ring_output most ring configured flags read write out =
    by_answer (taking.found_of most ring configured (may_read (state_of flags)) read write (length out))
    (round_from read ring) out
