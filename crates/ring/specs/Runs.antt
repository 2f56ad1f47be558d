-- Runs of writes and reads on one ring: what the laws on a good arrival and on first in, first out speak of.
-- Assumes nothing.
use Rattle.std.specs.Prelude.{ℕ, zero, suc, ◌+◌, Bool, true, ◌&&◌, List, [], ◌∷◌, ◌++◌, length, take, replicate}
use Rattle.mctp.specs.Packet.{size_right}
use Rattle.mmbi.specs.declared.interface.Flags.{Flags}
use Rattle.mmbi.specs.Interface.{normal_runtime, state_of, may_read, may_write}
use Rattle.ring.specs.Layout.{whole_for, ring_bytes}
use Rattle.ring.specs.Reading as reading
use Rattle.ring.specs.Round.{stored}
use Rattle.ring.specs.Writing as writing

-- a ring of so many zero bytes, with one packet at its front
unfoldable pub arrival_ring : ℕ → List ℕ → List ℕ
arrival_ring configured p = stored (replicate configured 0) 0 (ring_bytes p)

-- every packet has a size that a carrier takes
unfoldable pub all_sized : ℕ → List (List ℕ) → Bool
all_sized most [] = true
all_sized most (p ∷ packets) = size_right most (length p) && all_sized most packets

-- all that the packets take up in the ring
unfoldable pub space_for : List (List ℕ) → ℕ
space_for [] = 0
space_for (p ∷ packets) = whole_for (length p) + space_for packets

-- the packets with their headers and padding, one after the other
unfoldable pub all_bytes : List (List ℕ) → List ℕ
all_bytes [] = []
all_bytes (p ∷ packets) = ring_bytes p ++ all_bytes packets

-- what the writer keeps: the ring's bytes and the write pointer
pub record Kept : Type 0 where
  pub ring : List ℕ
  pub write : ℕ

-- the write pointer after an answer; a refusal leaves it
abbrev pub pointer_after : writing.Entered → ℕ → ℕ
pointer_after (writing.entered next) write = next
pointer_after (writing.refused number) write = write

-- one packet written under these flags, whatever the answer
unfoldable pub wrote : (most configured : ℕ) (flags : Flags) (read : ℕ) (kept : Kept) (p : List ℕ) → Kept
wrote most configured flags read kept p =
    let running = may_write (state_of flags) in
    let answer = writing.entered_of most (length kept.ring) configured running read kept.write (length p) in
    record {
      ring = writing.written_of most kept.ring configured running read kept.write p;
      write = pointer_after answer kept.write;
    }

-- packets written one after the other
unfoldable pub write_all : (most configured : ℕ) (flags : Flags) (read : ℕ) → Kept → List (List ℕ) → Kept
write_all most configured flags read kept [] = kept
write_all most configured flags read kept (p ∷ packets) =
    write_all most configured flags read (wrote most configured flags read kept p) packets

-- packets queued in normal runtime, from a pointer on at which the ring is empty
abbrev pub queued : (most configured : ℕ) (ring : List ℕ) (pointer : ℕ) → List (List ℕ) → Kept
queued most configured ring pointer packets =
    write_all most configured normal_runtime pointer (record { ring = ring; write = pointer }) packets

-- a ring may be read in each of these flag states
unfoldable pub all_readable : List Flags → Bool
all_readable [] = true
all_readable (flags ∷ states) = may_read (state_of flags) && all_readable states

-- a packet taken from the output's front, and then what is read from the pointer after it; nothing where there is no
-- packet
abbrev pub and_then : reading.Found → List ℕ → (ℕ → List (List ℕ)) → List (List ℕ)
and_then (reading.packet size next) output rest = take size output ∷ rest next
and_then reading.empty output rest = []
and_then (reading.skipped number next) output rest = []
and_then (reading.refused number) output rest = []

-- packets read one after the other, one read in each of these flag states
unfoldable pub read_all : (most configured : ℕ) (ring out : List ℕ) (write : ℕ) → List Flags → (read : ℕ)
    → List (List ℕ)
read_all most configured ring out write [] read = []
read_all most configured ring out write (flags ∷ states) read =
    let readable = may_read (state_of flags) in
    and_then (reading.found_of most ring configured readable read write (length out))
    (reading.output_of most ring configured readable read write out)
    (read_all most configured ring out write states)

-- what draining a ring gives: the packets, and the read pointer after them
pub record Drained : Type 0 where
  pub packets : List (List ℕ)
  pub read : ℕ

-- a packet goes before what is drained from the pointer after it; one that is skipped is passed over; else nothing more
-- is read
abbrev pub drain_on : reading.Found → (output : List ℕ) (read : ℕ) → (ℕ → Drained) → Drained
drain_on (reading.packet size next) output read rest =
    record { packets = take size output ∷ (rest next).packets; read = (rest next).read }
drain_on reading.empty output read rest = record { packets = []; read = read }
drain_on (reading.skipped number next) output read rest = rest next
drain_on (reading.refused number) output read rest = record { packets = []; read = read }

-- a ring read under these flags until it gives nothing more, by at most so many reads
unfoldable pub drained : (most configured : ℕ) (ring out : List ℕ) (flags : Flags) (write : ℕ) → (reads read : ℕ)
    → Drained
drained most configured ring out flags write zero read = record { packets = []; read = read }
drained most configured ring out flags write (suc reads) read =
    let readable = may_read (state_of flags) in
    drain_on (reading.found_of most ring configured readable read write (length out))
    (reading.output_of most ring configured readable read write out)
    read (drained most configured ring out flags write reads)
