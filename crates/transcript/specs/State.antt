-- What the bench program keeps from frame to frame (document 01, "Bench program"): its receiver and the two counts.
-- Assumes nothing.
use Rattle.std.specs.Prelude.{ℕ, ◌+◌, ltb}
use Rattle.octets.specs.Choice.{pick}
use Rattle.slots.specs.Changes.{fresh}
use Rattle.rack.specs.Answers.{Told, given, nothing}
use Rattle.transcript.specs.declared.state.State.{State}

-- "Own address 0x20, EID 9"
abbrev pub own_address : ℕ
own_address = 0x20

-- a fresh receiver, and nothing counted; document 02 gives no limit, and as every age is 0 any will do
abbrev pub start : State
start = record { receiver = fresh (record { own = record { 0 = 9 }; limit = 60000 }); arrivals = 0; packets = 0 }

-- "The bench program gives 0 as every time." (document 02, #106)
abbrev pub every_time : ℕ
every_time = 0

-- a count of 64 bits, which stops at 2^64 - 1
unfoldable pub one_more : ℕ → ℕ
one_more n = pick (ltb n 18446744073709551615) (n + 1) n

-- "Packets counts arrivals in which a packet was found."
abbrev pub with_packet : Told → ℕ → ℕ
with_packet (given beside said) n = one_more n
with_packet (nothing why) n = n
