-- What writing a packet as a frame gives (document 01, "SMBus frame"). `most` is the largest body; the base takes 64.
-- Assumes nothing.
use Rattle.std.specs.Prelude.{List, [], ◌∷◌, ℕ, ◌+◌, eqb, leb, length}
use Rattle.octets.specs.Bytes.{fronted}
use Rattle.octets.specs.Checks.{Check, ◌unless◌, first_failing}
use Rattle.octets.specs.Choice.{pick}
use Rattle.mctp.specs.Packet.{body_right, size_right}
use Rattle.smbus.specs.Layout.{frame_of}

-- the head of four bytes, the packet and the PEC: "A frame .. is 4 longer than its count."
abbrev pub frame_size : ℕ → ℕ
frame_size size = 5 + size

-- "Writing: 1 (either address over 127), 3 (packet size), 2 (output shorter than the frame)." A largest body that is
-- none is 1. "All three writers look at a packet's size only, not at its fields": `size` is all of the packet that is
-- asked for, `room` all of the output.
abbrev pub write_order : (most room size destination source : ℕ) → List (Check ℕ)
write_order most room size destination source =
    1 unless body_right most
    ∷ 1 unless leb destination 127
    ∷ 1 unless leb source 127
    ∷ 3 unless size_right most size
    ∷ 2 unless leb (frame_size size) room
    ∷ []

unfoldable pub write_refusal : (most room size destination source : ℕ) → ℕ
write_refusal most room size destination source = first_failing (write_order most room size destination source) 0

-- the frame's length; 0 where refused
unfoldable pub size_of : (most room size destination source : ℕ) → ℕ
size_of most room size destination source =
    pick (eqb (write_refusal most room size destination source) 0) (frame_size size) 0

-- "The frame goes to the output's front, the rest unchanged."
unfoldable pub written_of : (most : ℕ) (out packet : List ℕ) (destination source : ℕ) → List ℕ
written_of most out packet destination source =
    pick (eqb (write_refusal most (length out) (length packet) destination source) 0)
    (fronted out (frame_of destination source packet)) out
