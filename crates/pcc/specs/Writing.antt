-- A packet written to a PCC region (document 01, "PCC region"). `most` is the largest body; the base takes 64.
-- Assumes nothing.
use Rattle.std.specs.Prelude.{ℕ, ◌+◌, Bool, List, [], ◌∷◌, length, eqb, leb}
use Rattle.octets.specs.Choice.{pick}
use Rattle.octets.specs.Checks.{Check, ◌unless◌, first_failing}
use Rattle.octets.specs.Bytes.{fronted}
use Rattle.mctp.specs.Packet.{body_right, size_right}
use Rattle.pcc.specs.Layout.{region_of}

-- "Writing: 1, 3, 2 (region under 84)." A largest body that is none is 1; a region that ends before the packet does is
-- 2 as well. "All three writers look at a packet's size only": `size` is all of the packet that is asked for, `room`
-- all of the region.
abbrev pub write_order : (most room id size : ℕ) → List (Check ℕ)
write_order most room id size =
    1 unless body_right most
    ∷ 1 unless leb id 255
    ∷ 3 unless size_right most size
    ∷ 2 unless leb 84 room
    ∷ 2 unless leb (16 + size) room
    ∷ []

unfoldable pub write_refusal : (most room id size : ℕ) → ℕ
write_refusal most room id size = first_failing (write_order most room id size) 0

-- the region afterwards: "bytes after the packet are neither read nor written"; where refused, all unchanged
unfoldable pub written_of : (most : ℕ) (region : List ℕ) (id : ℕ) (notify : Bool) (packet : List ℕ) → List ℕ
written_of most region id notify packet =
    pick (eqb (write_refusal most (length region) id (length packet)) 0)
    (fronted region (region_of id notify packet)) region
