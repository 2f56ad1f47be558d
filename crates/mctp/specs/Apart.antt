-- A packet in two pieces, which need not lie one behind the other.
-- Assumes nothing.
use Rattle.std.specs.Prelude.{ℕ, List, ◌++◌}
use Rattle.mctp.specs.declared.apart.Apart.{Apart}

-- the packet that the pieces make
abbrev pub joined : Apart → List ℕ
joined packet = packet.header.now ++ packet.body.now
