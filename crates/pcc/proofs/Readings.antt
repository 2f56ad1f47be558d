-- The order of reading: the first check that fails gives the number, and a good region passes all.
-- Assumes nothing.
use mathlib.Core.Path.{◌≡◌, refl}
use mathlib.Core.Bool.{true}
use mathlib.Core.List.{List}
use Prim.Native.Nat.{ℕ, ◌+◌, ◌-◌, ◌≤◌}
use native.Mathlib.Omega.{arith}
use borrow.Author.Tests.{eq-eqb}
use lib.Dec.{eqb}
use lib.ListN.{length, length-take, length-drop}
use Rattle.octets.specs.Words.{low_first, word_at}
use Rattle.octets.proofs.Checks.{none_failing, all_hold, tests}
use Rattle.mctp.specs.Packet.{size_right}
use Rattle.pcc.specs.Layout.{signature_of, command}
use Rattle.pcc.specs.Reading.{read_order, refusal_of, size_of, packet_of}

-- all that the number 0 says of a region under `id`
pub record Good (most : ℕ) (region : List ℕ) (id : ℕ) : Type 0 where
  pub least : 64 ≤ most
  pub largest : most ≤ 246
  pub subspace : id ≤ 255
  pub room : 84 ≤ length region
  pub signed : word_at low_first region 0 ≡ signature_of id
  pub commanded : word_at low_first region 12 ≡ command
  pub short : 9 ≤ word_at low_first region 8
  pub long : word_at low_first region 8 ≤ 8 + most
  pub held : 12 + word_at low_first region 8 ≤ length region

module _ (most : ℕ) (region : List ℕ) (id : ℕ) where
  pub good_number : Good most region id → refusal_of most region id ≡ 0
  unfolding refusal_of
  good_number g = none_failing (read_order most region id) 0 (omega (arith, tests))

  module _ (e : refusal_of most region id ≡ 0) where
    pub good : Good most region id
    unfolding refusal_of
    good = let hold = all_hold (λ n. eqb n 0) (read_order most region id) 0 refl (eq-eqb _ 0 e) in omega (arith, tests)

    pub good_size : size_of most region id ≡ word_at low_first region 8 - 4
    unfolding size_of
    good_size = rw e

    -- the packet is as long as the length says, and a packet by its size
    pub packet-length : length (packet_of most region id) ≡ word_at low_first region 8 - 4
    packet-length = let g = good in rw good_size (simp (length-take, length-drop) (omega arith))

    pub packet_sized : size_right most (length (packet_of most region id)) ≡ true
    packet_sized = let g = good in rw packet-length (omega (arith, tests))
