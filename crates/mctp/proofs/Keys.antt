-- Keys: the test on two keys is equality, and what a header's fields can be.
-- Assumes nothing.
use mathlib.Core.Path.{◌≡◌, refl}
use mathlib.Core.Bool.{true, beq, ◌&&◌}
use mathlib.Core.List.{List}
use Prim.Native.Nat.{ℕ, ◌<◌}
use native.Mathlib.Omega.{arith}
use borrow.Author.Tests.{eqb-true, eq-eqb}
use lib.Dec.{eqb}
use Rattle.octets.proofs.Choice.{both, beq_true, beq_refl}
use Rattle.mctp.specs.declared.packet.Key.{Key}
use Rattle.mctp.specs.Packet.{sequence_of, tag_of}
use Rattle.mctp.specs.Key.{same_key}

-- the test holds of equal keys
pub same_key_refl : (k : Key) → same_key k k ≡ true
unfolding same_key
same_key_refl k =
    rw (
      eq-eqb k.destination.0 k.destination.0 refl,
      eq-eqb k.source.0 k.source.0 refl,
      beq_refl k.owner,
      eq-eqb k.tag k.tag refl,
    )

-- and of no others
pub same_key_true : (j k : Key) → same_key j k ≡ true → j ≡ k
unfolding same_key
same_key_true j k e =
    let t = both (eqb j.destination.0 k.destination.0 && eqb j.source.0 k.source.0
    && beq j.owner k.owner) (eqb j.tag k.tag) e in
    let o = both (eqb j.destination.0 k.destination.0 && eqb j.source.0 k.source.0)
    (beq j.owner k.owner) t.0 in
    let d = both (eqb j.destination.0 k.destination.0) (eqb j.source.0 k.source.0) o.0 in
    let destination = eqb-true j.destination.0 k.destination.0 d.0 in
    let source = eqb-true j.source.0 k.source.0 d.1 in
    let owner = beq_true j.owner k.owner o.1 in
    let tag = eqb-true j.tag k.tag t.1 in
    λ i. record {
      destination = record { 0 = destination i };
      source = record { 0 = source i };
      owner = owner i;
      tag = tag i;
    }

-- "sequence is 0 to 3, tag 0 to 7"
pub sequence_below : (p : List ℕ) → sequence_of p < 4
sequence_below p = omega arith

pub tag_below : (p : List ℕ) → tag_of p < 8
tag_below p = omega arith
