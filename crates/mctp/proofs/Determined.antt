-- The contracts leave no choice: two results that one allows on the same input are equal.
-- Assumes nothing.
use mathlib.Core.Path.{◌≡◌}
use mathlib.Core.Bool.{Bool}
use mathlib.Core.List.{List}
use Prim.Native.Nat.{ℕ}
use contract.Lifetimes.{Lfts}
use Rattle.octets.proofs.Choice.{determined}
use Rattle.mctp.specs.declared.apart.Apart.{Apart}
use Rattle.mctp.specs.declared.packet.Key.{Key}
use Rattle.mctp.specs.declared.packet.Header.{Header}
use Rattle.mctp.proofs.apart.Apart.size.Reads as apart-size
use Rattle.mctp.proofs.apart.Apart.whole.Reads as whole
use Rattle.mctp.proofs.eid.Eid.is_null.Reads as is-null
use Rattle.mctp.proofs.eid.Eid.is_broadcast.Reads as is-broadcast
use Rattle.mctp.proofs.eid.Eid.is_reserved.Reads as is-reserved
use Rattle.mctp.proofs.eid.Eid.is_endpoint.Reads as is-endpoint
use Rattle.mctp.proofs.packet.body_right.Reads as body-right
use Rattle.mctp.proofs.packet.size_right.Reads as size-right
use Rattle.mctp.proofs.packet.key_of.Reads as key_of
use Rattle.mctp.proofs.packet.header_of.Reads as header_of
use Rattle.mctp.proofs.packet.header_bytes.Reads as header-bytes
use Rattle.mctp.proofs.refusal.Refusal.number.Reads as number
use Rattle.mctp.proofs.packet.KeyPartialEq.eq.Reads as key-equal
use Rattle.mctp.specs.Key.{same_key}
use Rattle.std.proofs.Common.{rules}

pub is_null_determined : (κs : Lfts 0) (a : _) (r q : Bool) (e f : _)
    → is-null.Post κs a r e → is-null.Post κs a q f → r ≡ q
is_null_determined κs a r q e f p o = determined p o

pub is_broadcast_determined : (κs : Lfts 0) (a : _) (r q : Bool) (e f : _)
    → is-broadcast.Post κs a r e → is-broadcast.Post κs a q f → r ≡ q
is_broadcast_determined κs a r q e f p o = determined p o

pub is_reserved_determined : (κs : Lfts 0) (a : _) (r q : Bool) (e f : _)
    → is-reserved.Post κs a r e → is-reserved.Post κs a q f → r ≡ q
is_reserved_determined κs a r q e f p o = determined p o

pub is_endpoint_determined : (κs : Lfts 0) (a : _) (r q : Bool) (e f : _)
    → is-endpoint.Post κs a r e → is-endpoint.Post κs a q f → r ≡ q
is_endpoint_determined κs a r q e f p o = determined p o

pub body_right_determined : (κs : Lfts 0) (a : _) (r q : Bool) (e f : _)
    → body-right.Post κs a r e → body-right.Post κs a q f → r ≡ q
body_right_determined κs a r q e f p o = determined p o

pub size_right_determined : (κs : Lfts 0) (a : _) (r q : Bool) (e f : _)
    → size-right.Post κs a r e → size-right.Post κs a q f → r ≡ q
size_right_determined κs a r q e f p o = determined p o

pub key_of_determined : (κs : Lfts 1) (a : _) (r q : Key) (e f : _)
    → key_of.Post κs a r e → key_of.Post κs a q f → r ≡ q
key_of_determined κs a r q e f p o = determined p o

pub header_of_determined : (κs : Lfts 1) (a : _) (r q : Header) (e f : _)
    → header_of.Post κs a r e → header_of.Post κs a q f → r ≡ q
header_of_determined κs a r q e f p o = determined p o

pub header_bytes_determined : (κs : Lfts 0) (a : _) (r q : List ℕ) (e f : _)
    → header-bytes.Post κs a r e → header-bytes.Post κs a q f → r ≡ q
header_bytes_determined κs a r q e f p o = determined p o

pub number_determined : (κs : Lfts 0) (a : _) (r q : ℕ) (e f : _) → number.Post κs a r e → number.Post κs a q f → r ≡ q
number_determined κs a r q e f p o = determined p o

-- a packet in two pieces: its size, and the pieces of one that lies whole
pub apart_size_determined : (κs : Lfts 1) (a : _) (r q : ℕ) (e f : _)
    → apart-size.Post κs a r e → apart-size.Post κs a q f → r ≡ q
apart_size_determined κs a r q e f p o = determined p.0 o.0

pub whole_determined : (κs : Lfts 1) (a : _) (r q : Apart) (e f : _)
    → whole.Post κs a r e → whole.Post κs a q f → (r.header.now ≡ q.header.now) × (r.body.now ≡ q.body.now)
whole_determined κs a r q e f p o = (determined p.0 o.0, determined p.1 o.1)

-- `==` on keys is the test on two keys, whose four parts it compares
pub keys_equal : (κs : Lfts 2) (a : _) (r : Bool) (e : _)
    → key-equal.Post κs a r e → r ≡ same_key a.0.now a.1.0.now
unfolding same_key
keys_equal κs a r e p = search rules

-- No call asks anything of its arguments first.
pub no_requires : ((κs : Lfts 0) (a : _) → is-null.Pre κs a)
    × ((κs : Lfts 0) (a : _) → is-broadcast.Pre κs a)
    × ((κs : Lfts 0) (a : _) → is-reserved.Pre κs a)
    × ((κs : Lfts 0) (a : _) → is-endpoint.Pre κs a)
    × ((κs : Lfts 0) (a : _) → body-right.Pre κs a)
    × ((κs : Lfts 0) (a : _) → size-right.Pre κs a)
    × ((κs : Lfts 1) (a : _) → key_of.Pre κs a)
    × ((κs : Lfts 1) (a : _) → header_of.Pre κs a)
    × ((κs : Lfts 0) (a : _) → header-bytes.Pre κs a)
    × ((κs : Lfts 0) (a : _) → number.Pre κs a)
    × ((κs : Lfts 2) (a : _) → key-equal.Pre κs a)
    × ((κs : Lfts 1) (a : _) → apart-size.Pre κs a)
    × ((κs : Lfts 1) (a : _) → whole.Pre κs a)
no_requires = (
  (λ κs a. tt),
  (λ κs a. tt),
  (λ κs a. tt),
  (λ κs a. tt),
  (λ κs a. tt),
  (λ κs a. tt),
  (λ κs a. tt),
  (λ κs a. tt),
  (λ κs a. tt),
  (λ κs a. tt),
  (λ κs a. tt),
  (λ κs a. tt),
  (λ κs a. tt),
)
