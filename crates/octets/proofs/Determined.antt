-- The contracts leave no choice: two results that one allows on the same input are equal, and so is every byte at exit.
-- Assumes nothing.
use mathlib.Core.Path.{◌≡◌}
use Prim.Native.Nat.{ℕ}
use denote.RattleType.{RattleType}
use contract.Lifetimes.{Lfts}
use contract.BorrowLft.{◌⊑◌, ⊑_static}
use Rattle.octets.specs.contracts.word.LowFirst as low_first
use Rattle.octets.specs.contracts.word.HighFirst as high_first
use Rattle.octets.proofs.Choice.{determined}
use Rattle.octets.proofs.read.part.Reads as part
use Rattle.octets.proofs.read.byte_at.Reads as byte_at
use Rattle.octets.proofs.word.word_at.Reads as word-at
use Rattle.octets.proofs.copy.lay_byte.Reads as lay-byte
use Rattle.octets.proofs.copy.lay.Reads as lay
use Rattle.octets.proofs.word.lay_word.Reads as lay-word

pub byte_at_determined : (κs : Lfts 1) (a : _) (r q : ℕ) (e f : _)
    → byte_at.Post κs a r e → byte_at.Post κs a q f → r ≡ q
byte_at_determined κs a r q e f p o = determined p o

-- in every byte order
pub word_at_determined : (O L o d : _) (κs : Lfts 2) (a : _) (r q : ℕ) (e f : _)
    → word-at.Post O L o d κs a r e → word-at.Post O L o d κs a q f → r ≡ q
word_at_determined O L o d κs a r q e f p q' = determined p q'

-- the part shows the same bytes; where it lies is not said
pub part_determined : (κs : Lfts 1) (a r q e f : _) → part.Post κs a r e → part.Post κs a q f → r.now ≡ q.now
part_determined κs a r q e f p o = determined p o

-- Of the calls that lay bytes: the whole list at exit.
pub lay_byte_determined : (κs : Lfts 1) (a r q e f : _)
    → lay-byte.Post κs a r e → lay-byte.Post κs a q f → e.0.now ≡ f.0.now
lay_byte_determined κs a r q e f p o = determined p o

pub lay_determined : (κs : Lfts 2) (a r q e f : _) → lay.Post κs a r e → lay.Post κs a q f → e.0.now ≡ f.0.now
lay_determined κs a r q e f p o = determined p o

pub lay_word_determined : (O L o d : _) (κs : Lfts 2) (a r q e f : _)
    → lay-word.Post O L o d κs a r e → lay-word.Post O L o d κs a q f → e.0.now ≡ f.0.now
lay_word_determined O L o d κs a r q e f p q' = determined p q'

-- No call asks anything of its arguments first, nor do the words in either order. Of the type of another byte order
-- they ask only that it outlives the call, as Rust asks of every type parameter.
pub no_requires : ((κs : Lfts 1) (a : _) → byte_at.Pre κs a)
    × ((L o d : _) (κs : Lfts 2) (a : _) → word-at.Pre low_first.the_row L o d κs a)
    × ((L o d : _) (κs : Lfts 2) (a : _) → word-at.Pre high_first.the_row L o d κs a)
    × ((O : RattleType) (L o d : _) (κs : Lfts 2) (a : _) → κs.1.0 ⊑ O.lives → word-at.Pre O L o d κs a)
    × ((κs : Lfts 1) (a : _) → part.Pre κs a)
    × ((κs : Lfts 1) (a : _) → lay-byte.Pre κs a)
    × ((κs : Lfts 2) (a : _) → lay.Pre κs a)
    × ((L o d : _) (κs : Lfts 2) (a : _) → lay-word.Pre low_first.the_row L o d κs a)
    × ((L o d : _) (κs : Lfts 2) (a : _) → lay-word.Pre high_first.the_row L o d κs a)
    × ((O : RattleType) (L o d : _) (κs : Lfts 2) (a : _) → κs.1.0 ⊑ O.lives → lay-word.Pre O L o d κs a)
no_requires = (
  (λ κs a. tt),
  (λ L o d κs a. ⊑_static _),
  (λ L o d κs a. ⊑_static _),
  (λ O L o d κs a h. h),
  (λ κs a. tt),
  (λ κs a. tt),
  (λ κs a. tt),
  (λ L o d κs a. ⊑_static _),
  (λ L o d κs a. ⊑_static _),
  (λ O L o d κs a h. h),
)
