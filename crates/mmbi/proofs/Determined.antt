-- The contracts leave no choice: two results that one allows on the same input are equal.
-- Assumes nothing.
use mathlib.Core.Path.{◌≡◌}
use mathlib.Core.Bool.{Bool}
use Prim.Native.Nat.{ℕ}
use contract.Lifetimes.{Lfts}
use Rattle.octets.proofs.Choice.{determined}
use Rattle.mmbi.specs.declared.interface.Flags.{Flags}
use Rattle.mmbi.specs.declared.interface.InterfaceState.{InterfaceState}
use Rattle.mmbi.specs.declared.word.Word.{Word}
use Rattle.mmbi.specs.Interface.{same_flags}
use Rattle.mmbi.proofs.interface.Flags.changed.Reads as changed-flags
use Rattle.mmbi.proofs.word.Word.changed.Reads as changed-word
use Rattle.mmbi.proofs.interface.FlagsPartialEq.eq.Reads as equal
use Rattle.mmbi.proofs.interface.Flags.state.Reads as state
use Rattle.mmbi.proofs.interface.InterfaceState.is_transient.Reads as transient
use Rattle.mmbi.proofs.interface.InterfaceState.may_read.Reads as may_read_lem
use Rattle.mmbi.proofs.interface.InterfaceState.may_write.Reads as may_write_lem
use Rattle.mmbi.proofs.pointer.length_right.Reads as length-right
use Rattle.mmbi.proofs.pointer.pointer_right.Reads as pointer-right
use Rattle.mmbi.proofs.word.WordFromU32.from.Reads as of_number
use Rattle.mmbi.proofs.word.U32FromWord.from.Reads as number

pub state_determined : (κs : Lfts 0) (a : _) (r q : InterfaceState) (e f : _)
    → state.Post κs a r e → state.Post κs a q f → r ≡ q
state_determined κs a r q e f p o = determined p o

-- the `==` of flags answers what the definition does
pub equal_says : (κs : Lfts 2) (a : _) (r : Bool) (e : _) → equal.Post κs a r e
    → r ≡ same_flags a.0.now a.1.0.now
equal_says κs a r e p = p

pub equal_determined : (κs : Lfts 2) (a : _) (r q : Bool) (e f : _)
    → equal.Post κs a r e → equal.Post κs a q f → r ≡ q
equal_determined κs a r q e f p o = determined p o

pub changed_flags_determined : (κs : Lfts 0) (a : _) (r q : Flags) (e f : _)
    → changed-flags.Post κs a r e → changed-flags.Post κs a q f → r ≡ q
changed_flags_determined κs a r q e f p o = determined p o

pub changed_word_determined : (κs : Lfts 0) (a : _) (r q : Word) (e f : _)
    → changed-word.Post κs a r e → changed-word.Post κs a q f → r ≡ q
changed_word_determined κs a r q e f p o = determined p o

pub transient_determined : (κs : Lfts 0) (a : _) (r q : Bool) (e f : _)
    → transient.Post κs a r e → transient.Post κs a q f → r ≡ q
transient_determined κs a r q e f p o = determined p o

pub may_read_determined : (κs : Lfts 0) (a : _) (r q : Bool) (e f : _)
    → may_read_lem.Post κs a r e → may_read_lem.Post κs a q f → r ≡ q
may_read_determined κs a r q e f p o = determined p o

pub may_write_determined : (κs : Lfts 0) (a : _) (r q : Bool) (e f : _)
    → may_write_lem.Post κs a r e → may_write_lem.Post κs a q f → r ≡ q
may_write_determined κs a r q e f p o = determined p o

pub of_number_determined : (κs : Lfts 0) (a : _) (r q : Word) (e f : _)
    → of_number.Post κs a r e → of_number.Post κs a q f → r ≡ q
of_number_determined κs a r q e f p o = determined p o

pub number_determined : (κs : Lfts 0) (a : _) (r q : ℕ) (e f : _) → number.Post κs a r e → number.Post κs a q f → r ≡ q
number_determined κs a r q e f p o = determined p o

pub length_right_determined : (κs : Lfts 0) (a : _) (r q : Bool) (e f : _)
    → length-right.Post κs a r e → length-right.Post κs a q f → r ≡ q
length_right_determined κs a r q e f p o = determined p o

pub pointer_right_determined : (κs : Lfts 0) (a : _) (r q : Bool) (e f : _)
    → pointer-right.Post κs a r e → pointer-right.Post κs a q f → r ≡ q
pointer_right_determined κs a r q e f p o = determined p o

-- No call asks anything of its arguments first.
pub no_requires : ((κs : Lfts 0) (a : _) → state.Pre κs a)
    × ((κs : Lfts 2) (a : _) → equal.Pre κs a)
    × ((κs : Lfts 0) (a : _) → changed-flags.Pre κs a)
    × ((κs : Lfts 0) (a : _) → changed-word.Pre κs a)
    × ((κs : Lfts 0) (a : _) → transient.Pre κs a)
    × ((κs : Lfts 0) (a : _) → may_read_lem.Pre κs a)
    × ((κs : Lfts 0) (a : _) → may_write_lem.Pre κs a)
    × ((κs : Lfts 0) (a : _) → length-right.Pre κs a)
    × ((κs : Lfts 0) (a : _) → pointer-right.Pre κs a)
    × ((κs : Lfts 0) (a : _) → of_number.Pre κs a)
    × ((κs : Lfts 0) (a : _) → number.Pre κs a)
no_requires = (
  (λ κs a. tt),
  (λ κs a. tt),
  (λ κs a. tt),
  (λ κs a. tt),
  (λ κs a. tt),
  (λ κs a. tt),
  (λ κs a. tt),
  (λ κs a. tt),
  (λ κs a. tt),
  (λ κs a. tt),
  (λ κs a. tt),
)
