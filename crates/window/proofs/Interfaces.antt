-- What reading the words gives: pointers that are multiples of 4, and nothing at all where it is refused.
-- Assumes nothing.
use mathlib.Core.Path.{◌≡◌}
use mathlib.Core.Bool.{false}
use mathlib.Core.List.{List}
use Prim.Native.Nat.{ℕ, ◌%◌}
use native.Mathlib.Omega.{arith}
use lib.ListN.{length}
use Rattle.mmbi.specs.Interface.{flags_of}
use Rattle.mmbi.specs.Words.{word_of}
use Rattle.descriptor.specs.declared.configuration.Configuration.{Configuration}
use Rattle.window.specs.declared.word.Pointer.{Pointer}
use Rattle.descriptor.specs.Configuration.{allowed}
use Rattle.window.specs.Words.{cleared, word_where, word_in, interface_in}

-- "Pointers are byte offsets, multiples of 4."
pub pointer_aligned : (s : List ℕ) (c : Configuration) (p : Pointer) → (word_in s c p).pointer % 4 ≡ 0
unfolding word_where cleared word_of
pointer_aligned s c p = omega arith

-- refused with 1: the pointers are 0 and the flags clear
pub interface_refused : (s : List ℕ) (c : Configuration) → allowed (length s) c ≡ false
    → interface_in s c
    ≡ record {
      flags = flags_of false false false false;
      b2h = record { read = 0; write = 0 };
      h2b = record { read = 0; write = 0 };
      host_ready = false;
      controller_ready = false;
    }
unfolding interface_in word_where cleared word_of
interface_refused s c e = rw e
