-- The order of writing: the check that fails first gives the number; `Good` is all that the number 0 says; and the
-- words laid one after the other.
-- Assumes nothing.
use mathlib.Core.Path.{◌≡◌, refl, sym, ◌∙◌}
use mathlib.Core.Bool.{Bool, true, false}
use Rattle.std.specs.Int.{from_bool}
use mathlib.Core.List.{List, ◌++◌}
use Prim.Native.Nat.{ℕ, ◌+◌, ◌≤◌}
use native.Mathlib.Omega.{arith}
use borrow.Author.Tests.{eq-eqb, ne_eqb}
use lib.Dec.{eqb}
use lib.ListN.{length, length-append}
use Rattle.octets.specs.Bytes.{laid, fronted}
use Rattle.octets.specs.Words.{low_first, word_bytes}
use Rattle.octets.proofs.Checks.{none_failing, all_hold, tests}
use Rattle.octets.proofs.Laid.{laid-append, laid_front}
use Rattle.pcc.specs.Layout.{signature_of, flags_of, length_of, command, region_of}
use Rattle.pcc.specs.Writing.{write_order, write_refusal, written_of}

-- all that the number 0 says of a packet of `size` for a region of `room`
pub record Good (most room id size : ℕ) : Type 0 where
  pub least : 64 ≤ most
  pub largest : most ≤ 246
  pub subspace : id ≤ 255
  pub short : 5 ≤ size
  pub long : size ≤ 4 + most
  pub region : 84 ≤ room
  pub held : 16 + size ≤ room

module _ (most room id size : ℕ) where
  pub good_number : Good most room id size → write_refusal most room id size ≡ 0
  unfolding write_refusal
  good_number g = none_failing (write_order most room id size) 0 (omega (arith, tests))

  pub good : write_refusal most room id size ≡ 0 → Good most room id size
  unfolding write_refusal
  good e =
      let hold = all_hold (λ n. eqb n 0) (write_order most room id size) 0 refl (eq-eqb _ 0 e) in omega (arith, tests)

-- a flag as a word
flag_word : (notify : Bool) → from_bool notify ≡ flags_of notify
flag_word true = refl
flag_word false = refl

-- the words and the two pieces of the packet, laid one after the other, make the front
pub filled : (region header body : List ℕ) (id : ℕ) (notify : Bool)
    → 16 + (length header + length body) ≤ length region
    → let one = laid region 0 (word_bytes low_first (signature_of id)) in
    let two = laid one 4 (word_bytes low_first (from_bool notify)) in
    let three = laid two 8 (word_bytes low_first (length_of (length header + length body))) in
    let four = laid three 12 (word_bytes low_first command) in
    laid (laid four 16 header) (16 + length header) body ≡ fronted region (region_of id notify (header ++ body))
unfolding region_of word_bytes
filled region header body id notify h =
    let packet = header ++ body in
    let size : length packet ≡ length header + length body = length-append header body in
    rw (flag_word notify, sym size)
    (sym
    (laid-append region 0 (word_bytes low_first (signature_of id)) _
    ∙ laid-append _ 4 (word_bytes low_first (flags_of notify)) _
    ∙ laid-append _ 8 (word_bytes low_first (length_of (length packet))) _
    ∙ laid-append _ 12 (word_bytes low_first command) packet
    ∙ laid-append _ 16 header body)
    ∙ laid_front region (region_of id notify packet) (omega arith))

module _ (region packet : List ℕ) (id : ℕ) (notify : Bool) where
  -- written where nothing is refused
  pub written_whole : (most : ℕ) → write_refusal most (length region) id (length packet) ≡ 0
      → written_of most region id notify packet ≡ fronted region (region_of id notify packet)
  unfolding written_of
  written_whole most e = rw e

  -- else all unchanged
  pub written_refused : (most : ℕ) → 1 ≤ write_refusal most (length region) id (length packet)
      → written_of most region id notify packet ≡ region
  unfolding written_of
  written_refused most h =
      rw (ne_eqb (write_refusal most (length region) id (length packet)) 0
      (λ (e : write_refusal most (length region) id (length packet) ≡ 0). omega arith))
