-- `octets::word::lay_word` meets its contract: four bytes at once where they fit, else one by one.
-- Assumes nothing.
use mathlib.Core.Path.{◌≡◌, refl, ap, sym, ◌∙◌}
use mathlib.Core.List.{List, [], ◌∷◌}
use Prim.Native.Nat.{ℕ}
use native.Mathlib.Omega.{arith}
use lib.ListN.{get_or, length-take, length-drop}
use Rattle.octets.specs.Bytes.{laid}
use Rattle.octets.specs.Words.{Order, low_first, high_first, word_bytes}
use Rattle.octets.proofs.Laid.{laid_past, laid_copied, laid_four}
use Rattle.octets.proofs.word.lay_word.Goals as goal

-- a list's first four entries
abbrev four : List ℕ → List ℕ
four s = get_or s 0 0 ∷ get_or s 1 0 ∷ get_or s 2 0 ∷ get_or s 3 0 ∷ []

all_four : (o : Order) (w : ℕ) → four (word_bytes o w) ≡ word_bytes o w
unfolding word_bytes
all_four low_first w = refl
all_four high_first w = refl

pub returns-then-out-at : goal.returns-then-out-at
returns-then-out-at g c = sym (laid_past _ _ _ c.if-out-at.true)

pub returns-then-out-at-ge4 : goal.returns-then-out-at-ge4
returns-then-out-at-ge4 g c =
    let copied = simp (length-take, length-drop) at c.copy_from_slice.ensures.len in
    laid_copied c.args.out.now c.args.at _ _ (omega arith) (omega arith)
    ∙ ap (laid c.args.out.now c.args.at) (c.copy_from_slice.ensures.after ∙ c.bytes-bytes.ensures)

pub returns-else-out-at-ge4 : goal.returns-else-out-at-ge4
returns-else-out-at-ge4 g c =
    rw (
      c.lay_byte-else-out-at-ge4-3.ensures,
      c.lay_byte-else-out-at-ge4-2.ensures,
      c.lay_byte-else-out-at-ge4.ensures,
      c.lay_byte.ensures,
    )
    (laid_four _ _ _ _ _ _ ∙ ap (laid c.args.out.now c.args.at) (ap four c.bytes-bytes.ensures ∙ all_four _ _))
