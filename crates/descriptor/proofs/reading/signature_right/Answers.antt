-- `descriptor::reading::signature_right` meets its contract: a byte past the end is no letter.
-- Assumes nothing.
use mathlib.Core.Path.{◌≡◌, refl, ◌∙◌}
use mathlib.Core.Bool.{and_assoc, and-false, and-true}
use mathlib.Core.List.{List, [], ◌∷◌}
use Prim.Native.Nat.{ℕ}
use native.Mathlib.Omega.{arith}
use lib.Dec.{eqb}
use Rattle.std.specs.List.{starts_with}
use Rattle.descriptor.specs.Reading.{signature_right}
use Rattle.descriptor.proofs.reading.signature_right.Goals as goal

abbrev letters : List ℕ
letters = 35 ∷ 77 ∷ 77 ∷ 66 ∷ 73 ∷ 36 ∷ []

same : (a b : ℕ) → eqb a b ≡ eqb b a
same a b = grind arith

signed : (s : List ℕ) → starts_with eqb s letters ≡ signature_right s
unfolding signature_right
signed [] = refl
signed (a ∷ []) = simp (and-false)
signed (a ∷ b ∷ []) = simp (and-false)
signed (a ∷ b ∷ c ∷ []) = simp (and-false)
signed (a ∷ b ∷ c ∷ d ∷ []) = simp (and-false)
signed (a ∷ b ∷ c ∷ d ∷ e ∷ []) = simp (and-false)
signed (a ∷ b ∷ c ∷ d ∷ e ∷ f ∷ s) =
    rw (same a 35, same b 77, same c 77, same d 66, same e 73, same f 36) (simp (and_assoc, and-true))

pub returns : goal.returns
returns c = c.starts_with.ensures.value ∙ signed c.args.window.now
