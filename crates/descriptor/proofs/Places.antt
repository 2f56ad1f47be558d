-- Places that overlap nowhere: the test is the fact.
-- Assumes nothing.
use mathlib.Core.Path.{◌≡◌}
use mathlib.Core.Bool.{true, or-true}
use mathlib.Core.Logic.{◌⊎◌, inl, inr}
use Prim.Native.Nat.{◌≤◌}
use borrow.Author.Tests.{leb-true, le-leb}
use lib.Dec.{leb}
use Rattle.std.proofs.lemmas.Bool.{or_cases}
use Rattle.descriptor.specs.declared.place.Place.{Place}
use Rattle.descriptor.specs.Places.{end_of, apart}

abbrev pub Apart : Place → Place → Type 0
Apart p q = (end_of p ≤ q.offset) ⊎ (end_of q ≤ p.offset)

pub apart_fact : (p q : Place) → apart p q ≡ true → Apart p q
apart_fact p q e = fact (or_cases _ _ e)
  where
    fact : (leb (end_of p) q.offset ≡ true) ⊎ (leb (end_of q) p.offset ≡ true) → Apart p q
    fact (inl h) = inl (leb-true _ _ h)
    fact (inr h) = inr (leb-true _ _ h)

pub apart_holds : (p q : Place) → Apart p q → apart p q ≡ true
apart_holds p q (inl h) = rw (le-leb (end_of p) q.offset h)
apart_holds p q (inr h) = rw (le-leb (end_of q) p.offset h) (or-true (leb (end_of p) q.offset))
