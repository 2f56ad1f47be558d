-- Reading a descriptor: what each check answers, what a good one has, and the far base of document 01.
-- Assumes nothing.
use mathlib.Core.Path.{◌≡◌, refl, ap}
use mathlib.Core.Bool.{Bool, true, false, ◌&&◌, and-false}
use mathlib.Core.List.{List, [], ◌∷◌}
use mathlib.Core.Logic.{◌⊎◌, inl, inr}
use Prim.Native.Nat.{ℕ, ◌%◌, ◌^◌, ◌≤◌}
use native.Mathlib.Omega.{arith}
use borrow.Author.Tests.{le-leb, leb-true, eqb-true}
use lib.Dec.{leb}
use lib.ListN.{length, get_or}
use Rattle.std.proofs.lemmas.Bool.{false_from_ne_true}
use Rattle.octets.specs.Words.{high_first, word_at}
use Rattle.octets.proofs.Checks.{Hold, FailsAt, answer_at, first_failing_lem, none_failing, all_hold}
use Rattle.descriptor.specs.declared.configuration.Configuration.{Configuration}
use Rattle.descriptor.specs.Configuration.{allowed}
use Rattle.descriptor.specs.Reading.{signature_right, version_right, type_right, configuration_in, read_order}
use Rattle.descriptor.specs.Reading.{Described, found, refused, described_of}
use Rattle.descriptor.proofs.Configurations.{Allowed, allowed_facts, allowed_holds, each}
use Rattle.mmbi.proofs.PointerNumbers.{length_facts}

-- what makes a descriptor good
pub record Good (s : List ℕ) : Type 0 where
  pub long : 64 ≤ length s
  pub signed : signature_right s ≡ true
  pub version : get_or s 6 0 % 16 ≡ 1
  pub kind : get_or s 24 0 % 16 ≡ 1
  pub places : Allowed (length s) (configuration_in s)

-- "Base 2^29 − 1", of the ring whose base stands at this byte
abbrev pub FarBase : List ℕ → ℕ → Type 0
FarBase s at = word_at high_first s at % 536870912 ≡ 536870911

abbrev is_found : Described → Bool
is_found (found c) = true
is_found (refused n) = false

module _ (s : List ℕ) where
  -- the first check that fails answers
  pub refused_at : (i : ℕ) → FailsAt (read_order s) i
      → described_of s ≡ answer_at (read_order s) (found (configuration_in s)) i
  unfolding described_of
  refused_at i f = first_failing_lem (read_order s) (found (configuration_in s)) i f

  pub none_fails : Hold (read_order s) → described_of s ≡ found (configuration_in s)
  unfolding described_of
  none_fails h = none_failing (read_order s) (found (configuration_in s)) h

  -- "Accepted exactly if": what has every fact is accepted, and what is accepted has them (`good`)
  pub accepted : Good s → described_of s ≡ found (configuration_in s)
  unfolding described_of
  accepted g =
      rw (
        le-leb 64 (length s) g.long,
        g.signed,
        g.version,
        g.kind,
        allowed_holds (length s) (configuration_in s) g.places,
      )

  module _ (c : Configuration) (e : described_of s ≡ found c) where
    held : Hold (read_order s)
    unfolding described_of
    held = all_hold is_found (read_order s) (found (configuration_in s)) refl (ap is_found e)

    pub good : Good s
    good =
        let front = each (leb 64 (length s)) (signature_right s ∷ []) held.0 in
        let rest = each (version_right s) (type_right s ∷ allowed (length s) (configuration_in s) ∷ []) held.1.0 in
        record {
          long = leb-true _ _ (front 0);
          signed = front 1;
          version = eqb-true _ _ (rest 0);
          kind = eqb-true _ _ (rest 1);
          places = allowed_facts (length s) (configuration_in s) (rest 2);
        }

    -- a configuration that reading has found is allowed in that window
    pub found_allowed : allowed (length s) c ≡ true
    found_allowed =
        let same : configuration_in s ≡ c = cc (none_fails held, e) in
        rw same at (allowed_holds (length s) (configuration_in s) good.places)

-- up to 4 GiB no window has such a ring
never_far : (s : List ℕ) → length s ≤ 2 ^ 32 → FarBase s 8 ⊎ FarBase s 12
    → Allowed (length s) (configuration_in s) → ⊥
unfolding configuration_in
never_far s small (inl h) a = omega (arith, a.b2h, length_facts (configuration_in s).b2h.length a.b2h_right)
never_far s small (inr h) a = omega (arith, a.h2b, length_facts (configuration_in s).h2b.length a.h2b_right)

-- "Base 2^29 − 1 .. In any window up to 4 GiB it is refused with 10.": of either ring
pub far_ring : (s : List ℕ) → 64 ≤ length s → length s ≤ 2 ^ 32 → signature_right s ≡ true → FarBase s 8 ⊎ FarBase s 12
    → described_of s ≡ refused 10
unfolding described_of
far_ring s long small signed far =
    rw (
      le-leb 64 (length s) long,
      signed,
      false_from_ne_true (allowed (length s) (configuration_in s))
          (λ (e : _). never_far s small far (allowed_facts _ _ e)),
      and-false (version_right s && type_right s),
    )
