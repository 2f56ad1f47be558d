-- The order of reading's checks: the first that fails gives the number, and a good frame passes all.
-- Assumes nothing.
use mathlib.Core.Path.{◌≡◌, refl, ap}
use mathlib.Core.List.{List}
use Prim.Native.Nat.{ℕ, ◌+◌, ◌/◌, ◌%◌, ◌≤◌}
use native.Mathlib.Omega.{arith}
use lib.Dec.{eqb}
use lib.ListN.{length, get_or}
use Rattle.octets.specs.Checks.{Check}
use Rattle.octets.proofs.Checks.{FailsAt, answer_at, first_failing_lem, none_failing, all_hold, tests}
use Rattle.pec.specs.Remainder.{pec_of}
use Rattle.smbus.specs.Reading.{end_of, before_end, read_order, refusal_of}

-- All that the number 0 says of a frame at `own`, a line for each check.
pub record Good (most : ℕ) (frame : List ℕ) (own : ℕ) : Type 0 where
  pub least : 64 ≤ most
  pub largest : most ≤ 246
  pub address : own ≤ 127
  pub short : 10 ≤ length frame
  pub long : length frame ≤ 9 + most
  pub bit : get_or frame 0 0 % 2 ≡ 0
  pub ours : get_or frame 0 0 / 2 ≡ own
  pub command : get_or frame 1 0 ≡ 15
  pub count : get_or frame 2 0 + 4 ≡ length frame
  pub sender : get_or frame 3 0 % 2 ≡ 1
  pub checked : end_of frame ≡ pec_of (before_end frame)

module _ (most : ℕ) (frame : List ℕ) (own : ℕ) where
  abbrev order : List (Check ℕ)
  order = read_order most frame own

  pub refused_at : (i : ℕ) → FailsAt order i → refusal_of most frame own ≡ answer_at order 0 i
  unfolding refusal_of
  refused_at = first_failing_lem order 0

  pub good_number : Good most frame own → refusal_of most frame own ≡ 0
  unfolding refusal_of
  good_number g = none_failing order 0 (omega (arith, tests))

  pub good : refusal_of most frame own ≡ 0 → Good most frame own
  unfolding refusal_of
  good e =
      let held = all_hold (λ n. eqb n 0) order 0 refl (ap (λ (n : ℕ). eqb n 0) e) in
      omega (arith, tests)
