-- The order of writing's checks: the first that fails gives the number, and a packet that may be written passes all.
-- Assumes nothing.
use mathlib.Core.Path.{◌≡◌, refl, ap}
use mathlib.Core.List.{List}
use Prim.Native.Nat.{ℕ, ◌+◌, ◌≤◌}
use native.Mathlib.Omega.{arith}
use lib.Dec.{eqb}
use Rattle.octets.specs.Checks.{Check}
use Rattle.octets.proofs.Checks.{none_failing, all_hold, tests}
use Rattle.smbus.specs.Writing.{frame_size, write_order, write_refusal}

-- All that the number 0 says of a packet and an output, a line for each check.
pub record Good (most room size destination source : ℕ) : Type 0 where
  pub least : 64 ≤ most
  pub largest : most ≤ 246
  pub to : destination ≤ 127
  pub by : source ≤ 127
  pub short : 5 ≤ size
  pub long : size ≤ 4 + most
  pub space : frame_size size ≤ room

module _ (most room size destination source : ℕ) where
  abbrev order : List (Check ℕ)
  order = write_order most room size destination source

  pub good_number : Good most room size destination source → write_refusal most room size destination source ≡ 0
  unfolding write_refusal
  good_number g = none_failing order 0 (omega (arith, tests))

  pub good : write_refusal most room size destination source ≡ 0 → Good most room size destination source
  unfolding write_refusal
  good e =
      let held = all_hold (λ n. eqb n 0) order 0 refl (ap (λ (n : ℕ). eqb n 0) e) in
      omega (arith, tests)
