-- What stands at a place, from plain facts and back: one law for each kind of record.
-- Assumes nothing.
use mathlib.Core.Path.{◌≡◌, refl}
use mathlib.Core.List.{List}
use mathlib.Core.Logic.{by_cases}
use Prim.Native.Nat.{ℕ, ◌+◌, ◌≤◌, ◌<◌}
use native.Mathlib.Decide.{dec_lt}
use native.Mathlib.Omega.{arith}
use borrow.Author.Tests.{le-leb, lt-leb}
use lib.ListN.{length, get_or}
use Rattle.octets.specs.Bytes.{Below}
use Rattle.records.specs.declared.record.Record.{Record}
use Rattle.records.specs.declared.record.Record.TheVariants.{Whole, Cut, End}
use Rattle.records.specs.Record.{record_at}

module _ (s : List ℕ) (at : ℕ) where
  pub at_end : length s ≤ at → record_at s at ≡ End
  unfolding record_at
  at_end h = rw (le-leb (length s) at h)

  pub at_whole : at < length s → at + 1 + get_or s at 0 ≤ length s → record_at s at ≡ Whole (at + 1) (get_or s at 0)
  unfolding record_at
  at_whole h k = rw (lt-leb (length s) at h, le-leb (at + 1 + get_or s at 0) (length s) k)

  pub at_cut : at < length s → length s < at + 1 + get_or s at 0 → record_at s at ≡ Cut
  unfolding record_at
  at_cut h k = rw (lt-leb (length s) at h, lt-leb (at + 1 + get_or s at 0) (length s) k)

  -- 256 bytes hold any record: a reader with room for as many always goes on
  pub enough : Below 256 s → at + 256 ≤ length s → record_at s at ≡ Whole (at + 1) (get_or s at 0)
  enough b h = at_whole (omega arith) (omega (arith, b at))

-- a whole record lies in the list
pub record Stands (s : List ℕ) (at start size : ℕ) : Type 0 where
  pub inside : at < length s
  pub follows : start ≡ at + 1
  pub counted : size ≡ get_or s at 0
  pub ends : start + size ≤ length s

-- a record cut short: its length byte is there, its bytes are not
pub record Short (s : List ℕ) (at : ℕ) : Type 0 where
  pub inside : at < length s
  pub runs_past : length s < at + 1 + get_or s at 0

-- what each kind says of the list
abbrev pub Tells : List ℕ → ℕ → Record → Type 0
Tells s at (Whole start size) = Stands s at start size
Tells s at Cut = Short s at
Tells s at End = length s ≤ at

-- each kind tells what stands there
pub told : (s : List ℕ) (at : ℕ) → Tells s at (record_at s at)
told s at =
    by_cases (dec_lt at (length s))
    (λ (h : at < length s).
    by_cases (dec_lt (length s) (at + 1 + get_or s at 0))
    (λ (k : length s < at + 1 + get_or s at 0). rw (at_cut s at h k) (record { inside = h; runs_past = k }))
    (λ (k : length s < at + 1 + get_or s at 0 → ⊥).
    rw (at_whole s at h (omega arith)) (record { inside = h; follows = refl; counted = refl; ends = omega arith })))
    (λ (h : at < length s → ⊥). rw (at_end s at (omega arith)) (omega arith))
