-- `records::decimal::lay_decimal` meets its contract. The invariant: the last digits are laid, and those of `rest` are
-- to come.
-- Assumes nothing.
use Prim.Native.Nat.{◌+◌, ◌≤◌}
use Rattle.records.proofs.Laying.{Laying}
use Rattle.records.proofs.decimal.lay_decimal.Given as goal

abbrev pub invariant-loop-place : goal.invariant-loop-place
invariant-loop-place l =
    Laying l.initial.out l.at l.n l.place l.rest l.out × (l.rest ≤ l.n) × (l.at + 1 ≤ l.place)
