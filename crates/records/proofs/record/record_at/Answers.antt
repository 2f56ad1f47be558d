-- `records::record::record_at` meets its contract.
-- Assumes nothing.
use native.Mathlib.Omega.{arith}
use mathlib.Core.Path.{sym, ◌≡◌, ◌∙◌}
use lib.ListN.{length, get_or}
use Prim.Native.Nat.{◌<◌}
use Rattle.records.proofs.Records.{at_end, at_whole, at_cut}
use Rattle.records.proofs.record.record_at.Goals as goal

pub returns-in_default : goal.returns-in_default
returns-in_default c = let a = c.args in sym (at_end a.s.now a.at (omega (arith, c.in_default.ensures.lookup)))

pub returns-then-start-size : goal.returns-then-start-size
returns-then-start-size c =
    let a = c.args in
    let inside : a.at < length a.s.now = omega (arith, c.in-Some.ensures.lookup) in
    let size : c.from-size.result ≡ get_or a.s.now a.at 0 =
    c.from-size.ensures ∙ c.in-Some.ensures.lookup.3.1 0 in
    rw size (sym (at_whole a.s.now a.at inside (omega arith)))

pub returns-else-start-size : goal.returns-else-start-size
returns-else-start-size c =
    let a = c.args in
    let inside : a.at < length a.s.now = omega (arith, c.in-Some.ensures.lookup) in
    let size : c.from-size.result ≡ get_or a.s.now a.at 0 =
    c.from-size.ensures ∙ c.in-Some.ensures.lookup.3.1 0 in
    sym (at_cut a.s.now a.at inside (omega arith))
