-- The contracts leave no choice: a text has one reason, and a failure that is told has one answer. No call asks
-- anything first.
-- Assumes nothing.
use Rattle.std.proofs.Common.{rules, arith, sym, ◌∙◌, ◌≡◌, ℕ, ◌+◌, ◌<◌, length, List, [], ◌++◌, take, drop, ⊎_elim, Bor}
use Rattle.std.proofs.lemmas.List.{length-append}
use Rattle.std.proofs.Math.Seq.{drop-append_seam, take-append_seam}
use denote.RattleType.{RattleType}
use contract.Lifetimes.{Lfts}
use contract.BorrowLft.{◌⊑◌}
use Rattle.told.specs.Reason.{IsReason, number_mark}
use Rattle.told.proofs.failure.fail.Reads as fail
use Rattle.told.proofs.failure.without_number.Reads as cut
use Rattle.told.proofs.page.Page.new.Reads as new
use Rattle.told.proofs.page.Page.section.Reads as section
use Rattle.told.proofs.page.Page.line.Reads as line
use Rattle.told.proofs.page.Page.end_line.Reads as end_line

-- a reason is a front of the text
front : (text a : List ℕ) → IsReason text a → (rest : List ℕ) × (text ≡ a ++ rest)
front text a r = ⊎_elim (λ e. ([], search rules)) (λ p. (number_mark ++ p.0, p.1)) r.1

long : (text b rest : List ℕ) → text ≡ b ++ rest → length text ≡ length b + length rest
long text b rest e = rw e (length-append b rest)

behind : (text a rest : List ℕ) → text ≡ a ++ rest → drop (length a) text ≡ rest
behind text a rest e = rw e (drop-append_seam a rest)

before : (text a rest : List ℕ) → text ≡ a ++ rest → take (length a) text ≡ a
before text a rest e = rw e (take-append_seam a rest)

-- a shorter one would end at a mark, which the longer one has within
shorter : (text a b : List ℕ) → IsReason text a → IsReason text b → length a < length b → ⊥
shorter text a b r s h = ⊎_elim
    (λ (e : a ≡ text). omega (arith, long text b (front text b s).0 (front text b s).1, rw e at h))
    (λ p. s.0 (length a) h p.0 (behind text a (number_mark ++ p.0) p.1))
    r.1

same_length : (text a b : List ℕ) → IsReason text a → IsReason text b → length a ≡ length b
same_length text a b r s = omega (arith, shorter text a b r s, shorter text b a s r)

pub reason_determined : (text a b : List ℕ) → IsReason text a → IsReason text b → a ≡ b
reason_determined text a b r s = search (
  rules,
  before text a (front text a r).0 (front text a r).1,
  before text b (front text b s).0 (front text b s).1,
  same_length text a b r s,
)

pub without_number_determined : (κs : Lfts 1) (a : _) (r q : Bor (List ℕ)) (e f : _) → cut.Post κs a r e
    → cut.Post κs a q f → r.now ≡ q.now
without_number_determined κs a r q e f p o = reason_determined _ _ _ p o

pub fail_determined : (κs : Lfts 1) (a : _) (r q : Unit) (e f : _) → fail.Post κs a r e → fail.Post κs a q f → r ≡ q
fail_determined κs a r q e f p o = p ∙ sym o

-- Of the type of an answer a line asks only that it outlives the call, as Rust asks of every type parameter.
pub no_requires : ((κs : Lfts 1) (a : _) → cut.Pre κs a)
    × ((κs : Lfts 1) (a : _) → new.Pre κs a)
    × ((κs : Lfts 2) (a : _) → section.Pre κs a)
    × ((κs : Lfts 2) (a : _) → end_line.Pre κs a)
    × ((D : RattleType) (L o d e : _) (κs : Lfts 4) (a : _) → κs.1.1.0 ⊑ D.lives → line.Pre D L o d e κs a)
    × ((κs : Lfts 1) (a : _) → fail.Pre κs a)
no_requires = (
  (λ κs a. tt),
  (λ κs a. tt),
  (λ κs a. tt),
  (λ κs a. tt),
  (λ D L o d e κs a h. h),
  (λ κs a. tt),
)
