-- When a list is checked: its last byte is the PEC of the rest, which for bytes is to say that its own PEC is 0.
-- The bitwise sum of two checked lists is checked.
-- Assumes nothing.
use mathlib.Core.Path.{◌≡◌, refl, sym, ap, ap₂, ◌∙◌}
use mathlib.Core.Bool.{Bool, not}
use mathlib.Core.List.{List, [], ◌∷◌, ◌++◌}
use Prim.Native.Nat.{ℕ, zero, suc, ◌-◌, ◌<◌}
use native.Mathlib.Omega.{arith}
use lib.Bits.{bit_xor, xor_lt, xor_self}
use lib.Dec.{T, T_not, eqb}
use lib.ListN.{length, take, get_or, length-append}
use lib.Seq.{take-suc, take_all, take_at, get_or_at}
use Rattle.octets.specs.Bytes.{Below}
use Rattle.pec.specs.Remainder.{poly_step, eight_steps, byte_step, pec_of}
use Rattle.pec.proofs.Fold.{poly_byte, pec_byte, pec_last}
use Rattle.pec.proofs.Sum.{plus, plus-length, plus_bytes, pec_plus}
use Rattle.pec.proofs.Tests.{below, passed}
use Rattle.pec.proofs.Xor.{xor_equal}

-- "Then the packet, then the PEC." The last byte is the PEC of all bytes before it.
pub record Checked (s : List ℕ) : Type 0 where
  pub rest : List ℕ
  pub ends : s ≡ rest ++ (pec_of rest ∷ [])

-- A list with its PEC behind it is checked.
pub checked_made : (rest : List ℕ) → Checked (rest ++ (pec_of rest ∷ []))
checked_made rest = record { rest = rest; ends = refl }

-- A list of one element or more is its front and its last.
pub front_last : (s : List ℕ) → 0 < length s → s ≡ take (length s - 1) s ++ (get_or s (length s - 1) 0 ∷ [])
front_last s h = sym (take_all (suc (length s - 1)) s (omega arith)) ∙ take-suc s (length s - 1) 0 (omega arith)

-- As a reader tests it: the last byte against the PEC of the front.
pub checked_of : (s : List ℕ) → 0 < length s → get_or s (length s - 1) 0 ≡ pec_of (take (length s - 1) s) → Checked s
checked_of s h e =
    record {
      rest = take (length s - 1) s;
      ends = front_last s h ∙ ap (λ (b : ℕ). take (length s - 1) s ++ (b ∷ [])) e;
    }

pub checked_last : (s : List ℕ) → Checked s → get_or s (length s - 1) 0 ≡ pec_of (take (length s - 1) s)
checked_last s k =
    let n : length k.rest ≡ length s - 1 =
    omega (arith, ap length k.ends ∙ length-append k.rest (pec_of k.rest ∷ [])) in
    ap (λ (t : List ℕ). get_or t (length s - 1) 0) k.ends
    ∙ get_or_at k.rest (pec_of k.rest) [] 0 (length s - 1) n
    ∙ ap pec_of (sym (take_at k.rest (pec_of k.rest ∷ []) (length s - 1) n)
    ∙ ap (take (length s - 1)) (sym k.ends))

-- A step leads from a byte to 0 only at 0.
stays : ℕ → Bool
unfolding poly_step
stays k = not (eqb (poly_step (suc k)) 0)

stays_test : T (below stays 255)
unfolding stays
stays_test = tt

pub poly_zero : (r : ℕ) → r < 256 → poly_step r ≡ 0 → r ≡ 0
unfolding stays
poly_zero zero h e = refl
poly_zero (suc k) h e =
    absurd (T_not (eqb (poly_step (suc k)) 0) (passed stays 255 stays_test k (omega arith)) (rw e tt))

again : (r : ℕ) → poly_step (poly_step r) ≡ 0 → poly_step r ≡ 0
again r e = poly_zero (poly_step r) (poly_byte r) e

eight-zero : (r : ℕ) → r < 256 → eight_steps r ≡ 0 → r ≡ 0
unfolding eight_steps
eight-zero r h e =
    poly_zero r h (again _ (again _ (again _ (again _ (again _ (again _ (again _ e)))))))

-- A checked list has the PEC 0.
pub checked_zero : (s : List ℕ) → Checked s → pec_of s ≡ 0
unfolding byte_step eight_steps poly_step
checked_zero s k =
    ap pec_of k.ends ∙ pec_last k.rest (pec_of k.rest) ∙ ap eight_steps (xor_self (pec_of k.rest))

-- And a list of bytes, one or more, that has the PEC 0 is checked.
pub zero_checked : (s : List ℕ) → Below 256 s → 0 < length s → pec_of s ≡ 0 → Checked s
unfolding byte_step
zero_checked s b h e =
    let front = take (length s - 1) s in
    let end = get_or s (length s - 1) 0 in
    let sum : eight_steps (bit_xor (pec_of front) end) ≡ 0 = sym (ap pec_of (front_last s h) ∙ pec_last front end)
    ∙ e in
    checked_of s h
    (sym (xor_equal (pec_of front) end
    (eight-zero (bit_xor (pec_of front) end) (xor_lt 8 (pec_of front) end (pec_byte front) (b (length s - 1))) sum)))

-- The one law of two lists' bitwise sum, on which both rules on wrong bits rest: it is checked if both are.
pub checked_plus : (s t : List ℕ) → length s ≡ length t → Below 256 s → Below 256 t → Checked s → Checked t
    → Checked (plus s t)
checked_plus s t e bs bt cs ct =
    zero_checked (plus s t) (plus_bytes s t bs bt)
    (omega (arith, plus-length s t e, ap length cs.ends, length-append cs.rest (pec_of cs.rest ∷ [])))
    (pec_plus s t e ∙ ap₂ bit_xor (checked_zero s cs) (checked_zero t ct))
