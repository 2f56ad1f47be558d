-- Digits laid from the last to the first: what is laid, and what is to come.
-- Assumes nothing.
use mathlib.Core.Path.{◌≡◌, refl, ap, sym, ◌∙◌}
use mathlib.Core.List.{List, [], ◌∷◌, ◌++◌, append_assoc, append-nil}
use Prim.Native.Nat.{ℕ, suc, ◌+◌, ◌-◌, ◌/◌, ◌%◌, ◌^◌, ◌≤◌, ◌<◌}
use mathlib.Core.Logic.{by_cases}
use native.Mathlib.Decide.{dec_lt}
use native.Mathlib.Nat.{mod-eq_of_lt}
use native.Mathlib.Omega.{arith}
use lib.ListN.{length}
use Rattle.octets.specs.Bytes.{laid}
use Rattle.records.specs.Decimal.{decimal}
use Rattle.octets.proofs.Laid.{laid_in_front}
use Rattle.records.proofs.Decimals.{decimal_one, decimal_more, decimal_some, count_one, count_more}

-- over l the last digits of n are laid, from place `behind` on; those of `rest` are to come in front of it
pub record Laying (l : List ℕ) (at n behind rest : ℕ) (out : List ℕ) : Type 0 where
  pub tail : List ℕ
  pub stored : out ≡ laid l behind tail
  pub whole : decimal rest ++ tail ≡ decimal n
  pub counted : behind ≡ at + length (decimal rest)

pub laying_none : (l : List ℕ) (at n count : ℕ) → count ≡ length (decimal n) → Laying l at n (at + count) n l
unfolding laid
laying_none l at n count e =
    record { tail = []; stored = refl; whole = append-nil (decimal n); counted = ap (λ (k : ℕ). at + k) e }

-- a number of more than one digit, and of one
many : (n : ℕ) → 2 ≤ length (decimal n) → 10 ≤ n
many n h =
    by_cases (dec_lt n 10)
    (λ (few : n < 10). absurd (omega (arith, count_one n few)))
    (λ (few : n < 10 → ⊥). omega arith)

single : (n : ℕ) → n < 10 ^ 20 → length (decimal n) ≤ 1 → n < 10
single n h one =
    by_cases (dec_lt n 10)
    (λ (few : n < 10). few)
    (λ (few : n < 10 → ⊥). absurd (omega (arith, count_more n h (omega arith), decimal_some (n / 10))))

module _ {l : List ℕ} {at n behind rest : ℕ} {out : List ℕ} (y : Laying l at n behind rest out)
    (h : rest < 10 ^ 20) where
  -- one more: the last digit that was to come
  pub laying_more : at + 1 < behind
      → Laying l at n (behind - 1) (rest / 10) (laid out (behind - 1) ((48 + rest % 10) ∷ []))
  laying_more m =
      let more : 10 ≤ rest = many rest (omega (arith, y.counted)) in
      let place : behind ≡ suc (behind - 1) = omega arith in
      record {
        tail = (48 + rest % 10) ∷ y.tail;
        stored =
            ap (λ (o : List ℕ). laid o (behind - 1) ((48 + rest % 10) ∷ []))
            (y.stored ∙ ap (λ (k : ℕ). laid l k y.tail) place)
            ∙ laid_in_front l (behind - 1) y.tail (48 + rest % 10);
        whole =
            sym (append_assoc (decimal (rest / 10)) ((48 + rest % 10) ∷ []) y.tail)
            ∙ ap (λ (d : List ℕ). d ++ y.tail) (sym (decimal_more rest h more))
            ∙ y.whole;
        counted = omega (arith, y.counted, count_more rest h more);
      }

  -- the first digit of all
  pub laying_last : behind ≤ at + 1 → laid out at ((48 + rest % 10) ∷ []) ≡ laid l at (decimal n)
  laying_last m =
      let few : rest < 10 = single rest h (omega (arith, y.counted)) in
      let place : behind ≡ suc at = omega (arith, y.counted, count_one rest few) in
      rw (y.stored, place, mod-eq_of_lt few, sym y.whole, decimal_one rest few)
      (laid_in_front l at y.tail (48 + rest))
