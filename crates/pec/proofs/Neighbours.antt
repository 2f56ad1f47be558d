-- What a checked list can't have: ones within eight neighbouring wire bits, and zeros alone before and behind them.
-- Assumes nothing.
use mathlib.Core.Path.{◌≡◌, refl, sym, ap, ◌∙◌}
use mathlib.Core.Bool.{Bool, not, ◌&&◌}
use mathlib.Core.List.{List, [], ◌∷◌}
use Prim.Native.Nat.{ℕ, zero, suc, ◌+◌, ◌*◌, ◌≤◌, ◌<◌}
use native.Mathlib.Nat.{not-suc-le-zero}
use native.Mathlib.Omega.{arith}
use lib.Bits.{bit_xor}
use lib.Dec.{T, eqb, T_not, lit<}
use lib.ListN.{get_or}
use Rattle.octets.specs.Bytes.{Below}
use Rattle.pec.specs.Remainder.{low_terms, poly_step}
use Rattle.pec.specs.Wire.{wire}
use Rattle.pec.proofs.Bitwise.{bit_step, bits_from, bit_byte, pec_bits}
use Rattle.pec.proofs.Checks.{Checked, poly_zero, checked_zero}
use Rattle.pec.proofs.Tests.{both}
use Rattle.pec.proofs.WireBits.{Bits, wire_bits}

-- From place n on there are zeros alone.
abbrev ZeroFrom : ℕ → List ℕ → Type 0
ZeroFrom n xs = (k : ℕ) → n ≤ k → get_or xs k 0 ≡ 0

-- Zeros lead from a byte to 0 only at 0.
silent : (xs : List ℕ) (r : ℕ) → r < 256 → ZeroFrom 0 xs → bits_from r xs ≡ 0 → r ≡ 0
unfolding bits_from bit_step
silent [] r h z e = e
silent (x ∷ xs) r h z e =
    let x0 : x ≡ 0 = z 0 (omega arith) in
    let next : poly_step (bit_xor (x * 128) r) ≡ 0 =
    silent xs (poly_step (bit_xor (x * 128) r)) (bit_byte r x) (λ k l. z (suc k) (omega arith)) e in
    poly_zero r h (ap (λ (y : ℕ). poly_step (bit_xor (y * 128) r)) (sym x0) ∙ next)

-- No n bits or fewer lead from r to 0.
survives : ℕ → ℕ → Bool
survives zero r = not (eqb r 0)
survives (suc n) r = not (eqb r 0) && (survives n (bit_step r 0) && survives n (bit_step r 1))

-- A single bit gives the low terms, and no seven bits or fewer after it give 0.
seven_test : T (survives 7 low_terms)
unfolding survives bit_step poly_step
seven_test = tt

nonzero : (r : ℕ) → T (not (eqb r 0)) → r ≡ 0 → ⊥
nonzero r t e = T_not (eqb r 0) t (rw e tt)

survives_on : (n r : ℕ) → T (survives (suc n) r)
    → T (not (eqb r 0)) × T (survives n (bit_step r 0)) × T (survives n (bit_step r 1))
unfolding survives
survives_on n r t =
    let later : T (survives n (bit_step r 0) && survives n (bit_step r 1)) =
    (both (not (eqb r 0)) (survives n (bit_step r 0) && survives n (bit_step r 1)) t).1 in (
      (both (not (eqb r 0)) (survives n (bit_step r 0) && survives n (bit_step r 1)) t).0,
      (both (survives n (bit_step r 0)) (survives n (bit_step r 1)) later).0,
      (both (survives n (bit_step r 0)) (survives n (bit_step r 1)) later).1,
    )

alive : (n r : ℕ) (xs : List ℕ) → r < 256 → T (survives n r) → Bits xs → ZeroFrom n xs → bits_from r xs ≡ 0 → ⊥
unfolding survives bits_from
alive zero r xs h t b z e = nonzero r t (silent xs r h z e)
alive (suc n) r [] h t b z e = nonzero r (survives_on n r t).0 e
alive (suc n) r (zero ∷ xs) h t b z e =
    alive n (bit_step r 0) xs (bit_byte r 0) (survives_on n r t).1 (λ k. b (suc k)) (λ k l. z (suc k) (omega arith)) e
alive (suc n) r (suc zero ∷ xs) h t b z e =
    alive n (bit_step r 1) xs (bit_byte r 1) (survives_on n r t).2 (λ k. b (suc k)) (λ k l. z (suc k) (omega arith)) e
alive (suc n) r (suc (suc x) ∷ xs) h t b z e = absurd (omega (arith, b 0))

-- Bits that are zero but for n neighbours, eight at most, lead from 0 to 0 only if they are all zero.
heard : (from n : ℕ) (xs : List ℕ) → n ≤ 8 → Bits xs → ((k : ℕ) → k < from → get_or xs k 0 ≡ 0) → ZeroFrom (from + n) xs
    → bits_from 0 xs ≡ 0 → (k : ℕ) → get_or xs k 0 ≡ 0
unfolding bits_from bit_step poly_step
heard from n [] h b f z e k = refl
heard (suc from) n (x ∷ xs) h b f z e zero = f 0 (omega arith)
heard (suc from) n (x ∷ xs) h b f z e (suc k) =
    heard from n xs h (λ j. b (suc j)) (λ j l. f (suc j) (omega arith)) (λ j l. z (suc j) (omega arith))
    (ap (λ (y : ℕ). bits_from (bit_step 0 y) xs) (sym (f 0 (omega arith))) ∙ e) k
heard zero zero (x ∷ xs) h b f z e k = z k (omega arith)
heard zero (suc n) (zero ∷ xs) h b f z e zero = refl
heard zero (suc n) (zero ∷ xs) h b f z e (suc k) =
    heard zero n xs (omega arith) (λ j. b (suc j)) (λ j l. absurd (not-suc-le-zero l))
    (λ j l. z (suc j) (omega arith)) e k
heard zero (suc n) (suc zero ∷ xs) h b f z e k =
    absurd (alive 7 low_terms xs (lit< tt) seven_test (λ j. b (suc j)) (λ j l. z (suc j) (omega arith)) e)
heard zero (suc n) (suc (suc x) ∷ xs) h b f z e k = absurd (omega (arith, b 0))

-- A checked list of bytes whose wire bits are zero but for eight neighbours at most has zeros alone: the polynomial has
-- degree 8 and a constant term, so what the first one leaves is undone by no seven bits, and by no zeros after them.
pub zeros_alone : (s : List ℕ) → Below 256 s → Checked s → (from n : ℕ) → n ≤ 8
    → ((k : ℕ) → k < from → get_or (wire s) k 0 ≡ 0) → ZeroFrom (from + n) (wire s) → (k : ℕ) → get_or (wire s) k 0 ≡ 0
zeros_alone s b c from n h f z = heard from n (wire s) h (wire_bits s) f z (sym (pec_bits s b) ∙ checked_zero s c)
