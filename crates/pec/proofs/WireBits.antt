-- The wire bits of a list: they are bits, as many for lists of one length; they are taken part by part; the same bits
-- come of the same bytes alone; and those of a bitwise sum are the sum of both lists' bits.
-- Assumes nothing.
use mathlib.Core.Path.{◌≡◌, refl, sym, ap, ap₂, ◌∙◌}
use mathlib.Core.Bool.{Bool}
use mathlib.Core.List.{List, [], ◌∷◌, ◌++◌, map}
use Prim.Native.Nat.{ℕ, zero, suc, ◌+◌, ◌*◌, ◌/◌, ◌%◌, ◌<◌}
use native.Mathlib.Nat.{mod-lt}
use native.Mathlib.Omega.{arith}
use lib.Bits.{bit_xor, xor_mod}
use lib.Dec.{T, eqb, eqb→eq, lit<}
use lib.ListN.{length, get_or}
use Rattle.octets.specs.Bytes.{Below}
use Rattle.pec.specs.Wire.{bits_of, wire}
use Rattle.pec.proofs.Sum.{plus, plus_at}
use Rattle.pec.proofs.Tests.{below, passed}
use Rattle.pec.proofs.Xor.{xor_bit}

-- Every element is a bit.
abbrev pub Bits : List ℕ → Type 0
Bits xs = (k : ℕ) → get_or xs k 0 < 2

odd_first : (ns xs : List ℕ) → Bits xs → Bits (map (λ n. n % 2) ns ++ xs)
odd_first [] xs b k = b k
odd_first (n ∷ ns) xs b zero = mod-lt n (lit< tt)
odd_first (n ∷ ns) xs b (suc k) = odd_first ns xs b k

-- The wire bits are bits,
pub wire_bits : (s : List ℕ) → Bits (wire s)
unfolding wire bits_of
wire_bits [] = λ k. lit< tt
wire_bits (b ∷ s) =
    odd_first (b / 128 ∷ b / 64 ∷ b / 32 ∷ b / 16 ∷ b / 8 ∷ b / 4 ∷ b / 2 ∷ b ∷ []) (wire s) (wire_bits s)

-- as many for lists of one length,
wire-length : (s t : List ℕ) → length s ≡ length t → length (wire s) ≡ length (wire t)
unfolding wire bits_of
wire-length [] [] e = refl
wire-length [] (b ∷ t) e = absurd (omega arith)
wire-length (a ∷ s) [] e = absurd (omega arith)
wire-length (a ∷ s) (b ∷ t) e =
    ap (λ (n : ℕ). suc (suc (suc (suc (suc (suc (suc (suc n)))))))) (wire-length s t (omega arith))

-- taken part by part,
pub wire-append : (s t : List ℕ) → wire (s ++ t) ≡ wire s ++ wire t
unfolding wire bits_of
wire-append [] t = refl
wire-append (b ∷ s) t = ap (λ (xs : List ℕ). bits_of b ++ xs) (wire-append s t)

-- A byte is the sum of what its bits stand for.
value_of : ℕ → ℕ
value_of b =
    b / 128 % 2 * 128 + b / 64 % 2 * 64 + b / 32 % 2 * 32 + b / 16 % 2 * 16
    + b / 8 % 2 * 8 + b / 4 % 2 * 4 + b / 2 % 2 * 2 + b % 2

value_right : ℕ → Bool
unfolding value_of
value_right b = eqb (value_of b) b

value_test : T (below value_right 256)
unfolding value_right
value_test = tt

value : (b : ℕ) → b < 256 → value_of b ≡ b
unfolding value_right
value b h = eqb→eq (value_of b) b (passed value_right 256 value_test b h)

-- and the same only for the same bytes.
pub wire_injective : (s t : List ℕ) → length s ≡ length t → Below 256 s → Below 256 t
    → ((k : ℕ) → get_or (wire s) k 0 ≡ get_or (wire t) k 0) → s ≡ t
unfolding wire bits_of value_of
wire_injective [] [] e h l w = refl
wire_injective [] (b ∷ t) e h l w = absurd (omega arith)
wire_injective (a ∷ s) [] e h l w = absurd (omega arith)
wire_injective (a ∷ s) (b ∷ t) e h l w =
    let values : value_of a ≡ value_of b =
    λ i. w 0 i * 128 + w 1 i * 64 + w 2 i * 32 + w 3 i * 16 + w 4 i * 8 + w 5 i * 4 + w 6 i * 2 + w 7 i in
    ap₂ {A = ℕ} {B = List ℕ} {C = List ℕ} (λ x xs. x ∷ xs) (sym (value a (h 0)) ∙ values ∙ value b (l 0))
    (wire_injective s t (omega arith) (λ i. h (suc i)) (λ i. l (suc i))
    (λ k. w (suc (suc (suc (suc (suc (suc (suc (suc k))))))))))

-- The wire bits of a sum are the sum of the wire bits,
pub wire_plus : (s t : List ℕ) → wire (plus s t) ≡ plus (wire s) (wire t)
unfolding wire bits_of plus
wire_plus [] t = refl
wire_plus (a ∷ s) [] = refl
wire_plus (a ∷ s) (b ∷ t) = λ i.
    xor_bit 7 a b i ∷ xor_bit 6 a b i ∷ xor_bit 5 a b i ∷ xor_bit 4 a b i
    ∷ xor_bit 3 a b i ∷ xor_bit 2 a b i ∷ xor_bit 1 a b i ∷ xor_mod a b 1 i ∷ wire_plus s t i

-- place by place.
pub wire_plus_at : (s t : List ℕ) (k : ℕ) → length s ≡ length t
    → get_or (wire (plus s t)) k 0 ≡ bit_xor (get_or (wire s) k 0) (get_or (wire t) k 0)
wire_plus_at s t k e =
    ap (λ (xs : List ℕ). get_or xs k 0) (wire_plus s t) ∙ plus_at (wire s) (wire t) k (wire-length s t e)
