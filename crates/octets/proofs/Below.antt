-- Lists of bytes made of lists of bytes.
-- Assumes nothing.
use mathlib.Core.List.{List, [], ◌∷◌, ◌++◌}
use Prim.Native.Nat.{ℕ, zero, suc, ◌<◌}
use native.Mathlib.Omega.{arith}
use lib.Dec.{lit<}
use lib.ListN.{take, drop, replicate}
use Rattle.octets.specs.Bytes.{Below}
use Rattle.octets.specs.Words.{Order, low_first, high_first, word_bytes}

-- past the end a list reads as 0
pub below-nil : Below 256 []
below-nil i = lit< tt

pub below-cons : (b : ℕ) (s : List ℕ) → b < 256 → Below 256 s → Below 256 (b ∷ s)
below-cons b s h k zero = h
below-cons b s h k (suc i) = k i

pub below-append : (s t : List ℕ) → Below 256 s → Below 256 t → Below 256 (s ++ t)
below-append [] t h k = k
below-append (b ∷ s) t h k = below-cons b (s ++ t) (h 0) (below-append s t (λ i. h (suc i)) k)

pub below-take : (n : ℕ) (s : List ℕ) → Below 256 s → Below 256 (take n s)
below-take zero s h = below-nil
below-take (suc n) [] h = below-nil
below-take (suc n) (b ∷ s) h = below-cons b (take n s) (h 0) (below-take n s (λ i. h (suc i)))

pub below-drop : (n : ℕ) (s : List ℕ) → Below 256 s → Below 256 (drop n s)
below-drop zero s h = h
below-drop (suc n) [] h = below-nil
below-drop (suc n) (b ∷ s) h = below-drop n s (λ i. h (suc i))

pub below_zeros : (n : ℕ) → Below 256 (replicate n 0)
below_zeros zero = below-nil
below_zeros (suc n) = below-cons 0 (replicate n 0) (lit< tt) (below_zeros n)

-- in either byte order
pub below_word : (o : Order) (w : ℕ) → Below 256 (word_bytes o w)
unfolding word_bytes
below_word low_first w zero = omega arith
below_word low_first w (suc zero) = omega arith
below_word low_first w (suc (suc zero)) = omega arith
below_word low_first w (suc (suc (suc zero))) = omega arith
below_word low_first w (suc (suc (suc (suc i)))) = below-nil i
below_word high_first w zero = omega arith
below_word high_first w (suc zero) = omega arith
below_word high_first w (suc (suc zero)) = omega arith
below_word high_first w (suc (suc (suc zero))) = omega arith
below_word high_first w (suc (suc (suc (suc i)))) = below-nil i
