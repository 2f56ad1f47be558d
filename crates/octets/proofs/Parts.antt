-- Parts of a list: their length, two that are alike, and one that grows by what is laid behind it.
-- Assumes nothing.
use mathlib.Core.Path.{◌≡◌, ap, sym, ◌∙◌}
use mathlib.Core.List.{List, ◌++◌}
use Prim.Native.Nat.{ℕ, min, ◌+◌, ◌-◌, ◌≤◌, ◌<◌}
use native.Mathlib.Omega.{arith}
use lib.ListN.{length, get_or, take, drop, length-take, length-drop}
use lib.Seq.{take-append_seam, drop_at, drop-drop, take-add, length-take-le, ext_get_or, get_or-take, get_or-drop}
use Rattle.octets.specs.Bytes.{part, laid}
use Rattle.octets.proofs.Laid.{laid_fits, laid-length, laid_before}

-- so many bytes, where there are so many
pub part_length : (s : List ℕ) (from n : ℕ) → from + n ≤ length s → length (part s from n) ≡ n
part_length s from n h = simp (length-take, length-drop) (omega arith)

-- two lists that agree on a part have that part alike
pub part_same : (a b : List ℕ) (from n : ℕ) → length a ≡ length b
    → ((k : ℕ) → from ≤ k → k < from + n → get_or a k 0 ≡ get_or b k 0)
    → part a from n ≡ part b from n
part_same a b from n e same =
    ext_get_or 0 (part a from n) (part b from n)
    (simp (length-take, length-drop) (ap (λ (k : ℕ). min n (k - from)) e))
    (λ i h.
    let below : i < n = omega (arith, length-take n (drop from a)) in
    get_or-take n (drop from a) i 0 below ∙ get_or-drop from a i 0 ∙ same (from + i) (omega arith) (omega arith)
    ∙ sym (get_or-drop from b i 0) ∙ sym (get_or-take n (drop from b) i 0 below))

-- bytes laid behind the first bytes of a part stand behind them in it
pub part_grown : (m : List ℕ) (from at : ℕ) (b : List ℕ) → from + at + length b ≤ length m
    → part (laid m (from + at) b) from (at + length b) ≡ part m from at ++ b
part_grown m from at b h =
    let new = laid m (from + at) b in
    let front : part new from at ≡ part m from at =
    part_same new m from at (laid-length m (from + at) b) (λ k low high. laid_before m (from + at) b k high) in
    let start : length (take (from + at) m) ≡ from + at = length-take-le (from + at) m (omega arith) in
    let rest : drop (from + at) new ≡ b ++ drop (from + at + length b) m =
    ap (drop (from + at)) (laid_fits m (from + at) b h)
    ∙ drop_at (take (from + at) m) (b ++ drop (from + at + length b) m) (from + at) start in
    let back : take (length b) (drop at (drop from new)) ≡ b = ap (take (length b)) (drop-drop at from new ∙ rest)
    ∙ take-append_seam b (drop (from + at + length b) m) in
    take-add at (length b) (drop from new) ∙ (λ i. front i ++ back i)
