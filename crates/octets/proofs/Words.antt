-- Words: written and read the same, past the end 0, below 2^32, laid over a list; each law once, for both byte orders.
-- Assumes nothing.
use mathlib.Core.Path.{◌≡◌, refl, ap, sym, ◌∙◌}
use mathlib.Core.List.{List, [], ◌∷◌, ◌++◌}
use Prim.Native.Nat.{ℕ, ◌+◌, ◌/◌, ◌%◌, ◌^◌, ◌≤◌, ◌<◌}
use native.Mathlib.Nat.{add_assoc, add-zero, zero-add}
use native.Mathlib.Omega.{arith}
use Rattle.std.proofs.lemmas.Nat.{from_le_bytes-to_le_bytes_4}
use lib.Dec.{lit<}
use lib.ListN.{length, get_or, take, drop, length-drop, get_or-eq_default}
use lib.Seq.{get_or-append-add, get_or-take, get_or-drop, length-take-le}
use mathlib.Core.Logic.{◌⊎◌}
use Rattle.octets.specs.Bytes.{Below, part, laid}
use Rattle.octets.proofs.Laid.{laid_fits, laid_beside}
use Rattle.octets.specs.Words.{Order, low_first, high_first, value, word_at, word_bytes}

-- the word's four bytes make the word again
bytes_value : (w : ℕ) → w < 2 ^ 32
    → value ((w % 256) ∷ (w / 256 % 256) ∷ (w / 65536 % 256) ∷ (w / 16777216 % 256) ∷ []) ≡ w
bytes_value w h = omega (arith, from_le_bytes-to_le_bytes_4 w h)

-- a word that stands at the front reads back
pub word_back : (o : Order) (w : ℕ) (rest : List ℕ) → w < 2 ^ 32 → word_at o (word_bytes o w ++ rest) 0 ≡ w
unfolding word_at word_bytes
word_back low_first w rest h = bytes_value w h
word_back high_first w rest h = bytes_value w h

pub word-length : (o : Order) (w : ℕ) → length (word_bytes o w) ≡ 4
unfolding word_bytes
word-length low_first w = refl
word-length high_first w = refl

-- the same four bytes make the same word
pub word_same : (o : Order) (s t : List ℕ) (i j : ℕ) → ((k : ℕ) → k < 4 → get_or s (i + k) 0 ≡ get_or t (j + k) 0)
    → word_at o s i ≡ word_at o t j
unfolding word_at
word_same low_first s t i j e = cc (simp add-zero at (e 0 (lit< tt)), e 1 (lit< tt), e 2 (lit< tt), e 3 (lit< tt))
word_same high_first s t i j e = cc (simp add-zero at (e 0 (lit< tt)), e 1 (lit< tt), e 2 (lit< tt), e 3 (lit< tt))

-- what stands in front of a list moves its words on
pub word_after : (o : Order) (a s : List ℕ) (at : ℕ) → word_at o (a ++ s) (length a + at) ≡ word_at o s at
word_after o a s at =
    word_same o (a ++ s) s (length a + at) at (λ (k : ℕ) (h : k < 4). rw add_assoc (get_or-append-add a s (at + k) 0))

-- a word of no bytes is 0
none : (o : Order) → word_at o [] 0 ≡ 0
unfolding word_at
none low_first = refl
none high_first = refl

-- past the end a word is 0
pub word_past : (o : Order) (s : List ℕ) (at : ℕ) → length s ≤ at → word_at o s at ≡ 0
word_past o s at h = word_same o s [] at 0 (λ (k : ℕ) (b : k < 4). get_or-eq_default s 0 (omega arith)) ∙ none o

-- a word of bytes has 32 bits
pub word_below : (o : Order) (s : List ℕ) (at : ℕ) → Below 256 s → word_at o s at < 2 ^ 32
unfolding word_at
word_below low_first s at b = omega (arith, b at, b (at + 1), b (at + 2), b (at + 3))
word_below high_first s at b = omega (arith, b at, b (at + 1), b (at + 2), b (at + 3))

-- what is read at a list's first four places makes its first word
made : (o : Order) (s : List ℕ) (a b c d : ℕ)
    → a ≡ get_or s 0 0 → b ≡ get_or s 1 0 → c ≡ get_or s 2 0 → d ≡ get_or s 3 0
    → word_at o (a ∷ b ∷ c ∷ d ∷ []) 0 ≡ word_at o s 0
unfolding word_at
made low_first s a b c d e f g h = cc
made high_first s a b c d e f g h = cc

-- a list's first four places
pub four : (s : List ℕ) → 4 ≤ length s → take 4 s ≡ get_or s 0 0 ∷ get_or s 1 0 ∷ get_or s 2 0 ∷ get_or s 3 0 ∷ []
four [] h = absurd (omega arith)
four (a ∷ []) h = absurd (omega arith)
four (a ∷ b ∷ []) h = absurd (omega arith)
four (a ∷ b ∷ c ∷ []) h = absurd (omega arith)
four (a ∷ b ∷ c ∷ d ∷ s) h = refl

-- and the four places from `at` on
standing : (s : List ℕ) (at : ℕ) → at + 4 ≤ length s
    → take 4 (drop at s) ≡ get_or s at 0 ∷ get_or s (at + 1) 0 ∷ get_or s (at + 2) 0 ∷ get_or s (at + 3) 0 ∷ []
standing s at h =
    let first : get_or (drop at s) 0 0 ≡ get_or s at 0 =
    get_or-drop at s 0 0 ∙ ap (λ (k : ℕ). get_or s k 0) (add-zero at) in
    let rest : (k : ℕ) → get_or (drop at s) k 0 ≡ get_or s (at + k) 0 = λ (k : ℕ). get_or-drop at s k 0 in
    four (drop at s) (rw length-drop (omega arith)) ∙ (λ i. first i ∷ rest 1 i ∷ rest 2 i ∷ rest 3 i ∷ [])

-- four digits to the base 256 are those of their number
digits : (a b c d : ℕ) → a < 256 → b < 256 → c < 256 → d < 256
    → (w : ℕ) → w ≡ value (a ∷ b ∷ c ∷ d ∷ [])
    → (w % 256 ≡ a) × (w / 256 % 256 ≡ b) × (w / 65536 % 256 ≡ c) × (w / 16777216 % 256 ≡ d)
digits a b c d ha hb hc hd w e = (omega arith, omega arith, omega arith, omega arith)

-- four bytes are the bytes of the word that they make
pub bytes_back : (o : Order) (s : List ℕ) (at : ℕ) → Below 256 s → at + 4 ≤ length s
    → take 4 (drop at s) ≡ word_bytes o (word_at o s at)
unfolding word_at word_bytes
bytes_back low_first s at b h =
    let d = digits _ _ _ _ (b at) (b (at + 1)) (b (at + 2)) (b (at + 3)) _ refl in
    standing s at h ∙ sym (λ i. d.0 i ∷ d.1 i ∷ d.2 i ∷ d.3 i ∷ [])
bytes_back high_first s at b h =
    let d = digits _ _ _ _ (b (at + 3)) (b (at + 2)) (b (at + 1)) (b at) _ refl in
    standing s at h ∙ sym (λ i. d.3 i ∷ d.2 i ∷ d.1 i ∷ d.0 i ∷ [])

-- a word that is laid reads back
pub laid_word : (o : Order) (s : List ℕ) (at w : ℕ) → at + 4 ≤ length s → w < 2 ^ 32
    → word_at o (laid s at (word_bytes o w)) at ≡ w
laid_word o s at w h k =
    let bytes = word_bytes o w in
    let rest = drop (at + length bytes) s in
    let front : length (take at s) + 0 ≡ at = add-zero _ ∙ length-take-le at s (omega arith) in
    let fits : at + length bytes ≤ length s = rw (word-length o w) h in
    ap (λ (l : List ℕ). word_at o l at) (laid_fits s at bytes fits)
    ∙ sym (ap (word_at o (take at s ++ (bytes ++ rest))) front)
    ∙ word_after o (take at s) (bytes ++ rest) 0
    ∙ word_back o w rest k

-- a word is the four bytes that stand there
word_part : (o : Order) (s : List ℕ) (at : ℕ) → word_at o (part s at 4) 0 ≡ word_at o s at
word_part o s at =
    word_same o (part s at 4) s 0 at
    (λ (k : ℕ) (h : k < 4). rw (zero-add k) (get_or-take 4 (drop at s) k 0 h ∙ get_or-drop at s k 0))

-- so what is read at its four places makes the word
pub word_of_part : (o : Order) (s : List ℕ) (at : ℕ) (four : List ℕ) (a b c d : ℕ) → four ≡ part s at 4
    → a ≡ get_or four 0 0 → b ≡ get_or four 1 0 → c ≡ get_or four 2 0 → d ≡ get_or four 3 0
    → word_at o (a ∷ b ∷ c ∷ d ∷ []) 0 ≡ word_at o s at
word_of_part o s at four a b c d e e₀ e₁ e₂ e₃ =
    let read : word_at o (a ∷ b ∷ c ∷ d ∷ []) 0 ≡ word_at o four 0 = made o four a b c d e₀ e₁ e₂ e₃ in
    read ∙ ap (λ (l : List ℕ). word_at o l 0) e ∙ word_part o s at

-- one that lies before or behind what is laid stays
pub laid_word_beside : (o : Order) (s : List ℕ) (at : ℕ) (new : List ℕ) (other : ℕ)
    → (at + length new ≤ other) ⊎ (other + 4 ≤ at)
    → word_at o (laid s at new) other ≡ word_at o s other
laid_word_beside o s at new other h =
    sym (word_part o (laid s at new) other) ∙ ap (λ (l : List ℕ). word_at o l 0) (laid_beside s at new other 4 h)
    ∙ word_part o s other
