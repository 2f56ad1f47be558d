-- A ring read round from a pointer: its length, there and back, one round after the other, bytes stored behind what is
-- filled, and what is copied in one run or in two.
-- Assumes nothing.
use mathlib.Core.Path.{◌≡◌, ap, sym, ◌∙◌}
use mathlib.Core.List.{List, [], ◌∷◌, ◌++◌, append_assoc, append-nil}
use mathlib.Core.Logic.{⊎_elim}
use Prim.Native.Nat.{ℕ, ◌+◌, ◌-◌, ◌≤◌, ◌<◌}
use native.Mathlib.Nat.{zero-add, add-sub_cancel_left}
use native.Mathlib.Omega.{arith}
use lib.ListN.{length, take, drop, replicate, take-append-drop}
use lib.ListN.{length-append, length-take, length-drop, length-replicate}
use Rattle.std.proofs.lemmas.List.{replicate_more}
use lib.Seq.{take-append-le, drop-append-le, take-append-add, drop-append-add, take-take, drop-drop, take-add, take_at}
use lib.Seq.{drop_at, take_all, length-take-le}
use Rattle.octets.specs.Bytes.{laid, fronted}
use Rattle.octets.proofs.Laid.{laid_fits, laid_front, laid-append, laid-length}
use Rattle.ring.specs.Numbers.{next_of}
use Rattle.ring.specs.Round.{round_from, stored}
use Rattle.ring.proofs.Numbers.{next_near, next_over, next_below, next_cases}

pub round-length : (p : ℕ) (ring : List ℕ) → length (round_from p ring) ≡ length ring
unfolding round_from
round-length p ring = length-append (drop p ring) (take p ring) ∙ omega (arith, length-drop p ring, length-take p ring)

-- a list rounded at a seam
pub round_seam : (a b : List ℕ) (p : ℕ) → length a ≡ p → round_from p (a ++ b) ≡ b ++ a
unfolding round_from
round_seam a b p e = rw (drop_at a b p e, take_at a b p e)

pub round_back : (p : ℕ) (ring : List ℕ) → p ≤ length ring → round_from (length ring - p) (round_from p ring) ≡ ring
unfolding round_from
round_back p ring h =
    round_seam (drop p ring) (take p ring) (length ring - p) (length-drop p ring) ∙ take-append-drop p ring

pub round_there : (p : ℕ) (s : List ℕ) → p ≤ length s → round_from p (round_from (length s - p) s) ≡ s
unfolding round_from
round_there p s h =
    round_seam (drop (length s - p) s) (take (length s - p) s) p (length-drop (length s - p) s ∙ omega arith)
    ∙ take-append-drop (length s - p) s

-- one round after the other is one round
module _ (ring : List ℕ) (p n : ℕ) (below : p < length ring) (fits : n ≤ length ring) where
  near : p + n ≤ length ring → round_from n (round_from p ring) ≡ round_from (p + n) ring
  unfolding round_from
  near h =
      let d = length-drop p ring in
      let inside : n ≤ length (drop p ring) = omega arith in
      rw (
        drop-append-le n (drop p ring) (take p ring) inside,
        take-append-le n (drop p ring) (take p ring) inside,
        append_assoc (drop n (drop p ring)) (take p ring) (take n (drop p ring)),
        drop-drop n p ring,
        take-add p n ring,
      )

  over : length ring ≤ p + n → round_from n (round_from p ring) ≡ round_from (p + n - length ring) ring
  unfolding round_from
  over h =
      let m = p + n - length ring in
      let split : n ≡ length (drop p ring) + m = omega (arith, length-drop p ring) in
      let head : length (take p ring) ≡ p = length-take-le p ring (omega arith) in
      let inside : m ≤ length (take p ring) = omega arith in
      ap (λ (k : ℕ). drop k (drop p ring ++ take p ring) ++ take k (drop p ring ++ take p ring)) split
      ∙ rw (
        drop-append-add (drop p ring) (take p ring) m,
        take-append-add (drop p ring) (take p ring) m,
        ← append_assoc (drop m (take p ring)) (drop p ring) (take m (take p ring)),
        ← drop-append-le m (take p ring) (drop p ring) inside,
        take-append-drop p ring,
        take-take m p ring (omega arith),
      )

  pub round_round : round_from n (round_from p ring) ≡ round_from (next_of (length ring) p n) ring
  round_round =
      ⊎_elim
      (λ c. near (omega arith) ∙ ap (λ (k : ℕ). round_from k ring) (sym c.0))
      (λ c. over c.1 ∙ ap (λ (k : ℕ). round_from k ring) (sym c.0))
      (next_cases (length ring) p n below fits)

-- two rings that are equal once rounded are equal
pub round_injective : (p : ℕ) (a b : List ℕ) → p ≤ length a → length a ≡ length b → round_from p a ≡ round_from p b
    → a ≡ b
round_injective p a b h l e =
    sym (round_back p a h)
    ∙ ap (λ (s : List ℕ). round_from (length a - p) s) e
    ∙ ap (λ (n : ℕ). round_from (n - p) (round_from p b)) l
    ∙ round_back p b (omega arith)

pub fronted-length : (out bytes : List ℕ) → length bytes ≤ length out → length (fronted out bytes) ≡ length out
unfolding fronted
fronted-length out bytes h =
    length-append bytes (drop (length bytes) out) ∙ omega (arith, length-drop (length bytes) out)

pub stored-length : (ring : List ℕ) (p : ℕ) (bytes : List ℕ) → length bytes ≤ length ring
    → length (stored ring p bytes) ≡ length ring
unfolding stored
stored-length ring p bytes h =
    round-length (length ring - p) (fronted (round_from p ring) bytes)
    ∙ fronted-length (round_from p ring) bytes (omega (arith, round-length p ring)) ∙ round-length p ring

-- what is stored at a pointer stands at the front from there
pub stored_here : (ring : List ℕ) (p : ℕ) (bytes : List ℕ) → p ≤ length ring → length bytes ≤ length ring
    → round_from p (stored ring p bytes) ≡ fronted (round_from p ring) bytes
unfolding stored
stored_here ring p bytes h k =
    let l : length (fronted (round_from p ring) bytes) ≡ length ring =
    fronted-length (round_from p ring) bytes (omega (arith, round-length p ring)) ∙ round-length p ring in
    ap (λ (n : ℕ). round_from p (round_from (n - p) (fronted (round_from p ring) bytes))) (sym l)
    ∙ round_there p (fronted (round_from p ring) bytes) (omega arith)

-- rounded by f, put to the front and rounded back: laid over the list from f on
fronted_behind : (s : List ℕ) (f : ℕ) (bytes : List ℕ) → f + length bytes ≤ length s
    → fronted (round_from f s) bytes ≡ round_from f (laid s f bytes)
unfolding fronted round_from
fronted_behind s f bytes h =
    let d = length-drop f s in
    let inside : length bytes ≤ length (drop f s) = omega arith in
    rw (drop-append-le (length bytes) (drop f s) (take f s) inside, drop-drop (length bytes) f s)
    (sym
    (ap (round_from f) (laid_fits s f bytes h)
    ∙ round_seam (take f s) (bytes ++ drop (f + length bytes) s) f (length-take-le f s (omega arith))
    ∙ append_assoc bytes (drop (f + length bytes) s) (take f s)))

-- stored f bytes behind a pointer: seen from the pointer, laid over the list from f on
pub stored_behind : (ring : List ℕ) (p f : ℕ) (bytes : List ℕ) → p < length ring → f + length bytes ≤ length ring
    → round_from p (stored ring (next_of (length ring) p f) bytes) ≡ laid (round_from p ring) f bytes
stored_behind ring p f bytes h k =
    let q = next_of (length ring) p f in
    let under : q < length ring = next_below (length ring) p f (omega arith) in
    let size = stored-length ring q bytes (omega arith) in
    let rounded = round-length p ring in
    let back = round_round (stored ring q bytes) p f (omega arith) (omega arith) in
    round_injective f (round_from p (stored ring q bytes)) (laid (round_from p ring) f bytes)
    (omega (arith, round-length p (stored ring q bytes)))
    (round-length p (stored ring q bytes) ∙ size ∙ sym (laid-length (round_from p ring) f bytes ∙ rounded))
    (back
    ∙ ap (λ (n : ℕ). round_from (next_of n p f) (stored ring q bytes)) size
    ∙ stored_here ring q bytes (omega arith) (omega arith)
    ∙ ap (λ (s : List ℕ). fronted s bytes) (sym (round_round ring p f h (omega arith)))
    ∙ fronted_behind (round_from p ring) f bytes (omega arith))

module _ (ring : List ℕ) (p : ℕ) (below : p < length ring) where
  -- one list stored after the other
  pub stored_stored : (a b : List ℕ) → length a + length b ≤ length ring
      → stored (stored ring p a) (next_of (length ring) p (length a)) b ≡ stored ring p (a ++ b)
  stored_stored a b h =
      let first = stored-length ring p a (omega arith) in
      let q = next_of (length ring) p (length a) in
      let second = stored-length (stored ring p a) q b (omega arith) in
      let joined = length-append a b in
      let all = stored-length ring p (a ++ b) (omega arith) in
      round_injective p (stored (stored ring p a) q b) (stored ring p (a ++ b))
      (omega arith)
      (second ∙ first ∙ sym all)
      (ap (λ (n : ℕ). round_from p (stored (stored ring p a) (next_of n p (length a)) b)) (sym first)
      ∙ stored_behind (stored ring p a) p (length a) b (omega arith) (omega arith)
      ∙ ap (λ (s : List ℕ). laid s (length a) b)
      (stored_here ring p a (omega arith) (omega arith)
      ∙ sym (laid_front (round_from p ring) a (omega (arith, round-length p ring))))
      ∙ ap (λ (n : ℕ). laid (laid (round_from p ring) 0 a) n b) (sym (zero-add (length a)))
      ∙ sym (laid-append (round_from p ring) 0 a b)
      ∙ laid_front (round_from p ring) (a ++ b) (omega (arith, round-length p ring))
      ∙ sym (stored_here ring p (a ++ b) (omega arith) (omega arith)))

-- the ring rounded to its own front
round_none : (ring : List ℕ) → round_from 0 ring ≡ ring
unfolding round_from
round_none ring = append-nil ring

-- what ends before the ring's end is stored in one run
pub stored_straight : (ring : List ℕ) (p : ℕ) (bytes : List ℕ) → p < length ring → p + length bytes ≤ length ring
    → laid ring p bytes ≡ stored ring p bytes
stored_straight ring p bytes h k =
    ap (λ (s : List ℕ). laid s p bytes) (sym (round_none ring))
    ∙ sym (stored_behind ring 0 p bytes (omega arith) (omega arith))
    ∙ round_none (stored ring (next_of (length ring) 0 p) bytes)
    ∙ ap (λ (q : ℕ). stored ring q bytes) (next_near (length ring) 0 p (omega arith) ∙ zero-add p)

-- one zero more behind others
pub zero_more : (ring : List ℕ) (p k : ℕ) {l m : List ℕ} {q : ℕ} → p < length ring → k < length ring
    → l ≡ stored ring p (replicate k 0) → q ≡ next_of (length ring) p k → m ≡ laid l q (0 ∷ [])
    → m ≡ stored ring p (replicate (k + 1) 0)
zero_more ring p k {l} {m} {q} h room f g e =
    let zeros : List ℕ = replicate k 0 in
    let long : length zeros ≡ k = length-replicate {A = ℕ} k 0 in
    let size : length l ≡ length ring = ap length f ∙ stored-length ring p zeros (omega arith) in
    let below = next_below (length ring) p k (omega arith) in
    let place : q ≡ next_of (length ring) p (length zeros) = g ∙ ap (next_of (length ring) p) (sym long) in
    e
    ∙ stored_straight l q (0 ∷ []) (omega arith) (omega arith)
    ∙ ap (λ (s : List ℕ). stored s q (0 ∷ [])) f
    ∙ ap (λ (at : ℕ). stored (stored ring p zeros) at (0 ∷ [])) place
    ∙ stored_stored ring p h zeros (0 ∷ []) (omega arith)
    ∙ ap (stored ring p) (replicate_more k 0)

-- `&s[m..]`, as it is lent
lent_rest : (s : List ℕ) (m : ℕ) → take (length s - m) (drop m s) ≡ drop m s
lent_rest s m = take_all (length s - m) (drop m s) (omega (arith, length-drop m s))

-- what runs over the end is stored in two, as the two are lent
pub stored_round : (ring : List ℕ) (p : ℕ) (bytes : List ℕ) → p < length ring → length bytes ≤ length ring
    → length ring - p < length bytes
    → laid (laid ring p (take (length ring - p) bytes)) 0
    (take (length bytes - (length ring - p)) (drop (length ring - p) bytes)) ≡ stored ring p bytes
stored_round ring p bytes h k over =
    let m = length ring - p in
    let first : length (take m bytes) ≡ m = length-take-le m bytes (omega arith) in
    let second = length-drop m bytes in
    let size = stored-length ring p (take m bytes) (omega arith) in
    let front : next_of (length ring) p (length (take m bytes)) ≡ 0 =
    next_over (length ring) p (length (take m bytes)) (omega arith) (omega arith) ∙ omega arith in
    rw (lent_rest bytes m)
    (ap (λ (s : List ℕ). laid s 0 (drop m bytes)) (stored_straight ring p (take m bytes) h (omega arith))
    ∙ stored_straight (stored ring p (take m bytes)) 0 (drop m bytes) (omega arith) (omega arith)
    ∙ ap (λ (q : ℕ). stored (stored ring p (take m bytes)) q (drop m bytes)) (sym front)
    ∙ stored_stored ring p h (take m bytes) (drop m bytes) (omega arith)
    ∙ ap (stored ring p) (take-append-drop m bytes))

-- so many bytes of the ring, laid to the front
to_front : (ring : List ℕ) (p n : ℕ) (out : List ℕ) → n ≤ length ring → n ≤ length out
    → laid out 0 (take n (round_from p ring)) ≡ fronted out (take n (round_from p ring))
to_front ring p n out h k =
    laid_front out (take n (round_from p ring))
    (omega (arith, length-take n (round_from p ring), round-length p ring))

-- what ends before the ring's end is copied in one run
pub copied_straight : (ring : List ℕ) (p n : ℕ) (out : List ℕ) → p + n ≤ length ring → n ≤ length out
    → laid out 0 (take (p + n - p) (drop p ring)) ≡ fronted out (take n (round_from p ring))
unfolding round_from
copied_straight ring p n out h k =
    rw (add-sub_cancel_left p n)
    (ap (laid out 0) (sym (take-append-le n (drop p ring) (take p ring) (omega (arith, length-drop p ring))))
    ∙ to_front ring p n out (omega arith) k)

-- what runs over the end in two
pub copied_round : (ring : List ℕ) (p n : ℕ) (out : List ℕ) → p ≤ length ring → n ≤ length ring → n ≤ length out
    → length ring < p + n
    → laid (laid out 0 (take (length ring - p) (drop p ring))) (length ring - p)
    (take (n - (length ring - p)) ring) ≡ fronted out (take n (round_from p ring))
unfolding round_from
copied_round ring p n out h k l over =
    let rest = drop p ring in
    let m = n - (length ring - p) in
    let long : length ring - p ≡ 0 + length rest = omega (arith, length-drop p ring) in
    let split : length rest + m ≡ n = omega (arith, length-drop p ring) in
    rw (lent_rest ring p)
    (ap (λ (j : ℕ). laid (laid out 0 rest) j (take m ring)) long
    ∙ sym (laid-append out 0 rest (take m ring))
    ∙ ap (λ (s : List ℕ). laid out 0 (rest ++ s)) (sym (take-take m p ring (omega arith)))
    ∙ ap (laid out 0) (sym (take-append-add rest (take p ring) m))
    ∙ ap (λ (j : ℕ). laid out 0 (take j (round_from p ring))) split
    ∙ to_front ring p n out k l)
