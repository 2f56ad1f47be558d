-- The walk from the front: step by step, over whole records, and of a list that comes in pieces.
-- Assumes nothing.
use mathlib.Core.Path.{◌≡◌, refl, ap, sym, subst, ◌∙◌}
use mathlib.Core.List.{List, [], ◌∷◌, ◌++◌, append_assoc}
use mathlib.Core.Logic.{by_cases}
use Prim.Native.Nat.{ℕ, zero, suc, ◌+◌, ◌≤◌, ◌<◌}
use native.Mathlib.Decide.{dec_lt}
use native.Mathlib.Numerals.{add-one}
use native.Mathlib.Omega.{arith}
use borrow.Author.Tests.{le-leb, lt-leb}
use lib.ListN.{length, get_or, take, drop, length-append, length-drop, take-append-drop, drop_of_length-le}
use lib.Seq.{get_or-drop, length-take-le, take-append_seam, drop-append_seam, drop-cons, drop-drop}
use Rattle.octets.specs.Bytes.{Below}
use Rattle.records.specs.declared.record.Record.TheVariants.{Whole, Cut, End}
use Rattle.records.specs.Record.{record_at, joined, Walk, found, walk, records_of, rest_of}
use Rattle.records.proofs.Records.{Stands, Short, Tells, told}

-- A law of every list by its records: of no bytes, of a record cut short, and of a whole one in front of a list that
-- has the law.
module _ (P : List ℕ → Type 0) (none : P [])
    (cut : (size : ℕ) (s : List ℕ) → length s < size → P (size ∷ s))
    (whole : (size : ℕ) (s : List ℕ) → size ≤ length s → P (drop size s) → P (size ∷ s)) where
  by_length : (n : ℕ) (s : List ℕ) → length s ≤ n → P s
  by_length zero [] h = none
  by_length zero (size ∷ s) h = absurd (omega arith)
  by_length (suc n) [] h = none
  by_length (suc n) (size ∷ s) h =
      by_cases (dec_lt (length s) size)
      (λ (k : length s < size). cut size s k)
      (λ (k : length s < size → ⊥).
      whole size s (omega arith) (by_length n (drop size s) (rw length-drop (omega arith))))

  pub by_records : (s : List ℕ) → P s
  by_records s = by_length (length s) s (omega arith)

-- more steps than bytes change nothing
walk_enough : (n m : ℕ) (s : List ℕ) → length s ≤ n → length s ≤ m → walk n s ≡ walk m s
unfolding walk
walk_enough zero zero s h k = refl
walk_enough zero (suc m) [] h k = refl
walk_enough zero (suc m) (size ∷ s) h k = absurd (omega arith)
walk_enough (suc n) zero [] h k = refl
walk_enough (suc n) zero (size ∷ s) h k = absurd (omega arith)
walk_enough (suc n) (suc m) [] h k = refl
walk_enough (suc n) (suc m) (size ∷ s) h k =
    rw (walk_enough n m (drop size s) (rw length-drop (omega arith)) (rw length-drop (omega arith)))

-- a whole record at the front
module _ (size : ℕ) (s : List ℕ) (h : size ≤ length s) where
  walk_whole : (n : ℕ) → walk (suc n) (size ∷ s) ≡ found (take size s) (walk n (drop size s))
  unfolding walk
  walk_whole n = rw (le-leb size (length s) h)

  walk_front : walk (suc (length s)) (size ∷ s) ≡ found (take size s) (walk (length (drop size s)) (drop size s))
  walk_front =
      walk_whole (length s)
      ∙ ap (found (take size s)) (walk_enough (length s) (length (drop size s)) (drop size s)
      (rw length-drop (omega arith)) (omega arith))

  pub records_whole : records_of (size ∷ s) ≡ take size s ∷ records_of (drop size s)
  unfolding records_of
  records_whole = ap (λ (w : Walk). w.frames) walk_front

  pub rest_whole : rest_of (size ∷ s) ≡ rest_of (drop size s)
  unfolding rest_of
  rest_whole = ap (λ (w : Walk). w.rest) walk_front

-- a record cut short at the front
module _ (size : ℕ) (s : List ℕ) (h : length s < size) where
  walk_cut : (n : ℕ) → walk (suc n) (size ∷ s) ≡ record { frames = []; rest = size ∷ s }
  unfolding walk
  walk_cut n = rw (lt-leb size (length s) h)

  pub records_cut : records_of (size ∷ s) ≡ []
  unfolding records_of
  records_cut = ap (λ (w : Walk). w.frames) (walk_cut (length s))

  pub rest_cut : rest_of (size ∷ s) ≡ size ∷ s
  unfolding rest_of
  rest_cut = ap (λ (w : Walk). w.rest) (walk_cut (length s))

pub records_none : records_of [] ≡ []
unfolding records_of walk
records_none = refl

pub rest_none : rest_of [] ≡ []
unfolding rest_of walk
rest_none = refl

-- records that were written are read: the frames, and then what stands behind them
pub records_joined : (frames : List (List ℕ)) (t : List ℕ) → records_of (joined frames ++ t) ≡ frames ++ records_of t
unfolding joined
records_joined [] t = refl
records_joined (f ∷ frames) t =
    rw append_assoc
    (records_whole (length f) (f ++ (joined frames ++ t)) (rw length-append (omega arith))
    ∙ rw (take-append_seam f (joined frames ++ t), drop-append_seam f (joined frames ++ t))
    (ap (λ (l : List (List ℕ)). f ∷ l) (records_joined frames t)))

pub rest_joined : (frames : List (List ℕ)) (t : List ℕ) → rest_of (joined frames ++ t) ≡ rest_of t
unfolding joined
rest_joined [] t = refl
rest_joined (f ∷ frames) t =
    rw append_assoc
    (rest_whole (length f) (f ++ (joined frames ++ t)) (rw length-append (omega arith))
    ∙ rw (drop-append_seam f (joined frames ++ t)) (rest_joined frames t))

pub joined-append : (a b : List (List ℕ)) → joined (a ++ b) ≡ joined a ++ joined b
unfolding joined
joined-append [] b = refl
joined-append (f ∷ a) b = rw (joined-append a b, append_assoc)

-- the walk leaves no byte out
pub records_split : (s : List ℕ) → joined (records_of s) ++ rest_of s ≡ s
unfolding joined
records_split =
    by_records (λ (s : List ℕ). joined (records_of s) ++ rest_of s ≡ s)
    (rw (records_none, rest_none))
    (λ (size : ℕ) (s : List ℕ) (h : length s < size). rw (records_cut size s h, rest_cut size s h))
    (λ (size : ℕ) (s : List ℕ) (h : size ≤ length s)
    (behind : joined (records_of (drop size s)) ++ rest_of (drop size s) ≡ drop size s).
    rw (
      records_whole size s h,
      rest_whole size s h,
      length-take-le size s h,
      append_assoc (take size s) (joined (records_of (drop size s))) (rest_of (drop size s)),
      behind,
      take-append-drop size s,
    ))

-- behind the whole records stands the rest
pub rest_behind : (s : List ℕ) → drop (length (joined (records_of s))) s ≡ rest_of s
rest_behind s =
    ap (drop (length (joined (records_of s)))) (sym (records_split s))
    ∙ drop-append_seam (joined (records_of s)) (rest_of s)

-- the rest of a list of bytes is shorter than the longest record: the walk left it because its length byte promises
-- more
pub rest_short : (s : List ℕ) → Below 256 s → length (rest_of s) < 256
rest_short =
    by_records (λ (s : List ℕ). Below 256 s → length (rest_of s) < 256)
    (λ (bytes : Below 256 []). rw rest_none (omega arith))
    (λ (size : ℕ) (s : List ℕ) (h : length s < size) (bytes : Below 256 (size ∷ s)).
    rw (rest_cut size s h) (omega (arith, bytes 0)))
    (λ (size : ℕ) (s : List ℕ) (h : size ≤ length s)
    (behind : Below 256 (drop size s) → length (rest_of (drop size s)) < 256) (bytes : Below 256 (size ∷ s)).
    rw (rest_whole size s h) (behind (λ (i : ℕ). rw get_or-drop (bytes (suc (size + i))))))

-- a list that comes in two pieces: the records of the first, then those of what it left with the second behind it
module _ (s t : List ℕ) where
  pieces : s ++ t ≡ joined (records_of s) ++ (rest_of s ++ t)
  pieces = ap (λ (l : List ℕ). l ++ t) (sym (records_split s)) ∙ append_assoc (joined (records_of s)) (rest_of s) t

  pub records-append : records_of (s ++ t) ≡ records_of s ++ records_of (rest_of s ++ t)
  records-append = ap records_of pieces ∙ records_joined (records_of s) (rest_of s ++ t)

  pub rest-append : rest_of (s ++ t) ≡ rest_of (rest_of s ++ t)
  rest-append = ap rest_of pieces ∙ rest_joined (records_of s) (rest_of s ++ t)

-- "arrivals": each whole record is one, of an empty frame too; "A last record cut short" is none
unfoldable pub arrivals_in : List ℕ → ℕ
arrivals_in s = length (records_of s)

-- and they are counted piece by piece
pub arrivals-append : (s t : List ℕ) → arrivals_in (s ++ t) ≡ arrivals_in s + arrivals_in (rest_of s ++ t)
unfolding arrivals_in
arrivals-append s t = ap length (records-append s t) ∙ length-append (records_of s) (records_of (rest_of s ++ t))

-- where the first bytes of a list are the records of some frames, they are its first frames, whatever comes behind the
-- list
pub records_passed : (s t : List ℕ) (at : ℕ) (frames : List (List ℕ)) → take at s ≡ joined frames
    → records_of (s ++ t) ≡ frames ++ records_of (drop at s ++ t)
records_passed s t at frames p =
    ap (λ (l : List ℕ). records_of (l ++ t)) (sym (take-append-drop at s))
    ∙ ap records_of (append_assoc (take at s) (drop at s) t)
    ∙ ap (λ (l : List ℕ). records_of (l ++ (drop at s ++ t))) p
    ∙ records_joined frames (drop at s ++ t)

-- the walk by places: what the record at a place says of the walk from there on
module _ (s : List ℕ) (at : ℕ) where
  pub walk_at_end : record_at s at ≡ End → records_of (drop at s) ≡ []
  walk_at_end e =
      rw (drop_of_length-le s {i = at} (subst (Tells s at) e (told s at))) records_none

  pub walk_at_cut : record_at s at ≡ Cut → records_of (drop at s) ≡ []
  walk_at_cut e =
      let h : Short s at = subst (Tells s at) e (told s at) in
      rw (drop-cons s at 0 h.inside) (records_cut (get_or s at 0) (drop (suc at) s) (rw length-drop (omega arith)))

  module _ (start size : ℕ) (e : record_at s at ≡ Whole start size) where
    stands : Stands s at start size
    stands = subst (Tells s at) e (told s at)

    here : drop at s ≡ size ∷ drop start s
    here = drop-cons s at 0 stands.inside ∙ cc (stands.follows, stands.counted, add-one at)

    pub walk_at_whole : records_of (drop at s) ≡ take size (drop start s) ∷ records_of (drop (start + size) s)
    walk_at_whole =
        rw (
          here,
          records_whole size (drop start s) (rw length-drop (omega (arith, stands.ends))),
          drop-drop size start s,
        )
