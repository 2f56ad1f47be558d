-- Bytes laid over a list: what falls off, one after the other, the length, the whole list where they fit, and what
-- stays.
-- Assumes nothing.
use mathlib.Core.Path.{◌≡◌, refl, ap, sym, ◌∙◌}
use mathlib.Core.List.{List, [], ◌∷◌, ◌++◌, append_assoc}
use mathlib.Core.Logic.{◌⊎◌, inl, inr}
use Prim.Native.Nat.{ℕ, zero, suc, ◌+◌, ◌-◌, ◌≤◌, ◌<◌}
use native.Mathlib.Nat.{add-zero, zero-add, add-suc, suc-add}
use native.Mathlib.Omega.{arith}
use lib.ListN.{length, get_or, take, drop, set, length-set}
use lib.Seq.{take-suc, sets-eq, length-sets, set_out, set_comm, length-take-le, get_or-set_other}
use lib.Seq.{drop-drop, drop-set-lt, drop-set-add, take-set-le}
use borrow.Rule.Slice.PartMut.{put_mid}
use Rattle.octets.specs.Bytes.{part, laid, fronted}

-- past the end nothing is stored
pub laid_past : (l : List ℕ) (at : ℕ) (new : List ℕ) → length l ≤ at → laid l at new ≡ l
unfolding laid
laid_past l at [] h = refl
laid_past l at (b ∷ new) h =
    ap (λ (k : List ℕ). laid k (suc at) new) (set_out l at b h) ∙ laid_past l (suc at) new (omega arith)

-- one list after the other
pub laid-append : (l : List ℕ) (at : ℕ) (a b : List ℕ) → laid l at (a ++ b) ≡ laid (laid l at a) (at + length a) b
unfolding laid
laid-append l at [] b = rw add-zero
laid-append l at (x ∷ a) b = rw (laid-append (set l at x) (suc at) a b, suc-add, add-suc)

-- one more byte of a list that is laid from its front on
pub laid_next : (l : List ℕ) (at : ℕ) (new : List ℕ) (i : ℕ) → i < length new
    → set (laid l at (take i new)) (at + i) (get_or new i 0) ≡ laid l at (take (suc i) new)
unfolding laid
laid_next l at new i h =
    sym
    (ap (laid l at) (take-suc new i 0 h)
    ∙ laid-append l at (take i new) (get_or new i 0 ∷ [])
    ∙ ap (λ (k : ℕ). set (laid l at (take i new)) (at + k) (get_or new i 0)) (length-take-le i new (omega arith)))

-- four bytes one by one
pub laid_four : (l : List ℕ) (at a b c d : ℕ)
    → laid (laid (laid (laid l at (a ∷ [])) (at + 1) (b ∷ [])) (at + 2) (c ∷ [])) (at + 3) (d ∷ [])
    ≡ laid l at (a ∷ b ∷ c ∷ d ∷ [])
unfolding laid
laid_four l at a b c d =
    let one : at + 1 ≡ suc at = omega arith in
    let two : at + 2 ≡ suc (suc at) = omega arith in
    let three : at + 3 ≡ suc (suc (suc at)) = omega arith in
    rw (one, two, three)

-- what does not fit falls off
pub laid_cut : (l : List ℕ) (at : ℕ) (new : List ℕ) (n : ℕ) → length l ≤ at + n → laid l at (take n new) ≡ laid l at new
unfolding laid
laid_cut l at [] zero h = refl
laid_cut l at [] (suc n) h = refl
laid_cut l at (b ∷ new) zero h = sym (laid_past l at (b ∷ new) (omega arith))
laid_cut l at (b ∷ new) (suc n) h = laid_cut (set l at b) (suc at) new n (rw length-set (omega arith))

-- the whole list, of bytes that fit
pub laid_fits : (l : List ℕ) (at : ℕ) (new : List ℕ) → at + length new ≤ length l
    → laid l at new ≡ take at l ++ (new ++ drop (at + length new) l)
unfolding laid
laid_fits l at new h = sets-eq new l at h ∙ append_assoc (take at l) new (drop (at + length new) l)

-- what is copied into a part of its length is laid there
pub laid_copied : (l : List ℕ) (at k : ℕ) (new : List ℕ) → k ≡ length new → at + length new ≤ length l
    → put_mid at k l new ≡ laid l at new
laid_copied l at k new e h =
    rw (e, drop-drop (length new) at l) (sym (laid_fits l at new h))

-- the length stays
pub laid-length : (l : List ℕ) (at : ℕ) (new : List ℕ) → length (laid l at new) ≡ length l
unfolding laid
laid-length l at new = length-sets l at new

-- to the front
pub laid_front : (l new : List ℕ) → length new ≤ length l → laid l 0 new ≡ fronted l new
unfolding fronted
laid_front l new h = laid_fits l 0 new (omega arith) ∙ ap (λ (k : ℕ). new ++ drop k l) (zero-add (length new))

-- a byte stored in front of what is laid may as well be stored before it
laid-set : (l : List ℕ) (at : ℕ) (new : List ℕ) (i b : ℕ) → i < at → set (laid l at new) i b ≡ laid (set l i b) at new
unfolding laid
laid-set l at [] i b h = refl
laid-set l at (x ∷ new) i b h =
    laid-set (set l at x) (suc at) new i b (omega arith)
    ∙ ap (λ (k : List ℕ). laid k (suc at) new) (set_comm l at i x b (λ (e : at ≡ i). omega arith))

-- bytes laid from the last to the first
pub laid_in_front : (l : List ℕ) (at : ℕ) (new : List ℕ) (b : ℕ)
    → laid (laid l (suc at) new) at (b ∷ []) ≡ laid l at (b ∷ new)
unfolding laid
laid_in_front l at new b = laid-set l (suc at) new at b (omega arith)

-- no byte before or behind what is laid changes
pub laid_before : (l : List ℕ) (at : ℕ) (new : List ℕ) (k : ℕ) → k < at → get_or (laid l at new) k 0 ≡ get_or l k 0
unfolding laid
laid_before l at [] k h = refl
laid_before l at (b ∷ new) k h =
    laid_before (set l at b) (suc at) new k (omega arith) ∙ get_or-set_other l at k b 0 (λ e. omega arith)

pub laid_behind : (l : List ℕ) (at : ℕ) (new : List ℕ) (k : ℕ) → at + length new ≤ k
    → get_or (laid l at new) k 0 ≡ get_or l k 0
unfolding laid
laid_behind l at [] k h = refl
laid_behind l at (b ∷ new) k h =
    laid_behind (set l at b) (suc at) new k (omega arith) ∙ get_or-set_other l at k b 0 (λ e. omega arith)

-- nor does a part that lies there
pub laid_beside : (l : List ℕ) (at : ℕ) (new : List ℕ) (from n : ℕ) → (at + length new ≤ from) ⊎ (from + n ≤ at)
    → part (laid l at new) from n ≡ part l from n
unfolding laid
laid_beside l at [] from n h = refl
laid_beside l at (b ∷ new) from n (inl h) =
    laid_beside (set l at b) (suc at) new from n (inl (omega arith))
    ∙ ap (take n) (drop-set-lt from l at b (omega arith))
laid_beside l at (b ∷ new) from n (inr h) =
    let k = at - from in
    let place : at ≡ from + k = omega arith in
    laid_beside (set l at b) (suc at) new from n (inr (omega arith))
    ∙ ap (λ (i : ℕ). part (set l i b) from n) place
    ∙ ap (take n) (drop-set-add from l k b)
    ∙ take-set-le n (drop from l) k b (omega arith)
