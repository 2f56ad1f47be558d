-- Words stored into a window: what is stored reads back, a pointer stored alone loses no flag, and no byte of a ring
-- changes.
-- Assumes nothing.
use mathlib.Core.Path.{◌≡◌, refl, ap, sym, subst, ◌∙◌}
use mathlib.Core.Bool.{Bool, true, false, ◌&&◌, and_assoc, and_self, false≢true}
use mathlib.Core.List.{List}
use mathlib.Core.Logic.{◌⊎◌, inl, inr, ⊎_elim, dite}
use Prim.Native.Nat.{ℕ, ◌+◌, ◌%◌, ◌^◌, ◌≤◌, ◌<◌}
use native.Mathlib.Decide.{ℕ_discrete}
use native.Mathlib.Omega.{arith}
use borrow.Author.Tests.{eq-eqb, ne_eqb}
use lib.Dec.{eqb}
use lib.ListN.{length}
use Rattle.octets.specs.Choice.{pick}
use Rattle.octets.specs.Words.{high_first, word_at, word_bytes}
use Rattle.octets.proofs.Checks.{none_failing, all_hold}
use Rattle.octets.proofs.Laid.{laid-length}
use Rattle.mctp.proofs.Refusals.{number_positive}
use Rattle.mmbi.specs.declared.word.Word.{Word}
use Rattle.mmbi.specs.Pointers.{pointer_right}
use Rattle.mmbi.specs.Words.{word_of, number_of}
use Rattle.mmbi.proofs.PointerNumbers.{Pointer as In, pointer_facts, pointer_holds}
use Rattle.mmbi.proofs.Words.{word_back, number_below}
use Rattle.descriptor.specs.declared.configuration.Configuration.{Configuration}
use Rattle.descriptor.specs.declared.configuration.Area.{Area}
use Rattle.descriptor.specs.declared.configuration.Area.TheVariants.{B2h, H2b, Ros, Rws}
use Rattle.window.specs.declared.word.Pointer.{Pointer}
use Rattle.window.specs.declared.word.Pointer.TheVariants.{H2bWrite, B2hRead, B2hWrite, H2bRead}
use Rattle.descriptor.specs.Places.{end_of}
use Rattle.descriptor.specs.Configuration.{area_place, is_ring, allowed}
use Rattle.window.specs.Places.{place_in, area_of}
use Rattle.window.specs.Words.{word_place, has_up, cleared, word_where, word_in, points_into, store_order}
use Rattle.window.specs.Words.{store_refusal}
use Rattle.window.specs.Words.{with_word, stored, pointing, stored_pointer}
use Rattle.descriptor.proofs.Configurations.{Clear, Allowed, allowed_facts}
use Rattle.mmbi.proofs.PointerNumbers.{length_facts}
use Rattle.window.proofs.Areas.{ring_right_lem}
use Rattle.octets.proofs.Laid.{laid_beside}
use Rattle.octets.proofs.Words.{word-length, laid_word, laid_word_beside}

-- clearing what is reserved once is enough
cleared_twice : (p : Pointer) (w : Word) → cleared p (cleared p w) ≡ cleared p w
unfolding cleared
cleared_twice p w =
    let bit1 : (w.bit1 && has_up p && has_up p) ≡ (w.bit1 && has_up p) = and_assoc w.bit1 (has_up p) (has_up p)
    ∙ ap (λ (u : Bool). w.bit1 && u) (and_self (has_up p)) in
    λ i. record { pointer = w.pointer; bit1 = bit1 i; bit0 = w.bit0 }

-- each word lies in its structure, and so in the window
word_fits : (window : ℕ) (c : Configuration) (p : Pointer) → Allowed window c → word_place c p + 4 ≤ window
word_fits window c H2bWrite a = omega (arith, a.rws)
word_fits window c B2hRead a = omega (arith, a.rws)
word_fits window c B2hWrite a = omega (arith, a.ros)
word_fits window c H2bRead a = omega (arith, a.ros)

-- the ring that a pointer points into is one
points_into_ring : (p : Pointer) → is_ring (points_into p) ≡ true
points_into_ring H2bWrite = refl
points_into_ring B2hRead = refl
points_into_ring B2hWrite = refl
points_into_ring H2bRead = refl

-- a ring is clear of both structures
pub ring_clear : (window : ℕ) (c : Configuration) (ring : Area) → is_ring ring ≡ true → Allowed window c
    → Clear c (area_place c ring)
ring_clear window c B2h r a = a.b2h_clear
ring_clear window c H2b r a = a.h2b_clear
ring_clear window c Ros r a = absurd (false≢true r)
ring_clear window c Rws r a = absurd (false≢true r)

pub beside : (c : Configuration) (p : Pointer) (ring : Area) → Clear c (area_place c ring)
    → (word_place c p + 4 ≤ (area_place c ring).offset) ⊎ (end_of (area_place c ring) ≤ word_place c p)
beside c H2bWrite ring k = ⊎_elim (λ (h : _). inr h) (λ (h : _). inl (omega arith)) k.rws
beside c B2hRead ring k = ⊎_elim (λ (h : _). inr (omega arith)) (λ (h : _). inl (omega arith)) k.rws
beside c B2hWrite ring k = ⊎_elim (λ (h : _). inr h) (λ (h : _). inl (omega arith)) k.ros
beside c H2bRead ring k = ⊎_elim (λ (h : _). inr (omega arith)) (λ (h : _). inl (omega arith)) k.ros

-- a word laid where its pointer is held, whatever that pointer is
module _ (s : List ℕ) (c : Configuration) (p : Pointer) (w : Word) where
  abbrev n : ℕ
  n = number_of (cleared p w)

  -- the window keeps its length
  pub with_word-length : length (with_word s c p w) ≡ length s
  with_word-length = laid-length s (word_place c p) (word_bytes high_first n)

  -- a word that does not overlap it stays
  pub with_word_keeps_others : (q : Pointer)
      → (word_place c p + 4 ≤ word_place c q) ⊎ (word_place c q + 4 ≤ word_place c p)
      → word_in (with_word s c p w) c q ≡ word_in s c q
  unfolding word_where
  with_word_keeps_others q h =
      rw (
        with_word-length,
        laid_word_beside high_first s (word_place c p) (word_bytes high_first n) (word_place c q)
            (rw (word-length high_first n) h),
      )

  module _ (ok : allowed (length s) c ≡ true) where
    word_laid : word_in (with_word s c p w) c p ≡ cleared p (word_of n)
    unfolding word_where
    word_laid =
        rw (
          with_word-length,
          ok,
          laid_word high_first s (word_place c p) n (word_fits (length s) c p (allowed_facts (length s) c ok))
              (number_below (cleared p w)),
        )

    -- the word reads back, where its pointer is a multiple of 4 of 32 bits
    pub with_word_back : w.pointer % 4 ≡ 0 → w.pointer < 2 ^ 32 → word_in (with_word s c p w) c p ≡ cleared p w
    unfolding cleared
    with_word_back fours below =
        word_laid ∙ ap (cleared p) (word_back (cleared p w) fours below) ∙ cleared_twice p w

    -- every byte of an area that it does not overlap stays, and so every byte of a ring
    pub with_word_keeps_area : (area : Area)
        → (word_place c p + 4 ≤ (area_place c area).offset) ⊎ (end_of (area_place c area) ≤ word_place c p)
        → area_of (with_word s c p w) c area ≡ area_of s c area
    unfolding area_of place_in
    with_word_keeps_area area h =
        let q = area_place c area in
        rw (with_word-length, ok)
        (laid_beside s (word_place c p) (word_bytes high_first n) q.offset q.length (rw (word-length high_first n) h))

    pub with_word_keeps_rings : (ring : Area) → is_ring ring ≡ true
        → area_of (with_word s c p w) c ring ≡ area_of s c ring
    with_word_keeps_rings ring r =
        with_word_keeps_area ring
        (beside c p ring (ring_clear (length s) c ring r (allowed_facts (length s) c ok)))

-- nothing is refused of a pointer that an allowed configuration's ring can have, and of no other
module _ (window : ℕ) (c : Configuration) (p : Pointer) (at : ℕ) where
  abbrev ring : ℕ
  ring = (area_place c (points_into p)).length

  pub store_good : allowed window c ≡ true → pointer_right ring at ≡ true → store_refusal window c p at ≡ 0
  unfolding store_refusal
  store_good ok right = none_failing (store_order window c p at) 0 (ok, (right, tt))

  pub store_facts : store_refusal window c p at ≡ 0 → (allowed window c ≡ true) × In ring at
  unfolding store_refusal
  store_facts e =
      let held = all_hold (λ (n : ℕ). eqb n 0) (store_order window c p at) 0 refl (eq-eqb _ 0 e) in
      (held.0, pointer_facts ring at held.1.0)

-- 0 is a pointer of every ring, so a reset that stores it is never refused with 12
pub zero_stored : (window : ℕ) (c : Configuration) (p : Pointer) → allowed window c ≡ true
    → store_refusal window c p 0 ≡ 0
zero_stored window c p ok =
    let right = ring_right_lem window c (points_into p) (points_into_ring p) (allowed_facts window c ok) in
    let long = (length_facts (area_place c (points_into p)).length right).low in
    store_good window c p 0 ok
    (pointer_holds (ring window c p 0) 0 (record { fours = refl; below = omega (arith, long) }))

-- a word stored
module _ (s : List ℕ) (c : Configuration) (p : Pointer) (w : Word) where
  abbrev number : ℕ
  number = store_refusal (length s) c p w.pointer

  -- the window keeps its length
  pub stored-length : length (stored s c p w) ≡ length s
  unfolding stored
  stored-length = kept (eqb number 0)
    where
      kept : (b : Bool) → length (pick b (with_word s c p w) s) ≡ length s
      kept true = with_word-length s c p w
      kept false = refl

  -- where refused nothing is stored
  pub stored_refused : (number ≡ 0 → ⊥) → stored s c p w ≡ s
  unfolding stored
  stored_refused never = rw (ne_eqb number 0 never)

  -- what holds of the window, and of what is laid over it, holds of what is stored, refused or not
  stored_either : (P : List ℕ → Type 0) → P s → (number ≡ 0 → P (stored s c p w)) → P (stored s c p w)
  stored_either P same good =
      dite (ℕ_discrete number 0) good (λ (never : number ≡ 0 → ⊥). subst P (sym (stored_refused never)) same)

  module _ (good : number ≡ 0) where
    pub ok : allowed (length s) c ≡ true
    ok = (store_facts (length s) c p w.pointer good).0

    facts : Allowed (length s) c
    facts = allowed_facts (length s) c ok

    pub stored_laid : stored s c p w ≡ with_word s c p w
    unfolding stored
    stored_laid = rw (eq-eqb number 0 good)

    -- a word that is stored reads back
    pub stored_back : word_in (stored s c p w) c p ≡ cleared p w
    stored_back =
        let pointer = (store_facts (length s) c p w.pointer good).1 in
        let right = ring_right_lem (length s) c (points_into p) (points_into_ring p) facts in
        let most = (length_facts (area_place c (points_into p)).length right).high in
        rw stored_laid (with_word_back s c p w ok pointer.fours (omega (arith, pointer.below, most)))

-- a pointer stored alone
module _ (s : List ℕ) (c : Configuration) (p : Pointer) (at : ℕ) where
  abbrev after : Bool → Bool → List ℕ
  after ok read =
      pick (eqb (pick ok (pick (pointer_right (area_place c (points_into p)).length at) 0 12) 1) 0)
      (with_word s c p (pointing (word_where read s c p) at)) s

  -- where it isn't refused the configuration is allowed, so the flags may be read as if it were
  pub pointer_stored : stored s c p (pointing (word_where true s c p) at) ≡ stored_pointer s c p at
  unfolding stored stored_pointer store_refusal
  pointer_stored = same (allowed (length s) c)
    where
      same : (ok : Bool) → after ok true ≡ after ok ok
      same true = refl
      same false = refl

  pub pointer_refused : (store_refusal (length s) c p at ≡ 0 → ⊥) → stored_pointer s c p at ≡ s
  unfolding stored_pointer
  pointer_refused = stored_refused s c p (pointing (word_in s c p) at)

  -- it reads back, and loses no flag
  pub pointer_back : store_refusal (length s) c p at ≡ 0
      → word_in (stored_pointer s c p at) c p ≡ pointing (word_in s c p) at
  unfolding stored_pointer cleared word_where
  pointer_back good =
      let held = word_in s c p in
      let bit1 : (held.bit1 && has_up p) ≡ held.bit1 =
      ap (λ (x : Word). x.bit1)
      (cleared_twice p (word_of (pick (allowed (length s) c) (word_at high_first s (word_place c p)) 0))) in
      stored_back s c p (pointing held at) good ∙ (λ i. record { pointer = at; bit1 = bit1 i; bit0 = held.bit0 })

-- what a stored word leaves
module _ (s : List ℕ) (c : Configuration) (p : Pointer) (w : Word) where
  -- a word that does not overlap it stays
  pub store_keeps_others : (q : Pointer)
      → (word_place c p + 4 ≤ word_place c q) ⊎ (word_place c q + 4 ≤ word_place c p)
      → word_in (stored s c p w) c q ≡ word_in s c q
  store_keeps_others q h =
      stored_either s c p w (λ (l : List ℕ). word_in l c q ≡ word_in s c q) refl
      (λ (good : _). rw (stored_laid s c p w good) (with_word_keeps_others s c p w q h))

  -- and every byte of a ring
  pub store_keeps_rings : (ring : Area) → is_ring ring ≡ true → area_of (stored s c p w) c ring ≡ area_of s c ring
  store_keeps_rings ring r =
      stored_either s c p w (λ (l : List ℕ). area_of l c ring ≡ area_of s c ring) refl
      (λ (good : _). rw (stored_laid s c p w good) (with_word_keeps_rings s c p w (ok s c p w good) ring r))

-- what is stored by an outcome: no refusal has the number 0
pub ruleset stored_either_way = (stored_laid, stored_refused, number_positive)
