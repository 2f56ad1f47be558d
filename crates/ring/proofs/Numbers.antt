-- A ring's numbers: filled and next below the length and at the ring's end, how they move with each other, and what
-- the tests of set-up and pointers say. Only the first laws look inside `%`.
-- Assumes nothing.
use mathlib.Core.Path.{◌≡◌, refl, ap, sym, ◌∙◌}
use mathlib.Core.Bool.{true, ◌&&◌}
use mathlib.Core.Logic.{◌⊎◌, inl, inr, ⊎_elim, by_cases}
use Prim.Native.Nat.{ℕ, ◌+◌, ◌-◌, ◌%◌, ◌≤◌, ◌<◌}
use native.Mathlib.Nat.{mod-lt, mod-eq_of_lt, mod-eq-sub-mod, mod-add-mod, add_assoc}
use native.Mathlib.Decide.{dec_lt}
use native.Mathlib.Omega.{arith}
use borrow.Author.Tests.{eqb-true, eq-eqb}
use lib.Dec.{eqb}
use Rattle.octets.proofs.Choice.{both, within_bounds, within_holds}
use Rattle.mctp.specs.Packet.{body_right}
use Rattle.mmbi.specs.Pointers.{length_right, pointer_right}
use Rattle.mmbi.proofs.PointerNumbers.{Length, length_facts, length_holds, Pointer, pointer_facts, pointer_holds}
use Rattle.ring.specs.Numbers.{set_up_right, pointers_right, filled_of, room_of, next_of}

module _ (length pointer : ℕ) (n : ℕ) where
  pub next_near : pointer + n < length → next_of length pointer n ≡ pointer + n
  unfolding next_of
  next_near h = mod-eq_of_lt h

  pub next_over : length ≤ pointer + n → pointer + n < length + length → next_of length pointer n ≡ pointer + n - length
  unfolding next_of
  next_over h k = mod-eq-sub-mod h ∙ mod-eq_of_lt (omega arith)

  pub next_below : 0 < length → next_of length pointer n < length
  unfolding next_of
  next_below h = mod-lt (pointer + n) h

module _ (length read write : ℕ) where
  pub filled_near : read ≤ write → write < length → filled_of length read write ≡ write - read
  unfolding filled_of
  filled_near h k = mod-eq-sub-mod (omega arith) ∙ mod-eq_of_lt (omega arith) ∙ omega arith

  pub filled_over : write < read → read < length → filled_of length read write ≡ length + write - read
  unfolding filled_of
  filled_over h k = mod-eq_of_lt (omega arith)

-- filled, by the order of the pointers
module _ (length read write : ℕ) (r : read < length) (w : write < length) where
  pub filled_cases : ((filled_of length read write ≡ write - read) × (read ≤ write))
      ⊎ ((filled_of length read write ≡ length + write - read) × (write < read))
  filled_cases =
      by_cases (dec_lt write read)
      (λ (h : write < read). inr (filled_over length read write h r, h))
      (λ (h : write < read → ⊥). inl (filled_near length read write (omega arith) w, omega arith))

  pub filled_below : filled_of length read write < length
  filled_below = ⊎_elim (λ c. omega arith) (λ c. omega arith) filled_cases

  -- "Equal pointers mean empty."
  pub filled_empty : filled_of length read write ≡ 0 → read ≡ write
  filled_empty e = ⊎_elim (λ c. omega arith) (λ c. omega arith) filled_cases

-- next, before the ring's end or over it
module _ (length pointer n : ℕ) (p : pointer < length) (s : n ≤ length) where
  pub next_cases : ((next_of length pointer n ≡ pointer + n) × (pointer + n < length))
      ⊎ ((next_of length pointer n ≡ pointer + n - length) × (length ≤ pointer + n))
  next_cases =
      by_cases (dec_lt (pointer + n) length)
      (λ (h : pointer + n < length). inl (next_near length pointer n h, h))
      (λ (h : pointer + n < length → ⊥). inr (next_over length pointer n (omega arith) (omega arith), omega arith))

  pub next_right : length % 4 ≡ 0 → pointer % 4 ≡ 0 → n % 4 ≡ 0 → Pointer length (next_of length pointer n)
  next_right l f g =
      ⊎_elim (λ c. record { fours = ap (λ (k : ℕ). k % 4) c.0 ∙ omega arith; below = omega arith })
      (λ c. record { fours = ap (λ (k : ℕ). k % 4) c.0 ∙ omega arith; below = omega arith }) next_cases

  -- two steps are one
  pub next_next : (m : ℕ) → n + m ≤ length → next_of length (next_of length pointer n) m
      ≡ next_of length pointer (n + m)
  unfolding next_of
  next_next m h = mod-add-mod (pointer + n) length m ∙ ap (λ (k : ℕ). k % length) (add_assoc pointer n m)

-- the write pointer stands after what is filled
pub next_filled : (length read write : ℕ) → read < length → write < length
    → next_of length read (filled_of length read write) ≡ write
next_filled length read write r w =
    ⊎_elim
    (λ c. ap (next_of length read) c.0 ∙ next_near length read (write - read) (omega arith) ∙ omega arith)
    (λ c. ap (next_of length read) c.0 ∙ next_over length read (length + write - read) (omega arith) (omega arith)
    ∙ omega arith)
    (filled_cases length read write r w)

-- as many bytes after a pointer as are filled
pub filled_next : (length read n : ℕ) → read < length → n < length → filled_of length read (next_of length read n) ≡ n
filled_next length read n r h =
    ⊎_elim
    (λ c. ap (filled_of length read) c.0 ∙ filled_near length read (read + n) (omega arith) (omega arith)
    ∙ omega arith)
    (λ c. ap (filled_of length read) c.0 ∙ filled_over length read (read + n - length) (omega arith) (omega arith)
    ∙ omega arith)
    (next_cases length read n r (omega arith))

module _ (length read write n : ℕ) (r : read < length) (w : write < length) where
  -- n bytes put in
  pub filled_written : filled_of length read write + n < length
      → filled_of length read (next_of length write n) ≡ filled_of length read write + n
  filled_written h =
      let f = filled_below length read write r w in
      ap (λ (p : ℕ). filled_of length read (next_of length p n)) (sym (next_filled length read write r w))
      ∙ ap (filled_of length read) (next_next length read (filled_of length read write) r (omega arith) n (omega arith))
      ∙ filled_next length read (filled_of length read write + n) r h

  -- n bytes taken out
  pub filled_taken : n ≤ filled_of length read write
      → filled_of length (next_of length read n) write ≡ filled_of length read write - n
  filled_taken h =
      let f = filled_below length read write r w in
      let rest : n + (filled_of length read write - n) ≡ filled_of length read write = omega arith in
      ap (filled_of length (next_of length read n))
      (sym (next_filled length read write r w) ∙ ap (next_of length read) (sym rest)
      ∙ sym (next_next length read n r (omega arith) (filled_of length read write - n) (omega arith)))
      ∙ filled_next length (next_of length read n) (filled_of length read write - n)
      (next_below length read n (omega arith)) (omega arith)

-- a ring and its pointers are multiples of 4, so four bytes at least stay free
module _ (length read write : ℕ) (r : read < length) (w : write < length)
    (l : length % 4 ≡ 0) (rs : read % 4 ≡ 0) (ws : write % 4 ≡ 0) where
  left_fours : filled_of length read write % 4 ≡ 0
  left_fours =
      ⊎_elim (λ c. ap (λ (k : ℕ). k % 4) c.0 ∙ omega arith) (λ c. ap (λ (k : ℕ). k % 4) c.0 ∙ omega arith)
      (filled_cases length read write r w)

  pub room_left : filled_of length read write + 4 ≤ length
  room_left = omega (arith, filled_below length read write r w, left_fours, l)

pub room_below : (length read write : ℕ) → room_of length read write ≤ length
unfolding room_of
room_below length read write = omega arith

module _ (length read write : ℕ) (l : Length length) (r : Pointer length read) (w : Pointer length write) where
  pub filled_fours : filled_of length read write % 4 ≡ 0
  filled_fours = left_fours length read write r.below w.below l.fours r.fours w.fours

  pub filled_high : filled_of length read write + 4 ≤ length
  filled_high = room_left length read write r.below w.below l.fours r.fours w.fours

  -- a header always fits in what is filled, once the ring is not empty
  pub filled_header : (read ≡ write → ⊥) → 4 ≤ filled_of length read write
  filled_header some =
      by_cases (dec_lt (filled_of length read write) 4)
      (λ (h : filled_of length read write < 4). absurd
      (some (filled_empty length read write r.below w.below (omega (arith, filled_fours)))))
      (λ (h : filled_of length read write < 4 → ⊥). omega arith)

  -- "Room is length − filled − 4"
  pub filled_room : filled_of length read write + room_of length read write + 4 ≡ length
  unfolding room_of
  filled_room = omega (arith, filled_high)

  -- "so a full ring never looks empty"
  pub full_not_empty : room_of length read write ≡ 0 → read ≡ write → ⊥
  full_not_empty full e =
      let none : filled_of length read read ≡ 0 = filled_near length read read (omega arith) r.below ∙ omega arith in
      omega (arith, filled_room, none, ap (filled_of length read) e, l.low)

-- what 1 lets through
pub record SetUp (most configured lent : ℕ) : Type 0 where
  pub low : 64 ≤ most
  pub high : most ≤ 246
  pub size : Length configured
  pub same : configured ≡ lent

pub set_up_facts : (most configured lent : ℕ) → set_up_right most configured lent ≡ true → SetUp most configured lent
set_up_facts most configured lent e =
    let h = both (body_right most && length_right configured) (eqb configured lent) e in
    let k = both (body_right most) (length_right configured) h.0 in
    let m = within_bounds 64 246 most k.0 in
    record { low = m.0; high = m.1; size = length_facts configured k.1; same = eqb-true configured lent h.1 }

pub set_up_holds : (most configured lent : ℕ) → SetUp most configured lent → set_up_right most configured lent ≡ true
set_up_holds most configured lent h =
    rw (
      within_holds 64 246 most h.low h.high,
      length_holds configured h.size,
      eq-eqb configured lent h.same,
    )

-- what 12 lets through
pub pointers_facts : (configured read write : ℕ) → pointers_right configured read write ≡ true
    → Pointer configured read × Pointer configured write
pointers_facts configured read write e =
    let h = both (pointer_right configured read) (pointer_right configured write) e in
    (pointer_facts configured read h.0, pointer_facts configured write h.1)

pub pointers_holds : (configured read write : ℕ) → Pointer configured read → Pointer configured write
    → pointers_right configured read write ≡ true
pointers_holds configured read write r w = rw (pointer_holds configured read r, pointer_holds configured write w)

-- a ring of 256 bytes: filled over its end, empty, and full (document 01's own numbers stand in the demands' list)
pub numbers_over : (filled_of 256 200 40 ≡ 96) × (room_of 256 200 40 ≡ 156)
unfolding filled_of room_of
numbers_over = (refl, refl)

pub numbers_empty : (filled_of 256 64 64 ≡ 0) × (room_of 256 64 64 ≡ 252)
unfolding filled_of room_of
numbers_empty = (refl, refl)

pub numbers_full : (filled_of 256 68 64 ≡ 252) × (room_of 256 68 64 ≡ 0)
unfolding filled_of room_of
numbers_full = (refl, refl)
