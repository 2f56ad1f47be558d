-- A part moved to the front.
-- Assumes nothing.
use mathlib.Core.Path.{◌≡◌, refl, ap, sym, ◌∙◌}
use mathlib.Core.List.{List, [], ◌∷◌, ◌++◌}
use Prim.Native.Nat.{ℕ, ◌+◌, ◌-◌, ◌≤◌, ◌<◌, min}
use native.Mathlib.Omega.{arith}
use lib.ListN.{length, take, drop, length-take, length-drop}
use lib.Seq.{length-take-le, take-add, take-append_seam, drop_at}
use Rattle.octets.specs.Bytes.{laid, fronted}
use Rattle.std.specs.List.{copy_within}
use Rattle.std.proofs.lemmas.List.{take_min}
use Rattle.octets.proofs.Laid.{laid_front, laid_fits}
use Rattle.transcript.specs.Front.{between, moved_of}

no_bytes : (l : List ℕ) → length l ≡ 0 → l ≡ []
no_bytes [] h = refl
no_bytes (x ∷ l) h = absurd (omega arith)

module _ (s : List ℕ) (from end : ℕ) where
  pub between_size : length (between s from end) ≡ min end (length s) - from
  unfolding between
  between_size = simp (length-take, length-drop) (omega arith)

  pub between_is : from ≤ end → from ≤ length s → between s from end ≡ drop from (take end s)
  unfolding between
  between_is h k =
      let all : from + (end - from) ≡ end = omega arith in
      sym (drop_at (take from s) (take (end - from) (drop from s)) from (length-take-le from s k))
      ∙ ap (drop from) (sym (take-add from (end - from) s) ∙ ap (λ (n : ℕ). take n s) all)

  -- where nothing stands there, nothing moves
  pub moved_none : min end (length s) ≤ from → (0 ≡ length (between s from end)) × (s ≡ moved_of s from end)
  unfolding moved_of laid between
  moved_none h =
      let none : between s from end ≡ [] = no_bytes (between s from end) (omega (arith, between_size)) in
      (omega (arith, between_size), rw none)

  -- a copy of what there is up to the end is the part moved
  pub moved_copied : (stop : ℕ) → stop ≡ min end (length s) → from < stop
      → copy_within s from stop 0 ≡ moved_of s from end
  unfolding moved_of between
  moved_copied stop is h =
      let count : stop - from ≡ min (end - from) (length (drop from s)) = omega (arith, length-drop from s) in
      let moved : take (stop - from) (drop from s) ≡ between s from end =
      ap (λ (n : ℕ). take n (drop from s)) count ∙ take_min (end - from) (drop from s) in
      let size : length (between s from end) ≡ stop - from = omega (arith, between_size) in
      let fits = laid_fits s 0 (between s from end) (omega (arith, size)) in
      (λ i. moved i ++ drop (0 + sym size i) s) ∙ sym fits

  -- what was moved stands at the front
  pub moved_front : take (length (between s from end)) (moved_of s from end) ≡ between s from end
  unfolding moved_of fronted
  moved_front =
      rw (laid_front s (between s from end) (omega (arith, between_size)))
      (take-append_seam (between s from end) (drop (length (between s from end)) s))
