-- A ring lent out of a window comes back with other bytes, as many: descriptor, words and the other ring stay.
-- Assumes nothing.
use mathlib.Core.Path.{◌≡◌, refl, ap, sym, ◌∙◌}
use mathlib.Core.Bool.{true, false≢true}
use mathlib.Core.List.{List, ◌++◌}
use mathlib.Core.Logic.{◌⊎◌, inl, inr, ⊎_elim}
use Prim.Native.Nat.{ℕ, ◌+◌, ◌≤◌}
use native.Mathlib.Omega.{arith}
use lib.ListN.{length, take, drop}
use lib.Seq.{length-take-le, take_at, drop_at, drop-drop}
use Rattle.octets.specs.Bytes.{part}
use Rattle.octets.specs.Words.{high_first}
use Rattle.octets.proofs.Laid.{laid_fits, laid-length}
use Rattle.descriptor.specs.declared.configuration.Configuration.{Configuration}
use Rattle.descriptor.specs.declared.configuration.Area.{Area}
use Rattle.descriptor.specs.declared.configuration.Area.TheVariants.{B2h, H2b, Ros, Rws}
use Rattle.descriptor.specs.Places.{end_of}
use Rattle.descriptor.specs.Configuration.{area_place, is_ring, allowed}
use Rattle.descriptor.proofs.Places.{Apart}
use Rattle.descriptor.proofs.Configurations.{Allowed, allowed_facts}
use Rattle.mmbi.proofs.PointerNumbers.{length_facts}
use Rattle.window.specs.declared.word.Pointer.{Pointer}
use Rattle.window.specs.declared.word.Pointer.TheVariants.{H2bWrite, B2hRead, B2hWrite, H2bRead}
use Rattle.window.specs.Places.{place_in, area_of}
use Rattle.window.specs.Words.{word_place, word_where, word_in, interface_in}
use Rattle.window.specs.PutBack.{put_back, RingChanged}
use Rattle.octets.proofs.Laid.{laid_beside}
use Rattle.octets.proofs.Words.{laid_word_beside}
use Rattle.window.proofs.Areas.{area_fits, ring_right_lem}
use Rattle.window.proofs.Stores.{ring_clear, beside}

-- a ring is apart from every other area
areas_apart : (window : ℕ) (c : Configuration) (ring other : Area) → is_ring ring ≡ true → (other ≡ ring → ⊥)
    → Allowed window c → Apart (area_place c ring) (area_place c other)
areas_apart window c B2h B2h r e a = absurd (e refl)
areas_apart window c B2h H2b r e a = a.rings
areas_apart window c B2h Ros r e a = a.b2h_clear.ros
areas_apart window c B2h Rws r e a = a.b2h_clear.rws
areas_apart window c H2b B2h r e a = ⊎_elim (λ (h : _). inr h) (λ (h : _). inl h) a.rings
areas_apart window c H2b H2b r e a = absurd (e refl)
areas_apart window c H2b Ros r e a = a.h2b_clear.ros
areas_apart window c H2b Rws r e a = a.h2b_clear.rws
areas_apart window c Ros other r e a = absurd (false≢true r)
areas_apart window c Rws other r e a = absurd (false≢true r)

module _ (s : List ℕ) (c : Configuration) (ring : Area) (bytes : List ℕ) (is : is_ring ring ≡ true)
    (ok : allowed (length s) c ≡ true) (fits : length bytes ≡ (area_place c ring).length) where
  facts : Allowed (length s) c
  facts = allowed_facts (length s) c ok

  abbrev after : List ℕ
  after = put_back s c ring bytes

  abbrev place : ℕ
  place = (area_place c ring).offset

  abbrev rest : List ℕ
  rest = drop (place + length bytes) s

  kept-length : length after ≡ length s
  kept-length = laid-length s place bytes

  laid_there : after ≡ take place s ++ (bytes ++ rest)
  laid_there = laid_fits s place bytes (omega (arith, area_fits (length s) c ring facts, fits))

  front : length (take place s) ≡ place
  front = length-take-le place s (omega (arith, area_fits (length s) c ring facts))

  -- what lies before the ring, and behind it
  before_stays : take place after ≡ take place s
  before_stays = ap (take place) laid_there ∙ take_at (take place s) _ place front

  behind_stays : drop (end_of (area_place c ring)) after ≡ drop (end_of (area_place c ring)) s
  behind_stays =
      let n = (area_place c ring).length in
      ap (drop (place + n)) laid_there
      ∙ sym (drop-drop n place (take place s ++ (bytes ++ rest)))
      ∙ ap (drop n) (drop_at (take place s) (bytes ++ rest) place front)
      ∙ drop_at bytes rest n fits
      ∙ ap (λ (k : ℕ). drop (place + k) s) fits

  -- the descriptor
  descriptor_stays : take 64 after ≡ take 64 s
  descriptor_stays =
      let least = (length_facts (area_place c ring).length (ring_right_lem (length s) c ring is facts)).low in
      laid_beside s place bytes 0 64
      (⊎_elim (λ (h : _). absurd (omega (arith, least))) (λ (h : _). inr h)
      (ring_clear (length s) c ring is facts).descriptor)

  word_stays : (p : Pointer) → word_in after c p ≡ word_in s c p
  unfolding word_where
  word_stays p =
      let apart : (place + length bytes ≤ word_place c p) ⊎ (word_place c p + 4 ≤ place) =
      ⊎_elim (λ (h : _). inr h) (λ (h : _). inl (omega (arith, fits)))
      (beside c p ring (ring_clear (length s) c ring is facts)) in
      rw (kept-length, laid_word_beside high_first s place bytes (word_place c p) apart)

  -- all four words
  words_stay : interface_in after c ≡ interface_in s c
  unfolding interface_in
  words_stay = rw (word_stays H2bWrite, word_stays B2hRead, word_stays B2hWrite, word_stays H2bRead)

  -- both structures and the other ring
  others_stay : (other : Area) → (other ≡ ring → ⊥) → area_of after c other ≡ area_of s c other
  unfolding area_of place_in
  others_stay other e =
      let q = area_place c other in
      rw (kept-length, ok)
      (laid_beside s place bytes q.offset q.length
      (⊎_elim (λ (h : _). inl (omega (arith, fits))) (λ (h : _). inr h)
      (areas_apart (length s) c ring other is e facts)))

  -- and the ring itself has the bytes that came back
  ring_is_back : area_of after c ring ≡ bytes
  unfolding area_of place_in
  ring_is_back =
      let n = (area_place c ring).length in
      rw (kept-length, ok)
      (ap (λ (l : List ℕ). part l place n) laid_there
      ∙ ap (take n) (drop_at (take place s) (bytes ++ rest) place front)
      ∙ take_at bytes rest n fits)

  pub put_back_lem : RingChanged s c ring bytes
  put_back_lem =
      record {
        before = before_stays;
        behind = behind_stays;
        descriptor = descriptor_stays;
        others = others_stay;
        words = words_stay;
        itself = ring_is_back;
      }
