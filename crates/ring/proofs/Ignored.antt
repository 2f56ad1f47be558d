-- What reading doesn't look at: padding, the reserved bits of the type byte, and every ring byte outside the packet.
-- Assumes nothing.
use mathlib.Core.Path.{◌≡◌, refl, ap, sym, ◌∙◌}
use mathlib.Core.Bool.{Bool}
use mathlib.Core.List.{List, [], ◌∷◌}
use Prim.Native.Nat.{ℕ, ◌+◌, ◌*◌, ◌/◌, ◌%◌, ◌≤◌, ◌<◌}
use native.Mathlib.Nat.{div-div-eq-div-mul}
use native.Mathlib.Omega.{arith}
use lib.ListN.{length, get_or, take, drop, length-take, length-drop}
use lib.Seq.{get_or-take, get_or-drop, ext_get_or}
use Rattle.octets.specs.Bytes.{fronted}
use Rattle.octets.specs.Words.{value, word_at}
use Rattle.ring.specs.Numbers.{filled_of}
use Rattle.ring.specs.Layout.{header_at, padding_field, type_field, whole_of, size_of, packet_of}
use Rattle.ring.specs.Reading.{Found, packet, empty, skipped, refused, judged, found_of, output_after, output_of}
use Rattle.ring.specs.Round.{round_from}
use Rattle.ring.proofs.Readings.{good, good_short}
use Rattle.ring.proofs.Rounds.{round-length}

-- two lists whose headers agree but for the reserved bits: three bytes, and the low half of the fourth
pub record SameHeader (s t : List ℕ) : Type 0 where
  pub first : get_or s 0 0 ≡ get_or t 0 0
  pub second : get_or s 1 0 ≡ get_or t 1 0
  pub third : get_or s 2 0 ≡ get_or t 2 0
  pub kind : get_or s 3 0 % 16 ≡ get_or t 3 0 % 16
  pub byte : get_or s 3 0 < 256
  pub byte_too : get_or t 3 0 < 256

high : (s : List ℕ) → get_or s 3 0 < 256 → header_at s / 256 ≡ value (get_or s 2 0 ∷ get_or s 1 0 ∷ get_or s 0 0 ∷ [])
unfolding word_at
high s b = omega arith

low : (s : List ℕ) → type_field (header_at s) ≡ get_or s 3 0 % 16
unfolding word_at
low s = omega arith

module _ (s t : List ℕ) (h : SameHeader s t) where
  same_high : header_at s / 256 ≡ header_at t / 256
  same_high = high s h.byte ∙ cc (h.first, h.second, h.third) ∙ sym (high t h.byte_too)

  same_padding : padding_field (header_at s) ≡ padding_field (header_at t)
  same_padding = ap (λ (n : ℕ). n % 4) same_high

  same_type : type_field (header_at s) ≡ type_field (header_at t)
  same_type = low s ∙ h.kind ∙ sym (low t)

  same_whole : whole_of (header_at s) ≡ whole_of (header_at t)
  same_whole =
      ap (λ (n : ℕ). (n + 1) * 4)
      (sym (div-div-eq-div-mul (header_at s) 256 4) ∙ ap (λ (n : ℕ). n / 4) same_high
      ∙ div-div-eq-div-mul (header_at t) 256 4)

  same_judged : (most configured read filled : ℕ)
      → judged most configured read filled (header_at s) ≡ judged most configured read filled (header_at t)
  unfolding judged
  same_judged most configured read filled = rw (same_whole, same_padding, same_type)

-- as many bytes from place 4 on, where they agree
same_part : (s t : List ℕ) (n : ℕ) → 4 + n ≤ length s → length s ≡ length t
    → ((k : ℕ) → k < n → get_or s (4 + k) 0 ≡ get_or t (4 + k) 0) → take n (drop 4 s) ≡ take n (drop 4 t)
same_part s t n h l e =
    let a = length-take n (drop 4 s) in
    let b = length-take n (drop 4 t) in
    let x = length-drop 4 s in
    let y = length-drop 4 t in
    ext_get_or 0 (take n (drop 4 s)) (take n (drop 4 t)) (omega arith)
    (λ (k : ℕ) (under : k < length (take n (drop 4 s))).
    let inside : k < n = omega arith in
    get_or-take n (drop 4 s) k 0 inside ∙ get_or-drop 4 s k 0 ∙ e k inside
    ∙ sym (get_or-take n (drop 4 t) k 0 inside ∙ get_or-drop 4 t k 0))

-- the output asks only for the packet
same_after : (found : Found) (s t out : List ℕ)
    → ((size next : ℕ) → found ≡ packet size next → packet_of s ≡ packet_of t)
    → output_after found s out ≡ output_after found t out
same_after (packet size next) s t out e = ap (fronted out) (e size next refl)
same_after empty s t out e = refl
same_after (skipped number next) s t out e = refl
same_after (refused number) s t out e = refl

module _ (most : ℕ) (a b : List ℕ) (configured : ℕ) (readable : Bool) (read write : ℕ) (same : length a ≡ length b)
    (h : SameHeader (round_from read a) (round_from read b)) where
  -- two rings that differ only in reserved bits and after the header get one answer
  pub same_found : (output : ℕ) → found_of most a configured readable read write output
      ≡ found_of most b configured readable read write output
  unfolding found_of
  same_found output =
      rw (
        same,
        same_judged (round_from read a) (round_from read b) h most configured read (filled_of configured read write),
      )

  -- and if they agree in the packet, where there is one, one output: padding and the bytes outside the packet don't
  -- matter
  pub same_output : (out : List ℕ)
      → ((size next : ℕ) → found_of most a configured readable read write (length out) ≡ packet size next → (k : ℕ)
      → k < size → get_or (round_from read a) (4 + k) 0 ≡ get_or (round_from read b) (4 + k) 0)
      → output_of most a configured readable read write out ≡ output_of most b configured readable read write out
  unfolding packet_of
  same_output out e =
      let s = round_from read a in
      let t = round_from read b in
      let agree : (size next : ℕ) → found_of most a configured readable read write (length out) ≡ packet size next
      → packet_of s ≡ packet_of t =
      λ (size next : ℕ) (q : found_of most a configured readable read write (length out) ≡ packet size next).
      let g = good most a configured readable read write (length out) size next q in
      let room = good_short most a configured readable read write (length out) size next g in
      let whole = same_whole s t h in
      let pad = same_padding s t h in
      let sizes : size_of (header_at s) ≡ size_of (header_at t) = omega arith in
      ap (λ (n : ℕ). take n (drop 4 s)) (sym g.sized)
      ∙ same_part s t size (omega (arith, room, round-length read a))
      (round-length read a ∙ same ∙ sym (round-length read b)) (e size next q)
      ∙ ap (λ (n : ℕ). take n (drop 4 t)) (g.sized ∙ sizes) in
      same_after (found_of most a configured readable read write (length out)) s t out agree
      ∙ ap (λ (f : Found). output_after f t out) (same_found (length out))
