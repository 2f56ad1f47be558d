-- `ring::writing::fill` meets its contract: the ring's header, the packet's two pieces and the padding, stored one
-- after the other, are stored as one.
-- Assumes nothing.
use mathlib.Core.Path.{◌≡◌, ◌∙◌}
use mathlib.Core.List.{List, ◌++◌, append_assoc}
use Prim.Native.Nat.{ℕ, ◌+◌, ◌≤◌}
use native.Mathlib.Omega.{arith}
use lib.ListN.{length, replicate, length-append, length-replicate}
use Rattle.octets.specs.Bytes.{laid}
use Rattle.octets.specs.Words.{high_first, word_bytes}
use Rattle.ring.specs.Numbers.{next_of}
use Rattle.ring.specs.Layout.{padding_for, whole_for, header_for, ring_bytes}
use Rattle.ring.specs.Round.{stored}
use Rattle.octets.proofs.Words.{word-length}
use Rattle.ring.proofs.Rounds.{stored_straight, stored_stored}
use Rattle.ring.proofs.writing.fill.Goals as goal

module _ (ring : List ℕ) (p : ℕ) (straight : p + 4 ≤ length ring) where
  -- one piece more, stored where the n bytes before it end
  piece : (a b : List ℕ) {l m : List ℕ} {q n : ℕ} → l ≡ stored ring p a → length a ≡ n → q ≡ next_of (length ring) p n
      → n + length b ≤ length ring → m ≡ stored l q b → m ≡ stored ring p (a ++ b)
  piece a b f e g fits h = rw (h, f, g, ← e) (stored_stored ring p (omega arith) a b (omega arith))

  module _ (header body : List ℕ) (fits : whole_for (length header + length body) ≤ length ring) where
    steps : {l0 l1 l2 l3 : List ℕ} {size word padding q1 q2 q3 : ℕ} → size ≡ length header + length body
        → word ≡ header_for size → padding ≡ padding_for size → q1 ≡ next_of (length ring) p 4
        → q2 ≡ next_of (length ring) p (4 + length header)
        → q3 ≡ next_of (length ring) p (4 + size)
        → l0 ≡ laid ring p (word_bytes high_first word) → l1 ≡ stored l0 q1 header → l2 ≡ stored l1 q2 body
        → l3 ≡ stored l2 q3 (replicate padding 0) → l3 ≡ stored ring p (ring_bytes (header ++ body))
    unfolding ring_bytes
    steps {size = size} {word = word} {padding = padding} es ew ep e1 e2 e3 f0 f1 f2 f3 =
        let w = word_bytes high_first word in
        let pad : List ℕ = replicate padding 0 in
        let four : length w ≡ 4 = word-length high_first word in
        let two : length (w ++ header) ≡ 4 + length header = simp length-append (omega arith) in
        let three : length (w ++ header ++ body) ≡ 4 + size =
        simp length-append (omega arith) in
        let long : length pad ≡ padding = length-replicate {A = ℕ} padding 0 in
        let s0 = f0 ∙ stored_straight ring p w (omega arith) (omega arith) in
        let s1 = piece w header s0 four e1 (omega arith) f1 in
        let s2 = piece (w ++ header) body s1 two e2 (omega arith) f2 in
        let s3 = piece (w ++ header ++ body) pad s2 three e3 (omega arith) f3 in
        rw (length-append header body, ← es, ← ew, ← ep) (s3 ∙ simp append_assoc)

pub returns : goal.returns
returns c =
    steps c.args.ring.now c.args.write c.requires.1 c.args.packet.header.now c.args.packet.body.now c.requires.3
    c.size-size.ensures.pieces
    c.header_for.ensures c.padding_for-padding.ensures c.next.ensures c.next-2.ensures
    c.next-3.ensures c.lay_word.ensures c.copy_in.ensures c.copy_in-2.ensures
    c.pad.ensures
