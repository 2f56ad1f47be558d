-- `pec::word::behind` meets its contract. The loop's invariant: the word, with the bytes that are left, has the
-- remainder of the first word with all of them.
-- Assumes nothing.
use mathlib.Core.Path.{◌≡◌, sym, ap, ◌∙◌}
use mathlib.Core.List.{List, []}
use Prim.Native.Nat.{ℕ, ◌+◌, ◌*◌, ◌%◌, ◌/◌, ◌≤◌}
use native.Mathlib.Omega.{arith}
use lib.Bits.{bit_xor}
use lib.ListN.{length, get_or, take, drop}
use lib.Seq.{drop-length, drop-drop}
use Rattle.octets.specs.Bytes.{Below}
use Rattle.pec.specs.Remainder.{pec_from}
use Rattle.pec.specs.Words.{number_at, word_from, word_pec}
use Rattle.pec.proofs.Words.{comes, number_of_part, number_of_eight, chunk_at}
use Rattle.pec.proofs.word.behind.Goals as goal

pub loop-eight-init : goal.loop-eight-init
loop-eight-init c =
    let s : List ℕ = c.args.s.now in
    let w : ℕ = c.args.w in
    let n : ℕ = length s % 8 in
    let bytes : Below 256 s = λ k. omega (arith, c.type_inv.s k) in
    let parts = c.as_rchunks.ensures in
    let moved : word_pec c.shifted.result ≡ word_from (word_pec w) n 0 =
    c.shifted.ensures ∙ ap (λ (k : ℕ). word_from (word_pec w) k 0) parts.front_len in
    let number : c.number.result ≡ number_at s 0 n =
    c.number.ensures ∙ (λ i. number_at (parts.front i) 0 (parts.front_len i)) ∙ number_of_part s 0 n in
    let place : n + 0 * 8 ≡ 0 + n = omega arith in
    ap (λ (k : ℕ). pec_from (word_pec (bit_xor c.shifted.result c.number.result)) (drop k s)) place
    ∙ comes s bytes w c.shifted.result c.number.result 0 n (omega arith) (omega arith) moved number

pub loop-eight-preserved : goal.loop-eight-preserved
loop-eight-preserved c =
    let s : List ℕ = c.args.s.now in
    let n : ℕ = length s % 8 in
    let k : ℕ = c.loop-eight.eight-index in
    let i : ℕ = n + k * 8 in
    let bytes : Below 256 s = λ k. omega (arith, c.type_inv.s k) in
    let parts = c.as_rchunks.ensures in
    let words : List (List ℕ) = c.as_rchunks.result.1.now in
    let there : i + 8 ≤ length s = omega (arith, parts.back_len) in
    let eight : get_or words k [] ≡ take 8 (drop i s) =
    ap (λ (l : List (List ℕ)). get_or l k []) parts.back
    ∙ chunk_at (drop n s) (length s / 8) k (omega (arith, parts.back_len))
    ∙ ap (take 8) (drop-drop (k * 8) n s) in
    let number : c.from_be_bytes.result ≡ number_at s i 8 =
    c.from_be_bytes.ensures ∙ number_of_eight (get_or words k [])
    ∙ ap (λ (l : List ℕ). number_at l 0 8) eight
    ∙ number_of_part s i 8 in
    let next : n + (k + 1) * 8 ≡ i + 8 = omega arith in
    rw next
    (comes s bytes c.loop-eight.all c.shifted_word.result c.from_be_bytes.result i 8 (omega arith) there
    c.shifted_word.ensures number
    ∙ c.loop-eight.invariant)

pub returns : goal.returns
unfolding pec_from
returns c =
    let s : List ℕ = c.args.s.now in
    let all : length s % 8 + c.loop-eight.eight-index * 8 ≡ length s = omega (arith, c.as_rchunks.ensures.back_len) in
    sym (ap (pec_from (word_pec c.loop-eight.all)) (ap (λ (n : ℕ). drop n s) all ∙ drop-length s))
    ∙ c.loop-eight.invariant
