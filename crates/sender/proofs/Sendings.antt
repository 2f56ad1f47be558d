-- What each way of sending gives: the carrier's own answer to packet k where it is there, and nothing written where it
-- isn't.
-- Assumes nothing.
use mathlib.Core.Path.{◌≡◌, refl, ap, sym, ◌∙◌}
use mathlib.Core.Bool.{Bool}
use mathlib.Core.List.{List, ◌++◌}
use Prim.Native.Nat.{ℕ, ◌+◌, ◌≤◌, ◌<◌}
use native.Mathlib.Omega.{arith}
use borrow.Author.Tests.{ne_eqb, le-leb, lt-leb}
use lib.Dec.{eqb}
use lib.ListN.{length, length-append}
use Rattle.octets.specs.Bytes.{laid, fronted}
use Rattle.octets.proofs.Choice.{either_way}
use Rattle.octets.proofs.Laid.{laid-append, laid_front}
use Rattle.smbus.specs.Writing as frames
use Rattle.smbus.proofs.Answers.{output_unwritten as frame-unwritten}
use Rattle.pcc.specs.Writing as regions
use Rattle.pcc.proofs.Writings.{written_refused}
use Rattle.mmbi.specs.declared.interface.Flags.{Flags}
use Rattle.mmbi.specs.declared.pointer.Pointers.{Pointers}
use Rattle.mmbi.specs.Interface.{state_of, may_write}
use Rattle.ring.specs.Writing as rings
use Rattle.sender.specs.declared.heading.Heading.{Heading}
use Rattle.sender.specs.Cutting.{packet_at}
use Rattle.sender.specs.Sending.{if_cut, cut_number, output_refusal, output_size, output_written}
use Rattle.sender.specs.Sending.{smbus_refusal, smbus_size, smbus_written}
use Rattle.sender.specs.Sending.{pcc_refusal, pcc_written, ring_entered, ring_written}

-- laid one behind the other
pub laid_pieces : (out header body : List ℕ) → length header ≡ 4 → 4 + length body ≤ length out
    → laid (laid out 0 header) 4 body ≡ fronted out (header ++ body)
laid_pieces out header body four h =
    let place : 4 ≡ 0 + length header = omega arith in
    ap (λ (n : ℕ). laid (laid out 0 header) n body) place
    ∙ sym (laid-append out 0 header body)
    ∙ laid_front out (header ++ body) (omega (arith, length-append header body))

module _ (most : ℕ) (heading : Heading) (message : List ℕ) (k : ℕ) where
  abbrev number : ℕ
  number = cut_number most heading message k

  -- the packet is there: what the carrier makes of it
  module _ (e : number ≡ 0) (packet : List ℕ) (is : packet ≡ packet_at most heading message k) where
    -- an output that holds it, and one that doesn't
    pub by_output : (out : List ℕ) → length packet ≤ length out
        → (0 ≡ output_refusal most heading message k (length out))
        × (length packet ≡ output_size most heading message k (length out))
        × (fronted out packet ≡ output_written most heading message k out)
    unfolding output_refusal output_size output_written
    by_output out h = rw (e, sym is, le-leb (length packet) (length out) h) (refl, refl, refl)

    pub no_room : (out : List ℕ) → length out < length packet
        → (2 ≡ output_refusal most heading message k (length out))
        × (0 ≡ output_size most heading message k (length out))
        × (out ≡ output_written most heading message k out)
    unfolding output_refusal output_size output_written
    no_room out h = rw (e, sym is, lt-leb (length packet) (length out) h) (refl, refl, refl)

    pub by_smbus_lem : (out : List ℕ) (destination source : ℕ)
        → (frames.write_refusal most (length out) (length packet) destination source
        ≡ smbus_refusal most heading message k (length out) destination source)
        × (frames.size_of most (length out) (length packet) destination source
        ≡ smbus_size most heading message k (length out) destination source)
        × (frames.written_of most out packet destination source
        ≡ smbus_written most heading message k out destination source)
    unfolding smbus_refusal smbus_size smbus_written
    by_smbus_lem out destination source = rw (e, is) (refl, refl, refl)

    pub by_pcc_lem : (region : List ℕ) (id : ℕ) (notify : Bool)
        → (regions.write_refusal most (length region) id (length packet)
        ≡ pcc_refusal most heading message k (length region) id)
        × (regions.written_of most region id notify packet ≡ pcc_written most heading message k region id notify)
    unfolding pcc_refusal pcc_written
    by_pcc_lem region id notify = rw (e, is) (refl, refl)

    pub by_ring_lem : (ring : List ℕ) (configured : ℕ) (flags : Flags) (pointers : Pointers)
        → (rings.entered_of most (length ring) configured (may_write (state_of flags)) pointers.read pointers.write
        (length packet) ≡ ring_entered most heading message k (length ring) configured flags pointers)
        × (rings.written_of most ring configured (may_write (state_of flags)) pointers.read pointers.write packet
        ≡ ring_written most heading message k ring configured flags pointers)
    unfolding ring_entered ring_written
    by_ring_lem ring configured flags pointers = rw (e, is) (refl, refl)

-- "nothing is written": where the answer is a refusal, be it of cutting or the carrier's own, what was lent stays
if_refused : (cut own : ℕ) (written lent : List ℕ) → (if_cut cut own cut ≡ 0 → ⊥)
    → ((own ≡ 0 → ⊥) → written ≡ lent) → if_cut cut written lent ≡ lent
if_refused cut own written lent refused rest =
    either_way (eqb cut 0) (λ t. rw t (rest (λ (e : own ≡ 0). refused (rw t e)))) (λ t. rw t)

module _ (most : ℕ) (heading : Heading) (message : List ℕ) (k : ℕ) where
  pub output_unwritten : (out : List ℕ) → (output_refusal most heading message k (length out) ≡ 0 → ⊥)
      → output_written most heading message k out ≡ out
  unfolding output_written
  output_unwritten out refused = rw (ne_eqb (output_refusal most heading message k (length out)) 0 refused)

  pub smbus_unwritten : (out : List ℕ) (destination source : ℕ)
      → (smbus_refusal most heading message k (length out) destination source ≡ 0 → ⊥)
      → smbus_written most heading message k out destination source ≡ out
  unfolding smbus_refusal smbus_written
  smbus_unwritten out destination source refused =
      if_refused (cut_number most heading message k) _ _ out refused
      (frame-unwritten most out (packet_at most heading message k) destination source)

  pub pcc_unwritten : (region : List ℕ) (id : ℕ) (notify : Bool)
      → (pcc_refusal most heading message k (length region) id ≡ 0 → ⊥)
      → pcc_written most heading message k region id notify ≡ region
  unfolding pcc_refusal pcc_written
  pcc_unwritten region id notify refused =
      if_refused (cut_number most heading message k) _ _ region refused
      (λ n. written_refused region (packet_at most heading message k) id notify most (omega arith))

  pub ring_unwritten : (ring : List ℕ) (configured : ℕ) (flags : Flags) (pointers : Pointers) (n : ℕ)
      → ring_entered most heading message k (length ring) configured flags pointers ≡ rings.refused n
      → ring_written most heading message k ring configured flags pointers ≡ ring
  unfolding ring_entered ring_written
  ring_unwritten ring configured flags pointers n e =
      either_way (eqb (cut_number most heading message k) 0)
      (λ t. rw t (ap (λ (a : rings.Entered). rings.ring_after a ring pointers.write (packet_at most heading message k))
      (rw t at e)))
      (λ t. rw t)
