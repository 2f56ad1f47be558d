-- Flags stored into a window: they read back, the pointer beside them stays, right for its ring or not, and so do all
-- other words and every byte of a ring. Nothing is stored where the configuration is refused.
-- Assumes nothing.
use mathlib.Core.Path.{◌≡◌, refl, ◌∙◌}
use mathlib.Core.Bool.{true, false, ◌&&◌, and-true}
use mathlib.Core.List.{List}
use mathlib.Core.Logic.{inl, inr, ⊎_elim}
use Prim.Native.Nat.{ℕ, ◌^◌, ◌≤◌, ◌<◌}
use native.Mathlib.Omega.{arith}
use lib.ListN.{length}
use Rattle.octets.specs.Bytes.{Below}
use Rattle.octets.specs.Words.{high_first}
use Rattle.octets.proofs.Choice.{pick_elim}
use Rattle.octets.proofs.Words.{word_below}
use Rattle.mmbi.specs.declared.change.Act.{Act}
use Rattle.mmbi.specs.declared.change.Change.{Change}
use Rattle.mmbi.specs.declared.change.Change.TheVariants.{Nothing, Host, Controller}
use Rattle.mmbi.specs.declared.word.Word.{Word}
use Rattle.mmbi.specs.Changes.{changed_flags, changed_word}
use Rattle.mmbi.specs.Words.{word_of}
use Rattle.descriptor.specs.declared.configuration.Configuration.{Configuration}
use Rattle.descriptor.specs.declared.configuration.Area.{Area}
use Rattle.descriptor.specs.declared.configuration.Area.TheVariants.{Ros, Rws}
use Rattle.descriptor.specs.Configuration.{area_place, is_ring, allowed}
use Rattle.descriptor.proofs.Places.{Apart}
use Rattle.window.specs.declared.word.Pointer.{Pointer}
use Rattle.window.specs.declared.word.Pointer.TheVariants.{H2bWrite, B2hRead, B2hWrite, H2bRead}
use Rattle.window.specs.Places.{refusal_of, area_of}
use Rattle.window.specs.Words.{word_place, has_up, cleared, word_where, word_in, interface_in, with_flags, with_change}
use Rattle.window.specs.Words.{with_word, stored_flags, reflagged}
use Rattle.window.proofs.Interfaces.{pointer_aligned}
use Rattle.window.proofs.Stores.{with_word-length, with_word_keeps_others, with_word_back}
use Rattle.window.proofs.Stores.{with_word_keeps_area, with_word_keeps_rings}

-- 0 or 1, so never 12: no pointer is judged
pub flags_number : (window : ℕ) (c : Configuration) → refusal_of window c ≤ 1
unfolding refusal_of
flags_number window c =
    pick_elim (λ (n : ℕ). n ≤ 1) (allowed window c) 0 1 (λ (e : _). omega arith) (λ (e : _). omega arith)

-- where the configuration is refused nothing is stored
pub flags_refused : (s : List ℕ) (c : Configuration) (change : Change) → allowed (length s) c ≡ false
    → stored_flags s c change ≡ s
unfolding stored_flags
flags_refused s c change e = rw e

flags_laid : (s : List ℕ) (c : Configuration) (change : Change) → allowed (length s) c ≡ true
    → stored_flags s c change ≡ with_change s c change
unfolding stored_flags
flags_laid s c change e = rw e

-- what holds of the window, and of what is laid over it where that is allowed, holds of what is stored
flags_either : (P : List ℕ → Type 0) (s : List ℕ) (c : Configuration) (change : Change) → P s
    → ((p : Pointer) (w : Word) → allowed (length s) c ≡ true → P (with_word s c p w))
    → P (stored_flags s c change)
unfolding stored_flags
flags_either P s c change same laid =
    pick_elim P (allowed (length s) c) _ _ (either change) (λ (e : _). same)
  where
    either : (k : Change) → allowed (length s) c ≡ true → P (with_change s c k)
    either Nothing ok = same
    either (Host act) ok = laid H2bWrite _ ok
    either (Controller act) ok = laid B2hWrite _ ok

-- the window keeps its length
pub flags-length : (s : List ℕ) (c : Configuration) (change : Change) → length (stored_flags s c change) ≡ length s
flags-length s c change =
    flags_either (λ (l : List ℕ). length l ≡ length s) s c change refl
    (λ (p : Pointer) (w : Word) (ok : _). with_word-length s c p w)

-- every byte of a ring stays
pub flags_keep_rings : (s : List ℕ) (c : Configuration) (change : Change) (ring : Area) → is_ring ring ≡ true
    → area_of (stored_flags s c change) c ring ≡ area_of s c ring
flags_keep_rings s c change ring r =
    flags_either (λ (l : List ℕ). area_of l c ring ≡ area_of s c ring) s c change refl
    (λ (p : Pointer) (w : Word) (ok : _). with_word_keeps_rings s c p w ok ring r)

-- a change of the host's flags leaves every byte of Host_ROS, one of the controller's every byte of Host_RWS, where the
-- two do not overlap
pub flags_keep_structure : (s : List ℕ) (c : Configuration) → allowed (length s) c ≡ true
    → Apart (area_place c Ros) (area_place c Rws) → (act : Act)
    → (area_of (stored_flags s c (Host act)) c Ros ≡ area_of s c Ros)
    × (area_of (stored_flags s c (Controller act)) c Rws ≡ area_of s c Rws)
flags_keep_structure s c ok apart act = (
  rw (flags_laid s c (Host act) ok)
      (with_word_keeps_area s c H2bWrite _ ok Ros
      (⊎_elim (λ (h : _). inr h) (λ (h : _). inl (omega arith)) apart)),
  rw (flags_laid s c (Controller act) ok)
      (with_word_keeps_area s c B2hWrite _ ok Rws
      (⊎_elim (λ (h : _). inl (omega arith)) (λ (h : _). inr h) apart)),
)

-- nothing is reserved beside a write pointer
both_flags : (p : Pointer) → has_up p ≡ true → (w : Word) → cleared p w ≡ w
unfolding cleared
both_flags p up w =
    let bit1 : (w.bit1 && has_up p) ≡ w.bit1 = rw up (and-true w.bit1) in
    λ i. record { pointer = w.pointer; bit1 = bit1 i; bit0 = w.bit0 }

-- a window of bytes, with a configuration that it allows
module _ (s : List ℕ) (c : Configuration) (bytes : Below 256 s) (ok : allowed (length s) c ≡ true) where
  -- whatever pointer stands in a word, it has 32 bits
  pointer_below : (p : Pointer) → (word_where true s c p).pointer < 2 ^ 32
  unfolding word_where cleared word_of
  pointer_below p = omega (arith, word_below high_first s (word_place c p) bytes)

  laid_back : (p : Pointer) → has_up p ≡ true → (act : Act)
      → word_in (with_flags s c p act) c p ≡ changed_word act (word_in s c p)
  unfolding changed_word
  laid_back p up act =
      let held = word_where true s c p in
      rw ok
      (with_word_back s c p (changed_word act held) ok (rw ok at (pointer_aligned s c p)) (pointer_below p)
      ∙ both_flags p up (changed_word act held))

  -- an end's word reads back with its flags changed and the pointer that stood in it, all 30 bits, right for its ring
  -- or not
  pub flags_back : (act : Act)
      → (word_in (stored_flags s c (Host act)) c H2bWrite ≡ changed_word act (word_in s c H2bWrite))
      × (word_in (stored_flags s c (Controller act)) c B2hWrite ≡ changed_word act (word_in s c B2hWrite))
  flags_back act = (
    rw (flags_laid s c (Host act) ok) (laid_back H2bWrite refl act),
    rw (flags_laid s c (Controller act) ok) (laid_back B2hWrite refl act),
  )

  -- the four words say what they said, but for the flags that are changed. Document 01 lets the two structures overlap;
  -- where they do, one word's bytes are another's too.
  pub flags_changed : Apart (area_place c Ros) (area_place c Rws) → (change : Change)
      → interface_in (stored_flags s c change) c
      ≡ reflagged (interface_in s c) (changed_flags change (interface_in s c).flags)
  unfolding interface_in changed_word
  flags_changed apart Nothing = rw (flags_laid s c Nothing ok)
  flags_changed apart (Host act) =
      let stays = with_word_keeps_others s c H2bWrite (changed_word act (word_where true s c H2bWrite)) in
      rw (
        flags_laid s c (Host act) ok,
        laid_back H2bWrite refl act,
        stays B2hRead (inl (omega arith)),
        stays B2hWrite (⊎_elim (λ (h : _). inr (omega arith)) (λ (h : _). inl (omega arith)) apart),
        stays H2bRead (⊎_elim (λ (h : _). inr (omega arith)) (λ (h : _). inl (omega arith)) apart),
      )
  flags_changed apart (Controller act) =
      let stays = with_word_keeps_others s c B2hWrite (changed_word act (word_where true s c B2hWrite)) in
      rw (
        flags_laid s c (Controller act) ok,
        laid_back B2hWrite refl act,
        stays H2bRead (inl (omega arith)),
        stays H2bWrite (⊎_elim (λ (h : _). inl (omega arith)) (λ (h : _). inr (omega arith)) apart),
        stays B2hRead (⊎_elim (λ (h : _). inl (omega arith)) (λ (h : _). inr (omega arith)) apart),
      )
