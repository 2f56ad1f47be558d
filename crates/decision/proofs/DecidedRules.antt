-- Every decision, at once: what is known of a packet that is refused, of a slot that is released, and of a body that
-- is put.
-- Assumes nothing.
use mathlib.Core.Path.{◌≡◌, refl, ap, sym, ◌∙◌}
use mathlib.Core.Bool.{Bool, true, false, ◌||◌, or-true, true≢false}
use mathlib.Core.List.{List}
use mathlib.Core.Logic.{by_cases}
use Prim.Native.Nat.{ℕ, ◌+◌, ◌%◌, ◌≤◌, ◌<◌}
use native.Mathlib.Nat.{mod_self, add-mod_right}
use native.Mathlib.Decide.{dec_lt}
use native.Mathlib.Omega.{arith}
use borrow.Author.Tests.{ltb-true, ltb-false, leb-true, eqb-true}
use lib.Dec.{ltb}
use lib.ListN.{length, length-drop, get_or-eq_default}
use Rattle.octets.specs.Choice.{within}
use Rattle.octets.proofs.Choice.{pick_elim, either_way, within_bounds}
use Rattle.octets.proofs.Checks.{every_answer}
use Rattle.mctp.specs.declared.packet.Key.{Key}
use Rattle.mctp.specs.declared.packet.Header.{Header}
use Rattle.mctp.specs.Packet.{size_right, body_of, destination_of}
use Rattle.mctp.specs.Key.{key_of, header_of}
use Rattle.mctp.proofs.Keys.{sequence_below, tag_below}
use Rattle.slots.specs.declared.state.Setup.{Setup}
use Rattle.slots.specs.declared.state.Slot.{Slot}
use Rattle.slots.specs.declared.state.SlotState.{SlotState}
use Rattle.slots.specs.declared.state.SlotState.TheVariants.{Free, Gathering}
use Rattle.slots.specs.declared.state.Receiver.{Receiver}
use Rattle.slots.specs.Setup.{ours_of}
use Rattle.slots.specs.Slots.{free_slot, slot_at, is_free, has_key, slot_of, lowest_free}
use Rattle.slots.specs.State.{right_slot, clash, right_state}
use Rattle.slots.proofs.States.{Right, right_of, most_bounds}
use Rattle.slots.proofs.Found.{key_alone, slot_of_has, slot_of_none, lowest_is_free}
use Rattle.slots.proofs.Numbers.{Numbers, gathering_of, gathering_holds}
use Rattle.decision.specs.Rules.{Decision, refuse, release, put, after, unit_right, on_start, gather_order, gathered}
use Rattle.decision.specs.Rules.{follow, on_follow, ruled}
use Rattle.decision.specs.Decision.{check_order, decided}

-- a slot that a packet of key k may take
abbrev pub MayTake : Key → SlotState → Type 0
MayTake k s = (is_free s || has_key k s) ≡ true

-- what every put body has: its slot and its place there, and a state for the slot that keeps the whole state right
pub record Fits (most : ℕ) (r : Receiver) (p : List ℕ) (i at : ℕ) (then : SlotState) : Type 0 where
  pub slot : i < 4
  pub taken : MayTake (key_of p) (slot_at r.slots i)
  pub place : at + length (body_of p) ≤ 1024
  pub size : (5 ≤ length p) × (length p ≤ 4 + most)
  pub right : right_slot most r.setup then ≡ true
  pub alone : (j : ℕ) → j < 4 → (i ≡ j → ⊥) → clash then (slot_at r.slots j) ≡ false

-- the numbers that free no slot: 1, 2, 3 and 15 to 19
abbrev pub frees_none : ℕ → Bool
frees_none n = within 1 3 n || within 15 19 n

-- What holds in these three cases holds of the decision on any packet in any state (`every_decision`, below): every
-- refusal with one of these numbers, every release with 20 to 22 of the slot that has the packet's key, every body put
-- where it fits.
pub record Cases (most : ℕ) (r : Receiver) (size : ℕ) (p : List ℕ) (P : Decision → Type 0) : Type 0 where
  pub refuses : (n : ℕ) → frees_none n ≡ true → P (refuse n)
  pub releases : right_state most r ≡ true → (i n : ℕ) → i < 4 → within 20 22 n ≡ true
      → has_key (key_of p) (slot_at r.slots i) ≡ true
      → P (release i n)
  pub puts : right_state most r ≡ true → size ≡ 4096 → (i at : ℕ) (again : Bool) (then : SlotState)
      → Fits most r p i at then
      → P (put i at again then)

-- the slot's state after a packet is right, and its key is no other slot's
after_right : (most : ℕ) (s : Setup) (h : Header) (unit held : ℕ)
    → (h.end ≡ false → Numbers most h.sequence unit held)
    → h.key.tag ≤ 7 → ours_of s h.key.destination.0 ≡ true → right_slot most s (after h unit held) ≡ true
unfolding after right_slot
after_right most s h unit held n t o =
    pick_elim (λ x. right_slot most s x ≡ true) h.end Free (Gathering h.key h.sequence unit held)
    (λ e. refl)
    (λ e. gathering_holds most s h.key h.sequence unit held (n e) t o)

after_alone : (h : Header) (unit held : ℕ) (t : SlotState) → has_key h.key t ≡ false
    → clash (after h unit held) t ≡ false
unfolding after clash
after_alone h unit held t e =
    pick_elim (λ x. clash x t ≡ false) h.end Free (Gathering h.key h.sequence unit held) (λ f. refl) (λ f. e)

-- a place that gathers is one of the four slots
gathers_below : (l : List Slot) (i : ℕ) (k : Key) (q u h : ℕ) → length l ≡ 4 → slot_at l i ≡ Gathering k q u h → i < 4
gathers_below l i k q u h four e =
    by_cases (dec_lt i 4) (λ (b : i < 4). b)
    (λ (n : i < 4 → ⊥).
    let past : length l ≤ i = omega arith in
    absurd (true≢false (sym (ap (λ (x : Slot). is_free x.state)
    (get_or-eq_default l free_slot past)) ∙ ap is_free e)))

-- a packet that no check refuses, in a right state and a memory of the right size
module _ (most : ℕ) (r : Receiver) (size : ℕ) (p : List ℕ) (P : Decision → Type 0) (cases : Cases most r size p P)
    (right : right_state most r ≡ true) (whole : size ≡ 4096) (sized : size_right most (length p) ≡ true)
    (mine : ours_of r.setup (destination_of p) ≡ true) where
  abbrev head : Header
  head = header_of p

  abbrev n : ℕ
  n = length (body_of p)

  abbrev slot : ℕ → SlotState
  slot i = slot_at r.slots i

  abbrev own : ℕ
  own = slot_of r.slots (header_of p).key

  abbrev lowest : ℕ
  lowest = lowest_free r.slots 0 4

  R : Right most r
  R = right_of most r right

  bounds : (5 ≤ length p) × (length p ≤ 4 + most)
  bounds = within_bounds 5 (4 + most) (length p) sized

  body : (1 ≤ n) × (n ≤ most) × (most ≤ 246)
  body = omega (arith, bounds, length-drop 4 p, most_bounds most r right)

  tag : head.key.tag ≤ 7
  unfolding header_of key_of
  tag = omega (arith, tag_below p)

  ours : ours_of r.setup head.key.destination.0 ≡ true
  unfolding header_of key_of
  ours = mine

  last : head.sequence ≤ 3
  unfolding header_of
  last = omega (arith, sequence_below p)

  -- the header's key is the packet's
  has_packet_key : (i : ℕ) → has_key head.key (slot i) ≡ true → has_key (key_of p) (slot i) ≡ true
  unfolding header_of
  has_packet_key i e = e

  may-take : (i : ℕ) → has_key head.key (slot i) ≡ true → MayTake (key_of p) (slot i)
  may-take i e = rw (has_packet_key i e) (or-true (is_free (slot i)))

  -- a body fits where there is room for it, what it leaves is right unless it is the end, and no other slot has its key
  fits : (i at unit held : ℕ) → i < 4 → MayTake (key_of p) (slot i) → at + n ≤ 1024
      → (head.end ≡ false → Numbers most head.sequence unit held)
      → ((j : ℕ) → j < 4 → (i ≡ j → ⊥) → has_key head.key (slot j) ≡ false)
      → Fits most r p i at (after head unit held)
  fits i at unit held h t room numbers alone =
      record {
        slot = h;
        taken = t;
        place = room;
        size = bounds;
        right = after_right most r.setup head unit held numbers tag ours;
        alone = λ j hj d. after_alone head unit held (slot j) (alone j hj d);
      }

  start_fits : (i : ℕ) → i < 4 → MayTake (key_of p) (slot i)
      → ((j : ℕ) → j < 4 → (i ≡ j → ⊥) → has_key head.key (slot j) ≡ false)
      → Fits most r p i 0 (after head n n)
  start_fits i h t alone =
      fits i 0 n n h t (omega (arith, body))
      (λ e. record {
        unit_low = body.0;
        unit_high = body.1;
        whole = mod_self n;
        held_low = body.0;
        held_high = omega (arith, body);
        sequence = last;
      })
      alone

  by_start : P (on_start r.slots head n)
  unfolding on_start
  by_start =
      pick_elim P (ltb own 4) _ _
      (λ e.
      let low = ltb-true own 4 e in
      let has = slot_of_has r.slots head.key low in
      cases.puts right whole _ _ _ _ (start_fits own low (may-take own has)
      (λ j hj d. key_alone most r R head.key own j low hj d has)))
      (λ e.
      pick_elim P (ltb lowest 4) _ _
      (λ f.
      let low = ltb-true lowest 4 f in
      cases.puts right whole _ _ _ _ (start_fits lowest low (rw (lowest_is_free r.slots low))
      (λ j hj d. slot_of_none r.slots head.key (ltb-false own 4 e) j hj)))
      (λ f. cases.refuses 18 refl))

  module _ (k : Key) (q u held : ℕ) (e : slot own ≡ Gathering k q u held) where
    low : own < 4
    low = gathers_below r.slots own k q u held R.four e

    has : has_key head.key (slot own) ≡ true
    has = slot_of_has r.slots head.key low

    numbers : Numbers most q u held
    numbers = (gathering_of most r.setup k q u held (ap (right_slot most r.setup) (sym e) ∙ R.each own low)).0

    append_fits : unit_right head.end u n ≡ true → held + n ≤ 1024
        → Fits most r p own held (after head u (held + n))
    append_fits unit room =
        let same : head.end ≡ false → n ≡ u =
        λ d. eqb-true n u (ap (λ (b : Bool). unit_right b u n) (sym d) ∙ unit) in
        fits own held u (held + n) low (may-take own has) room
        (λ d. record {
          unit_low = numbers.unit_low;
          unit_high = numbers.unit_high;
          whole = ap (λ (x : ℕ). (held + x) % u) (same d) ∙ add-mod_right held u ∙ numbers.whole;
          held_low = omega (arith, numbers.held_low);
          held_high = room;
          sequence = last;
        })
        (λ j hj d. key_alone most r R head.key own j low hj d has)

    freed : (n : ℕ) → within 20 22 n ≡ true → P (release own n)
    freed n e = cases.releases right own n low e (has_packet_key own has)

    by_gathered : P (gathered own q u held head n)
    unfolding gathered
    by_gathered =
        every_answer P (gather_order own q u held head n) _
        (freed 20 refl, (freed 21 refl, (freed 22 refl, tt)))
        (λ h. cases.puts right whole _ _ _ _ (append_fits h.1.0 (leb-true (held + n) 1024 h.1.1.0)))

  by_state : (s : SlotState) → slot own ≡ s → P (follow own s head n)
  by_state Free e = cases.refuses 19 refl
  by_state (Gathering k q u held) e = by_gathered k q u held e

  by_rules : P (ruled r.slots head n)
  unfolding ruled on_follow
  by_rules = pick_elim P head.start _ _ (λ e. by_start) (λ e. by_state (slot own) refl)

pub every_decision : (most : ℕ) (r : Receiver) (size : ℕ) (p : List ℕ) (P : Decision → Type 0)
    → Cases most r size p P
    → P (decided most r size p)
unfolding decided
every_decision most r size p P cases =
    let refuses = cases.refuses in
    every_answer P (check_order most r size p) _
    (refuses 1 refl, (refuses 2 refl, (refuses 3 refl, (refuses 15 refl, (refuses 16 refl, (refuses 17 refl, tt))))))
    (λ h. by_rules most r size p P cases h.0 (eqb-true size 4096 h.1.0) h.1.1.0 h.1.1.1.1.0)

-- What it takes to carry a decision out: a slot that there is, and room in it for the body. "20, 21, 22: number; that
-- slot becomes free": the others free none. A body lies in its slot's own 1,024 bytes.
abbrev pub Possible : List ℕ → Decision → Type 0
Possible p (refuse n) = (1 ≤ n) × (n ≤ 19)
Possible p (release slot n) = (slot < 4) × ((20 ≤ n) × (n ≤ 22))
Possible p (put slot at again then) = (slot < 4) × (4 < length p) × (at + length (body_of p) ≤ 1024)

pub frees_none_bounds : (n : ℕ) → frees_none n ≡ true → (1 ≤ n) × (n ≤ 19)
frees_none_bounds n e =
    either_way (within 1 3 n)
    (λ low. let h = within_bounds 1 3 n low in (h.0, omega (arith, h.1)))
    (λ high. let h = within_bounds 15 19 n (ap (λ (b : Bool). b || within 15 19 n) (sym high) ∙ e) in
    (omega (arith, h.0), h.1))

-- every decision can be carried out
pub decision_possible : (most : ℕ) (r : Receiver) (size : ℕ) (p : List ℕ) → Possible p (decided most r size p)
decision_possible most r size p =
    every_decision most r size p (Possible p)
    (record {
      refuses = frees_none_bounds;
      releases = λ e i n h b k. (h, within_bounds 20 22 n b);
      puts = λ e s i at again then f. (f.slot, omega (arith, f.size), f.place);
    })
