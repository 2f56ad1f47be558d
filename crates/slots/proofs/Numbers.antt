-- The numbers of a gathering slot taken apart, and put together.
-- Assumes nothing.
use Rattle.std.proofs.Common.{◌≡◌, ℕ, ◌%◌, ◌≤◌, true, ◌&&◌, eqb, leb, lit≤, eq-eqb, eqb-true, le-leb, leb-true}
use Rattle.octets.proofs.Choice.{both}
use Rattle.mctp.specs.declared.packet.Key.{Key}
use Rattle.slots.specs.declared.state.Setup.{Setup}
use Rattle.slots.specs.declared.state.SlotState.{SlotState}
use Rattle.slots.specs.declared.state.SlotState.TheVariants.{Free, Gathering}
use Rattle.slots.specs.Setup.{ours_of}
use Rattle.slots.specs.State.{multiple, right_numbers, right_slot}
use Rattle.slots.specs.Tallies.{bytes_held}

-- "Held is a positive multiple of the unit, at most 1,024; unit is 1 to 64; sequence is 0 to 3"
pub record Numbers (most q u h : ℕ) : Type 0 where
  pub unit_low : 1 ≤ u
  pub unit_high : u ≤ most
  pub whole : h % u ≡ 0
  pub held_low : 1 ≤ h
  pub held_high : h ≤ 1024
  pub sequence : q ≤ 3

pub numbers_of : (most q u h : ℕ) → right_numbers most q u h ≡ true → Numbers most q u h
unfolding right_numbers multiple
numbers_of most q u h e =
    let a = both _ _ e in
    let b = both _ _ a.0 in
    let c = both _ _ b.0 in
    let d = both _ _ c.0 in
    let m = both (leb 1 u) (eqb (h % u) 0) d.1 in
    record {
      unit_low = leb-true 1 u m.0;
      unit_high = leb-true u most d.0;
      whole = eqb-true (h % u) 0 m.1;
      held_low = leb-true 1 h c.1;
      held_high = leb-true h 1024 b.1;
      sequence = leb-true q 3 a.1;
    }

pub numbers_hold : (most q u h : ℕ) → Numbers most q u h → right_numbers most q u h ≡ true
unfolding right_numbers multiple
numbers_hold most q u h n =
    rw (
      le-leb u most n.unit_high,
      le-leb 1 u n.unit_low,
      eq-eqb (h % u) 0 n.whole,
      le-leb 1 h n.held_low,
      le-leb h 1024 n.held_high,
      le-leb q 3 n.sequence,
    )

-- a gathering slot of a right state
pub gathering_of : (most : ℕ) (s : Setup) (k : Key) (q u h : ℕ) → right_slot most s (Gathering k q u h) ≡ true
    → Numbers most q u h × (k.tag ≤ 7) × (ours_of s k.destination.0 ≡ true)
unfolding right_slot
gathering_of most s k q u h e =
    let a = both (right_numbers most q u h && leb k.tag 7) (ours_of s k.destination.0) e in
    let b = both (right_numbers most q u h) (leb k.tag 7) a.0 in
    (numbers_of most q u h b.0, leb-true k.tag 7 b.1, a.1)

-- a right slot holds 1,024 bytes at most
pub slot_holds : (most : ℕ) (s : Setup) (x : SlotState) → right_slot most s x ≡ true → bytes_held x ≤ 1024
slot_holds most s Free e = lit≤ tt
slot_holds most s (Gathering k q u h) e = (gathering_of most s k q u h e).0.held_high

pub gathering_holds : (most : ℕ) (s : Setup) (k : Key) (q u h : ℕ) → Numbers most q u h → k.tag ≤ 7
    → ours_of s k.destination.0 ≡ true
    → right_slot most s (Gathering k q u h) ≡ true
unfolding right_slot
gathering_holds most s k q u h n t o = rw (numbers_hold most q u h n, le-leb k.tag 7 t, o)
