-- Writing: what the check order answers, which inputs are good, and what is known of a good one.
-- Assumes nothing.
use mathlib.Core.Path.{◌≡◌, refl, ap, sym, ◌∙◌}
use mathlib.Core.Bool.{Bool, true, false, false≢true}
use mathlib.Core.List.{List}
use Prim.Native.Nat.{ℕ, ◌+◌, ◌≤◌}
use native.Mathlib.Omega.{arith}
use borrow.Author.Tests.{leb-true, le-leb}
use lib.Dec.{eqb}
use lib.ListN.{drop}
use Rattle.octets.specs.Checks.{Check}
use Rattle.octets.proofs.Checks.{answer_at, Hold, FailsAt, first_failing_lem, none_failing, all_hold}
use Rattle.octets.proofs.Choice.{within_bounds, within_holds}
use Rattle.mmbi.proofs.PointerNumbers.{Pointer}
use Rattle.ring.specs.Numbers.{set_up_right, filled_of, room_of, next_of}
use Rattle.ring.specs.Layout.{whole_for}
use Rattle.ring.specs.Writing.{Entered, entered, refused, write_order, entered_of}
use Rattle.ring.proofs.Numbers.{SetUp, set_up_facts, set_up_holds, pointers_facts, pointers_holds}
use Rattle.ring.proofs.Numbers.{filled_near, filled_room, filled_written}

-- what a good input is, each fact by its name
pub record Good (most lent configured : ℕ) (running : Bool) (read write size next : ℕ) : Type 0 where
  pub set_up : SetUp most configured lent
  pub least : 5 ≤ size
  pub largest : size ≤ 4 + most
  pub runs : running ≡ true
  pub from : Pointer configured read
  pub to : Pointer configured write
  pub room : whole_for size ≤ room_of configured read write
  pub after : next ≡ next_of configured write (whole_for size)

-- an answer that is a pointer, and one that is 1
abbrev is_entered : Entered → Bool
is_entered (entered next) = true
is_entered (refused number) = false

abbrev is_one : Entered → Bool
is_one (entered next) = false
is_one (refused number) = eqb number 1

-- what the order answers
module _ (most lent configured : ℕ) (running : Bool) (read write size : ℕ) where
  abbrev order : List (Check Entered)
  order = write_order most lent configured running read write size

  abbrev last : Entered
  last = entered (next_of configured write (whole_for size))

  pub entered_failing : (i : ℕ) → FailsAt order i
      → entered_of most lent configured running read write size ≡ answer_at order last i
  unfolding entered_of
  entered_failing = first_failing_lem order last

  pub entered_all : Hold order → entered_of most lent configured running read write size ≡ last
  unfolding entered_of
  entered_all = none_failing order last

  -- a ring of a right length, lent whole, never gets 1
  pub entered_not_1 : set_up_right most configured lent ≡ true
      → entered_of most lent configured running read write size ≡ refused 1 → ⊥
  unfolding entered_of
  entered_not_1 set_up e =
      let one = rw set_up at (ap is_one e) in
      let h = all_hold is_one (drop 1 order) last refl one in
      false≢true (sym (ap is_one (none_failing (drop 1 order) last h)) ∙ one)

  module _ (next : ℕ) where
    -- a writing that gives a pointer was of a good input
    pub good : entered_of most lent configured running read write size ≡ entered next
        → Good most lent configured running read write size next
    unfolding entered_of
    good e =
        let h = all_hold is_entered order _ refl (ap is_entered e) in
        let is = sym (none_failing order _ h) ∙ e in
        let on : next_of configured write (whole_for size) ≡ next = cc is in
        let bounds = within_bounds 5 (4 + most) size h.1.0 in
        let pointers = pointers_facts configured read write h.1.1.1.0 in
        record {
          set_up = set_up_facts most configured lent h.0;
          least = bounds.0;
          largest = bounds.1;
          runs = h.1.1.0;
          from = pointers.0;
          to = pointers.1;
          room = leb-true (whole_for size) (room_of configured read write) h.1.1.1.1.0;
          after = sym on;
        }

    -- and a good input is written
    pub good_entered : Good most lent configured running read write size next
        → entered_of most lent configured running read write size ≡ entered next
    good_entered h =
        let set_up = set_up_holds most configured lent h.set_up in
        let sized = within_holds 5 (4 + most) size h.least h.largest in
        let pointers = pointers_holds configured read write h.from h.to in
        let room = le-leb (whole_for size) (room_of configured read write) h.room in
        entered_all (set_up, (sized, (h.runs, (pointers, (room, tt)))))
        ∙ ap entered (sym h.after)

    -- what is filled and what is written stay below the ring's length by four at least
    pub good_fits : Good most lent configured running read write size next
        → filled_of configured read write + whole_for size + 4 ≤ configured
    good_fits h = omega (arith, h.room, filled_room configured read write h.set_up.size h.from h.to)

    -- so it can be stored
    pub good_stored : Good most lent configured running read write size next
        → (lent ≤ 65536) × (write + 4 ≤ lent) × (size ≤ 250) × (whole_for size ≤ lent)
    good_stored h = (
      omega (arith, h.set_up.same, h.set_up.size.high),
      omega (arith, h.set_up.same, h.set_up.size.fours, h.to.fours, h.to.below),
      omega (arith, h.largest, h.set_up.high),
      omega (arith, h.set_up.same, good_fits h),
    )

    -- a full ring never looks empty: the new write pointer is not the read pointer
    pub good_apart : Good most lent configured running read write size next → next ≡ read → ⊥
    good_apart h e =
        let fits = good_fits h in
        let more = filled_written configured read write (whole_for size) h.from.below h.to.below (omega arith) in
        let none = filled_near configured read read (omega arith) h.from.below in
        omega (arith, ap (filled_of configured read) (sym h.after ∙ e))
