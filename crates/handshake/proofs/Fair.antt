-- Under any fair order of steps normal runtime comes back, from every state that steps and asks in any order can reach.
-- Assumes nothing.
use mathlib.Core.Path.{◌≡◌, refl, ap, sym, ◌∙◌}
use mathlib.Core.Bool.{Bool, true, false, ◌&&◌, ◌||◌, false≢true}
use mathlib.Core.List.{List, [], ◌∷◌, ◌++◌, map}
use Prim.Native.Nat.{ℕ, zero, suc, ◌+◌, ◌*◌, ◌≤◌}
use native.Mathlib.Omega.{arith}
use native.Mathlib.Nat.{suc-mul}
use lib.ListN.{length, take, drop, length-drop}
use lib.Seq.{take-add, take-take, drop-drop, length-take-le}
use borrow.Author.Tests.{le-leb}
use lib.Dec.{leb}
use Rattle.octets.proofs.Choice.{both, either_way, implies, implied}
use Rattle.handshake.specs.Back.{same_end, is_back, steps_in, Fair, BackWithin, in_turn, Asker, host_asks}
use Rattle.handshake.specs.Back.{controller_asks, both_ask, asking}
use Rattle.handshake.specs.Runs.{Ends, End, the_host, the_controller, stepped, Move, steps, after, running}
use Rattle.handshake.specs.Steps.{host_step, controller_step}
use Rattle.handshake.proofs.Left.{sees, waits, left_within, left, finishes, few_left, finishes_few, one_fewer}
use Rattle.handshake.proofs.Left.{someone_acts_lem, finishes_moved}
use Rattle.handshake.proofs.Left.{finishes_after, back_is_running}

-- steps after steps
after_more : (a b : List End) (e : Ends) → after (map steps (a ++ b)) e ≡ after (map steps b) (after (map steps a) e)
unfolding after
after_more [] b e = refl
after_more (end ∷ a) b e = after_more a b (stepped end e)

-- the first step that acts, among steps of which one is by an end that acts now
record Act (order : List End) (e : Ends) : Type 0 where
  count : ℕ
  end : End
  within : count ≤ length order
  acts : sees end e ≡ true
  leaves : after (map steps (take count order)) e ≡ stepped end e

same_sees : (a b : End) (e : Ends) → same_end a b ≡ true → sees a e ≡ sees b e
same_sees the_host the_host e h = refl
same_sees the_host the_controller e h = absurd (false≢true h)
same_sees the_controller the_host e h = absurd (false≢true h)
same_sees the_controller the_controller e h = refl

-- an end that acts now, where the next step waits, is not the next one
not_next : (end next : End) (order : List End) (e : Ends) → sees end e ≡ true → sees next e ≡ false
    → steps_in end (next ∷ order) ≡ true → steps_in end order ≡ true
unfolding steps_in
not_next end next order e acts n = behind (same_end end next) refl
  where
    behind : (b : Bool) → same_end end next ≡ b → (b || steps_in end order) ≡ true → steps_in end order ≡ true
    behind true s k = absurd (false≢true (sym n ∙ sym (same_sees end next e s) ∙ acts))
    behind false s k = k

first_act : (order : List End) (end : End) (e : Ends) → sees end e ≡ true → steps_in end order ≡ true → Act order e
unfolding steps_in after
first_act [] end e acts h = absurd (false≢true h)
first_act (next ∷ order) end e acts h =
    either_way (sees next e)
    (λ (s : sees next e ≡ true).
    record { count = 1; end = next; within = omega arith; acts = s; leaves = refl })
    (λ (s : sees next e ≡ false).
    let rest = first_act order end e acts (not_next end next order e acts s h) in
    record {
      count = suc rest.count;
      end = rest.end;
      within = omega (arith, rest.within);
      acts = rest.acts;
      leaves = ap (λ (x : Ends). after (map steps (take rest.count order)) x) (waits next e s) ∙ rest.leaves;
    })

-- a fair order is fair from every place on
fair_from : (k j : ℕ) (order : List End) → j ≤ length order → Fair k order → Fair k (drop j order)
unfolding Fair
fair_from k j order h fair end before long =
    rw (drop-drop before j order) (fair end (j + before) (omega (arith, length-drop j order)))

-- one act, and then the rest: in k steps somebody acts
module _ (k : ℕ) (order : List End) (e : Ends) (n : ℕ) where
  on_from : (first : Act (take k order) e) → n * k + k ≤ length order
      → BackWithin (n * k) (drop first.count order) (stepped first.end e)
      → BackWithin (n * k + k) order e
  on_from first long rest =
      let j = first.count in
      let soon : j ≤ k = omega (arith, first.within, length-take-le k order (omega arith)) in
      let now : after (map steps (take j order)) e ≡ stepped first.end e =
      ap (λ (l : List End). after (map steps l) e) (sym (take-take j k order soon)) ∙ first.leaves in
      record {
        count = j + rest.count;
        soon = omega (arith, rest.soon);
        back =
            ap (λ (l : List End). after (map steps l) e) (take-add j rest.count order)
            ∙ after_more (take j order) (take rest.count (drop j order)) e
            ∙ ap (λ (x : Ends). after (map steps (take rest.count (drop j order))) x) now
            ∙ rest.back;
      }

-- no step is wanted where it is back
already : (most : ℕ) (order : List End) (e : Ends) → is_back e ≡ true → BackWithin most order e
unfolding after
already most order e b = record { count = 0; soon = omega arith; back = back_is_running e b }

-- in k steps of a fair order somebody acts, unless it is back
next_act : (k : ℕ) (order : List End) (e : Ends) → finishes e ≡ true → Fair k order → k ≤ length order
    → is_back e ≡ false → Act (take k order) e
unfolding Fair
next_act k order e can fair long b =
    let acting = someone_acts_lem e can b in
    first_act (take k order) acting.0 e acting.1 (fair acting.0 0 (omega arith))

-- so many acts are left: that many times k steps are enough
abbrev Enough : ℕ → ℕ → Type 0
Enough k n = (order : List End) (e : Ends) → finishes e ≡ true → left e ≤ n → Fair k order → n * k ≤ length order
    → BackWithin (n * k) order e

none_wanted : (k : ℕ) → Enough k 0
none_wanted k order e can few fair long =
    either_way (is_back e) (already (0 * k) order e)
    (λ (b : is_back e ≡ false).
    let acting = someone_acts_lem e can b in
    absurd (omega (arith, one_fewer e can acting.0 acting.1)))

one_more_lem : (k n : ℕ) → Enough k n → Enough k (suc n)
one_more_lem k n enough order e can few fair long =
    either_way (is_back e) (already (suc n * k) order e)
    (λ (b : is_back e ≡ false).
    let more : suc n * k ≡ n * k + k = suc-mul n k in
    let first = next_act k order e can fair (omega arith) b in
    let within : first.count ≤ k = omega (arith, first.within, length-take-le k order (omega arith)) in
    rw more
    (on_from k order e n first (omega arith)
    (enough (drop first.count order) (stepped first.end e)
    (finishes_moved (steps first.end) e can) (omega (arith, one_fewer e can first.end first.acts))
    (fair_from k first.count order (omega arith) fair)
    (omega (arith, length-drop first.count order)))))

pub back_within : (k n : ℕ) → Enough k n
back_within k zero = none_wanted k
back_within k (suc n) = one_more_lem k n (back_within k n)

-- from normal runtime with one end asking, or both
asking_left : (asker : Asker) → left (asking asker) ≡ 7
unfolding left left_within host_step controller_step
asking_left host_asks = refl
asking_left controller_asks = refl
asking_left both_ask = refl

pub back_from_asking : (asker : Asker) (k : ℕ) (order : List End) → Fair k order → 7 * k ≤ length order
    → BackWithin (7 * k) order (asking asker)
back_from_asking asker k order fair long =
    let seven = asking_left asker in
    back_within k 7 order (asking asker) (finishes_few (asking asker) (omega arith)) (omega arith) fair long

-- from whatever steps and asks lead to, and so nothing that can be reached is stuck
pub running_finishes : finishes running ≡ true
unfolding finishes left left_within
running_finishes = refl

pub back_from_anywhere : (history : List Move) (k : ℕ) (order : List End) → Fair k order → 8 * k ≤ length order
    → BackWithin (8 * k) order (after history running)
back_from_anywhere history k order fair long =
    let can = finishes_after history running running_finishes in
    back_within k 8 order (after history running) can (few_left (after history running) can) fair long

-- an order that is written out is fair by a test of each k neighbours, so the premise can be met
abbrev both_step : ℕ → List End → Bool
both_step k order =
    implies (leb k (length order)) (steps_in the_host (take k order) && steps_in the_controller (take k order))

abbrev pub each_fair : ℕ → List End → Bool
each_fair k [] = both_step k []
each_fair k (end ∷ order) = both_step k (end ∷ order) && each_fair k order

both_step_lem : (k : ℕ) (order : List End) → both_step k order ≡ true → k ≤ length order → (end : End)
    → steps_in end (take k order) ≡ true
both_step_lem k order t h = of
  where
    each : (steps_in the_host (take k order) ≡ true) × (steps_in the_controller (take k order) ≡ true)
    each =
        both (steps_in the_host (take k order)) (steps_in the_controller (take k order))
        (implied (leb k (length order)) _ t (le-leb k (length order) h))

    of : (end : End) → steps_in end (take k order) ≡ true
    of the_host = each.0
    of the_controller = each.1

fair_at : (k : ℕ) (order : List End) → each_fair k order ≡ true → (end : End) (before : ℕ) → before + k ≤ length order
    → steps_in end (take k (drop before order)) ≡ true
fair_at k [] t end zero h = both_step_lem k [] t (omega arith) end
fair_at k [] t end (suc before) h = absurd (omega arith)
fair_at k (first ∷ order) t end zero h =
    both_step_lem k (first ∷ order) (both (both_step k (first ∷ order)) (each_fair k order) t).0 (omega arith) end
fair_at k (first ∷ order) t end (suc before) h =
    fair_at k order (both (both_step k (first ∷ order)) (each_fair k order) t).1 end before (omega arith)

pub fair_order : (k : ℕ) (order : List End) → each_fair k order ≡ true → Fair k order
unfolding Fair
fair_order = fair_at

-- in turn, which is fair with k = 2; and the host twice, then the controller, which is fair with k = 3 and not with 2
abbrev pub uneven : List End
uneven =
    the_host ∷ the_host ∷ the_controller ∷ the_host ∷ the_host ∷ the_controller ∷ the_host ∷ the_host ∷ the_controller
    ∷ the_host
    ∷ the_host ∷ the_controller ∷ the_host ∷ the_host ∷ the_controller ∷ the_host ∷ the_host ∷ the_controller ∷ the_host
    ∷ the_host ∷ the_controller ∷ []

pub fair_orders :
    (each_fair 2 (in_turn the_host 16) ≡ true) × (each_fair 3 uneven ≡ true) × (each_fair 2 uneven ≡ false)
    × (each_fair 0 [] ≡ false)
unfolding steps_in
fair_orders = (refl, refl, refl, refl)
