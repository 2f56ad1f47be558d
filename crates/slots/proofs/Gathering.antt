-- What need not be asked of the slots where none gathers, or one.
-- Assumes nothing.
use Rattle.std.proofs.Common.{◌≡◌, ℕ, true, ◌&&◌, refl, arith}
use Rattle.slots.specs.declared.state.Setup.{Setup}
use Rattle.slots.specs.declared.state.SlotState.{SlotState}
use Rattle.slots.specs.declared.state.SlotState.TheVariants.{Free, Gathering}
use Rattle.slots.specs.State.{right_slot, clash, four_right, four_apart}
use Rattle.slots.specs.Tallies.{one_gathering, four_sum}

-- none: no rule can be broken
pub none_gathers : (most : ℕ) (s : Setup) (a b c d : SlotState) → four_sum one_gathering a b c d ≡ 0
    → four_right most s a b c d && four_apart a b c d ≡ true
unfolding right_slot clash
none_gathers most s Free Free Free Free e = refl
none_gathers most s Free Free Free (Gathering k q u h) e = absurd (omega arith)
none_gathers most s Free Free (Gathering k q u h) d e = absurd (omega arith)
none_gathers most s Free (Gathering k q u h) c d e = absurd (omega arith)
none_gathers most s (Gathering k q u h) b c d e = absurd (omega arith)

-- one: there is no pair
pub one_gathers : (a b c d : SlotState) → four_sum one_gathering a b c d ≡ 1 → four_apart a b c d ≡ true
unfolding clash
one_gathers Free Free Free d e = refl
one_gathers Free Free (Gathering k q u h) Free e = refl
one_gathers Free Free (Gathering k q u h) (Gathering l r v i) e = absurd (omega arith)
one_gathers Free (Gathering k q u h) Free Free e = refl
one_gathers Free (Gathering k q u h) Free (Gathering l r v i) e = absurd (omega arith)
one_gathers Free (Gathering k q u h) (Gathering l r v i) d e = absurd (omega arith)
one_gathers (Gathering k q u h) Free Free Free e = refl
one_gathers (Gathering k q u h) Free Free (Gathering l r v i) e = absurd (omega arith)
one_gathers (Gathering k q u h) Free (Gathering l r v i) d e = absurd (omega arith)
one_gathers (Gathering k q u h) (Gathering l r v i) c d e = absurd (omega arith)
