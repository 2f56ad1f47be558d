-- `ring::writing::write_apart` meets its contract: the pieces of a good packet are stored, and a refusal leaves the
-- ring.
-- Assumes nothing.
use mathlib.Core.Path.{sym}
use Rattle.ring.proofs.Writings.{good, good_stored}
use Rattle.ring.proofs.writing.write_apart.Goals as goal

pub fill-requires : goal.fill-requires
fill-requires c =
    rw (← c.size.ensures.pieces) (good_stored _ _ _ _ _ _ _ _ (good _ _ _ _ _ _ _ _ (sym c.in_ok-next.ensures)))
