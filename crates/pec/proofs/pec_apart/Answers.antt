-- `pec::pec_apart` meets its contract.
-- Assumes nothing.
use mathlib.Core.Path.{◌≡◌, sym, ap, ◌∙◌}
use mathlib.Core.List.{◌++◌}
use Prim.Native.Nat.{ℕ}
use Rattle.pec.specs.Remainder.{poly_step, eight_steps, byte_step, pec_from, pec_of}
use Rattle.pec.specs.Words.{word_from}
use Rattle.pec.proofs.Fold.{pec_append}
use Rattle.pec.proofs.pec_apart.Goals as goal

pub returns : goal.returns
unfolding word_from byte_step eight_steps poly_step pec_of
returns c =
    let begun : word_from 0 8 c.behind-begun.result ≡ pec_of c.args.head.now =
    c.behind-begun.ensures in
    let args = c.args in
    let head = args.head.now in
    let header = args.header.now in
    let body = args.body.now in
    c.remainder.ensures ∙ c.behind-2.ensures
    ∙ ap (λ (r : ℕ). pec_from r body)
    (c.behind.ensures ∙ ap (λ (r : ℕ). pec_from r header) begun ∙ sym (pec_append head header))
    ∙ sym (pec_append (head ++ header) body)
