-- `transcript::taking::chunk` meets its contract. The loop's invariant: the frames taken so far are its first, and made
-- what is there. The measure is what is left of the input. Assumes nothing.
use mathlib.Core.Path.{refl, sym, ◌∙◌}
use native.Mathlib.Omega.{arith}
use Rattle.records.proofs.Walks.{rest_short}
use Rattle.transcript.proofs.Places.{no_whole}
use Rattle.transcript.proofs.Frames.{frames_none, frames_full}
use Rattle.transcript.proofs.Along.{along_start, along_done, stands, along_more}
use Rattle.transcript.proofs.taking.chunk.Goals as goal

pub slice_bounds-frame_line-start : goal.slice_bounds-frame_line-start
slice_bounds-frame_line-start c =
    let standing = stands c.loop-output.invariant.0 (sym c.record_at.ensures ∙ c.in-Whole.is) (omega arith) in
    omega (arith, standing.ends)

pub slice_bounds-frame_line-end : goal.slice_bounds-frame_line-end
slice_bounds-frame_line-end c =
    let standing = stands c.loop-output.invariant.0 (sym c.record_at.ensures ∙ c.in-Whole.is) (omega arith) in
    omega (arith, standing.ends)

pub loop-output-smaller : goal.loop-output-smaller
loop-output-smaller c =
    let standing = stands c.loop-output.invariant.0 (sym c.record_at.ensures ∙ c.in-Whole.is) (omega arith) in
    omega (arith, standing.inside, standing.follows)

pub loop-output-preserved : goal.loop-output-preserved
loop-output-preserved c =
    let whole = sym c.record_at.ensures ∙ c.in-Whole.is in
    let on = along_more c.loop-output.invariant.0 whole (omega arith) (
      c.frame_line-framed.ensures.state,
      (
        c.frame_line-framed.ensures.memory,
        (c.frame_line-framed.ensures.behind, c.frame_line-framed.ensures.output),
      ),
    ) in
    (on.1, on.0 ∙ c.loop-output.invariant.1, c.frame_line-framed.auto.memory ∙ c.loop-output.invariant.2)

pub returns-after-loop-output : goal.returns-after-loop-output
returns-after-loop-output c =
    let the_parts = along_done c.loop-output.invariant.0 (frames_full _ _ _ _ (omega arith)) in
    record {
      state = the_parts.0;
      memory = the_parts.1.0;
      read = the_parts.1.1.0;
      written = the_parts.1.1.1.0;
      output = the_parts.1.1.1.1;
      short = rest_short c.args.input.now (λ i. (c.shared_slice_known-1.given i).fits);
    }

pub returns-in_default : goal.returns-in_default
returns-in_default c =
    let none = no_whole c.args.input.now c.loop-output.read _ c.in_default.not-Whole
    (sym c.record_at.ensures) in
    let the_parts = along_done c.loop-output.invariant.0
    (rw none (frames_none c.loop-output.state c.loop-output.memory _)) in
    record {
      state = the_parts.0;
      memory = the_parts.1.0;
      read = the_parts.1.1.0;
      written = the_parts.1.1.1.0;
      output = the_parts.1.1.1.1;
      short = rest_short c.args.input.now (λ i. (c.shared_slice_known-1.given i).fits);
    }

pub loop-output-init : goal.loop-output-init
loop-output-init c = (along_start _ _ _ _, refl, refl)

pub overflow_add-end : goal.overflow_add-end
overflow_add-end c =
    let standing = stands c.loop-output.invariant.0 (sym c.record_at.ensures ∙ c.in-Whole.is) (omega arith) in
    omega (arith, standing.ends)
