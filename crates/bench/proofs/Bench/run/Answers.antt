-- `bench::Bench::run` meets its contract.
-- Assumes nothing.
use mathlib.Core.Path.{◌≡◌, subst}
use native.Mathlib.Omega.{arith}
use Rattle.bench.specs.declared.Bench.{Bench}
use Rattle.bench.specs.Main.{Finishes}
use Rattle.bench.proofs.Runs.{along_start, along_turn, run_finished, run_stopped}
use Rattle.bench.proofs.Bench.run.Goals as goal
use Rattle.bench.proofs.Bench.run.Goals.{else-loop-test, then-loop-test+in_ok-turn+then-not-branch}

pub loop-init : goal.loop-init
loop-init c = along_start c.args.self.now c.requires.fresh.0 c.requires.fresh.1 c.requires.fresh.2

pub loop-preserved : goal.loop-preserved
loop-preserved c = along_turn c.loop.invariant c.in_ok-turn.ensures.taken

pub returns : goal.returns
returns c =
    let finished : (b : Bench) → c.loop-test.self ≡ b → Finishes b c.finish.new.self =
    λ (b : Bench) (e : c.loop-test.self ≡ b). subst (λ (x : Bench). Finishes x c.finish.new.self) e c.finish.ensures in
    elim c.loop-test.branch [
      | else-loop-test w ↦ run_finished c.loop.invariant (finished c.loop.self w.self-is)
          (λ e. omega (arith, c.loop.invariant.passed, w.loop-test.false))
      | then-loop-test+in_ok-turn+then-not-branch w ↦
          run_stopped c.loop.invariant w.in_ok-turn.ensures.taken w.if-not-branch.true
          (finished w.turn.new.self w.self-is)
    ]
