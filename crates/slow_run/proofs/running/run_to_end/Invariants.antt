use Rattle.std.proofs.Common.{◌≡◌}
use Rattle.cob_program.specs.ActView.{plain_program}
use Rattle.cob_step.specs.Ready.{IsReady}
use Rattle.cob_step.specs.Views.{plain_run}
use Rattle.slow_run.proofs.running.run_to_end.Given as goal

abbrev pub invariant-loop-steps : goal.invariant-loop-steps
invariant-loop-steps l = (l.run.world.program ≡ l.program) × IsReady (plain_program l.program) (plain_run l.run)
