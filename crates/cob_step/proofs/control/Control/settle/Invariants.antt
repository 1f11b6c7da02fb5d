use Rattle.std.proofs.Common.{◌≡◌, length}
use Rattle.cob_program.specs.ActView.{plain_program}
use Rattle.cob_runs.specs.Steps.{settled}
use Rattle.cob_step.specs.Views.{plain_control}
use Rattle.cob_step.proofs.control.Control.settle.Given as goal

abbrev pub invariant-loop-todo : goal.invariant-loop-todo
invariant-loop-todo l =
    settled (plain_program l.program) (plain_control l.self)
    ≡ settled (plain_program l.program) (plain_control l.initial.self)

abbrev pub decreases-loop-todo : goal.decreases-loop-todo
decreases-loop-todo l = length (plain_control l.self)
