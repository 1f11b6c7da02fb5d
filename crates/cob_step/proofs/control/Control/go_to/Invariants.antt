use Rattle.std.proofs.Common.{◌≡◌, length}
use Rattle.cob_runs.specs.Steps.{gone_to}
use Rattle.cob_step.specs.Views.{plain_control}
use Rattle.cob_step.proofs.control.Control.go_to.Given as goal

abbrev pub invariant-loop-todo : goal.invariant-loop-todo
invariant-loop-todo l = gone_to l.place (plain_control l.self) ≡ gone_to l.place (plain_control l.initial.self)

abbrev pub decreases-loop-todo : goal.decreases-loop-todo
decreases-loop-todo l = length (plain_control l.self)
