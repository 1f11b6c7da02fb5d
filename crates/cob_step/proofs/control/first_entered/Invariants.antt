use Rattle.std.proofs.Common.{◌≡◌, ◌-◌, suc, List}
use Rattle.cob_program.specs.ActView.{plain_program}
use Rattle.cob_runs.specs.State.{Doing}
use Rattle.cob_runs.specs.Steps.{entered}
use Rattle.cob_step.proofs.control.first_entered.Given as goal

abbrev pub invariant-loop-place : goal.invariant-loop-place
invariant-loop-place l = (ds behind : List Doing) →
    entered (plain_program l.program) (suc l.last - l.place) l.place l.last ds behind
    ≡ entered (plain_program l.program) (suc l.last - l.first) l.first l.last ds behind
