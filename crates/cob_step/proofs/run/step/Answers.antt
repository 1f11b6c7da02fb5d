use Rattle.cob_program.specs.ActView.{plain_program}
use Rattle.cob_runs.specs.Steps.{step_on, step}
use Rattle.cob_step.specs.Views.{plain_run}
use Rattle.cob_step.proofs.Kept.{step_is_ready}
use Rattle.cob_step.proofs.Onward.{onto, step_is}
use Rattle.cob_step.proofs.run.step.Goals as goal

pub returns-in-Going-clause-done : goal.returns-in-Going-clause-done
returns-in-Going-clause-done c =
    let p = plain_program c.args.run.now.world.program in
    let s = plain_run c.args.run.now in
    onto c.go_on.result (plain_run c.go_on.new.self) (step_on p c.args.choice.now s s.control)
    (step p c.args.choice.now s)
    (step_is p c.args.choice.now s c.in-Going.is) c.go_on.ensures.done

pub returns-in-Going-clause-ready : goal.returns-in-Going-clause-ready
returns-in-Going-clause-ready c =
    step_is_ready (plain_program c.args.run.now.world.program) c.requires.able c.args.choice.now c.go_on.result
    (plain_run c.args.run.now) (plain_run c.go_on.new.self) c.requires.ready c.go_on.ensures.done
