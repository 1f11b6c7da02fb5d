use Rattle.std.proofs.Common.{◌∙◌, sym, ap}
use Rattle.cob_program.specs.ActView.{plain_program}
use Rattle.cob_runs.specs.Steps.{settled_on, settle}
use Rattle.cob_step.specs.Views.{plain_control}
use Rattle.cob_step.proofs.run.Run.settle.Goals as goal

pub returns-in_ok-settle-in-Going-clause-done : goal.returns-in_ok-settle-in-Going-clause-done
returns-in_ok-settle-in-Going-clause-done c = λ ch.
    let p = plain_program c.args.self.now.world.program in
    let w = c.args.self.now.world.world in
    sym (c.outcome-self.ensures p ch w)
    ∙ ap (λ ds. settled_on p ch w ds) (rw c.program.ensures.value at c.in_ok-settle-in-Going.ensures)
    ∙ ap (λ o. settle p ch w (plain_control c.args.self.now.control) o) (sym c.in-Going.is)
