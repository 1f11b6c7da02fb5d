use Rattle.std.proofs.Common.{◌∙◌, ◌∷◌, ap}
use Rattle.cob_runs.specs.declared.outcome.Outcome.TheVariants.{Fault}
use Rattle.cob_runs.specs.State.{state}
use Rattle.cob_step.specs.Views.{plain_doing, plain_control}
use Rattle.cob_step.proofs.run.Run.fail.Goals as goal

pub returns-clause-done : goal.returns-clause-done
returns-clause-done c =
    let w = c.args.self.now.world.world in
    ap (λ ds. state w ds (Fault c.args.kind c.number-statement.result)) c.in_ok-push.ensures
    ∙ ap (λ n. state w (plain_doing c.args.front ∷ plain_control c.args.self.now.control) (Fault c.args.kind n))
    c.number-statement.ensures
